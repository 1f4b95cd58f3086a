-- The entries of a column by the fields of their keys: on new keys exactly those with x from a to b; on old keys by the sides of 0 on which a and b lie.
-- Assumes nothing.
use Rattle.std.specs.Prelude.{ℕ, ◌/◌, ◌%◌, ◌^◌, ◌≡◌, Bool, ◌||◌, List, [], ◌↔◌, T, eqb, ℤ, pos, negsuc, ◌≤ℤ◌, ◌<ℤ◌}
use Rattle.std.proofs.Math.Path.{refl}
use Rattle.std.proofs.Common.{sym, ap, ◌∙◌, subst, true≢false}
use Rattle.std.proofs.Math.Bool.{true, false}
use Rattle.std.specs.Int.Signed.{le_z, non_neg, <ℤ-≤ℤ_trans, clash_ℤ}
use Rattle.format.specs.declared.Entry.{Entry}
use Rattle.format.specs.declared.Packing.TheVariants.{TwosComplement, Plus128}
use Rattle.format.specs.Layout.{Layout, Limits}
use Rattle.format.specs.Entries.{list}
use Rattle.format.specs.Key.{fields_of}
use Rattle.format.specs.declared.KeyFields.{KeyFields}
use Rattle.format.specs.Range.{select}
use Rattle.format.specs.Lookup.{In}
use Rattle.format.specs.Column.{from_to, takes, OfEye, eye_with, column}
use Rattle.format.proofs.Laws.Numbers.Tests.{and-true, second-fails, not-passed}
use Rattle.format.proofs.Laws.Numbers.Column.{eye-passes}
use Rattle.format.proofs.Laws.Range.List.{select-none, select-exactly}

below : (x y : ℤ) → (le_z x y ≡ true) ↔ (x ≤ℤ y)
below x y = (λ t. record { le = subst T (sym t) tt }, λ h. by (le_z x y) h.le)
  where
    by : (b : Bool) → T b → b ≡ true
    by true t = refl
    by false t = absurd t

-- ---- new keys

module _ (exam eye : ℕ) (a b : ℤ) (e : Entry) where
  abbrev f : KeyFields
  f = fields_of Plus128 e.key

  in-column : (eye_with Plus128 exam eye (takes Plus128 a b) e ≡ true) ↔ (OfEye exam eye f × ((a ≤ℤ f.x) × (f.x ≤ℤ b)))
  unfolding takes
  in-column =
      let (to, from) = eye-passes Plus128 exam eye (from_to a b) e in
      let (both, and) = and-true (le_z a f.x) (le_z f.x b) in (
        λ t. let (o, x) = to t in let (l, u) = both x in (o, ((below a f.x).0 l, (below f.x b).0 u)),
        λ h. let (o, (l, u)) = h in from (o, and ((below a f.x).1 l, (below f.x b).1 u)),
      )

module _ (L : Layout) (M : Limits) (s : List ℕ) (exam eye : ℕ) (a b : ℤ) where
  pub column-exactly : (e : Entry) → let f = fields_of Plus128 e.key in
      In e (column L M s Plus128 exam eye a b) ↔ (In e (list L M s) × (OfEye exam eye f × ((a ≤ℤ f.x) × (f.x ≤ℤ b))))
  column-exactly e =
      let (f, g) = select-exactly (eye_with Plus128 exam eye (takes Plus128 a b)) e (list L M s) in
      let (f', g') = in-column exam eye a b e in
      (λ i. ((f i).0, f' (f i).1), λ h. g (h.0, g' h.1))

  pub column-none : b <ℤ a → column L M s Plus128 exam eye a b ≡ []
  column-none h =
      select-none (eye_with Plus128 exam eye (takes Plus128 a b))
      (λ e. not-passed _ (λ t. let (o, (l, u)) = (in-column exam eye a b e).0 t in clash_ℤ (<ℤ-≤ℤ_trans h l) u)) (list L M s)

  -- ---- old keys

  takes-as : (t : ℤ → Bool) → ((x : ℤ) → takes TwosComplement a b x ≡ t x)
      → column L M s TwosComplement exam eye a b ≡ select (eye_with TwosComplement exam eye t) (list L M s)
  takes-as t h = ap (λ (t : ℤ → Bool). select (eye_with TwosComplement exam eye t) (list L M s)) (λ j x. h x j)

  pub old-one-side : non_neg a ≡ non_neg b → column L M s TwosComplement exam eye a b ≡ select (eye_with TwosComplement exam eye (from_to a b)) (list L M s)
  unfolding takes
  old-one-side o = takes-as (from_to a b) (by a b o)
    where
      by : (a b : ℤ) → non_neg a ≡ non_neg b → (x : ℤ) → takes TwosComplement a b x ≡ from_to a b x
      by (pos m) (pos n) o x = refl
      by (pos m) (negsuc n) o x = absurd (true≢false o)
      by (negsuc m) (pos n) o x = absurd (true≢false (sym o))
      by (negsuc m) (negsuc n) o x = refl

  pub old-around : non_neg a ≡ true → non_neg b ≡ false
      → column L M s TwosComplement exam eye a b ≡ select (eye_with TwosComplement exam eye (λ (x : ℤ). le_z a x || le_z x b)) (list L M s)
  unfolding takes
  old-around p q = takes-as _ (by a b p q)
    where
      by : (a b : ℤ) → non_neg a ≡ true → non_neg b ≡ false → (x : ℤ) → takes TwosComplement a b x ≡ (le_z a x || le_z x b)
      by (pos m) (pos n) p q x = absurd (true≢false q)
      by (pos m) (negsuc n) p q x = refl
      by (negsuc m) b p q x = absurd (true≢false (sym p))

  pub old-across : non_neg a ≡ false → non_neg b ≡ true → column L M s TwosComplement exam eye a b ≡ []
  unfolding takes
  old-across p q =
      takes-as (λ (x : ℤ). false) (by a b p q)
      ∙ select-none _ (λ e. second-fails (eqb (e.key / 2 ^ 40) exam) _ (second-fails (eqb (e.key / 2 ^ 39 % 2) eye) false refl)) (list L M s)
    where
      by : (a b : ℤ) → non_neg a ≡ false → non_neg b ≡ true → (x : ℤ) → takes TwosComplement a b x ≡ false
      by (pos m) b p q x = absurd (true≢false p)
      by (negsuc m) (pos n) p q x = refl
      by (negsuc m) (negsuc n) p q x = absurd (true≢false (sym q))
