-- What a build takes is what 24, 10 to 14 and 16 let through, over every layout, and what the output then is. Assumes nothing.
use Rattle.std.specs.Prelude.{ℕ, ◌+◌, ◌≤◌, ◌≡◌, refl, ◌↔◌, Bool, true, false, List, ◌++◌, leb, eqb}
use Rattle.std.proofs.Common.{sym, subst, ◌∙◌, arith, length-append}
use Rattle.std.proofs.Math.Path.{ap, ap₂}
use Rattle.std.proofs.Math.ListN.{length, take, drop}
use Rattle.std.proofs.Math.Seq.{sets-eq, length-take-le, take_at}
use borrow.Author.Tests.{leb-true, eqb-true, le-leb, eq-eqb}
use Rattle.format.specs.Layout.{Layout, entries_in_range}
use Rattle.format.specs.Refusal.{Answer, gives, refuses, provided}
use Rattle.format.specs.Offsets.{archive_emplaces}
use Rattle.format.specs.Build.{tree_of, start, behind, archive, pairs, rises, build, out_by, out_after}
use Rattle.format.specs.Built.{Taken, LayoutTakes}
use Rattle.format.proofs.Laws.Numbers.Widths.{in-range, range-in}
use Rattle.format.proofs.Laws.Build.Given.{length_pairs}

-- ---- one test after another

pub provided-inv : {A : Type 0} (b : Bool) (n : ℕ) (a : Answer A) {x : A} → provided b n a ≡ gives x → (b ≡ true) × (a ≡ gives x)
provided-inv true n a e = (refl, e)
provided-inv false n a e = let z : ◌≡◌ {A = ℕ} 0 1 = cc in absurd (omega arith)

pub passes : {A : Type 0} {b : Bool} → b ≡ true → (n : ℕ) (a : Answer A) → provided b n a ≡ a
passes e n a = ap (λ (x : Bool). provided x n a) e

pub fails : {A : Type 0} {b : Bool} → b ≡ false → (n : ℕ) (a : Answer A) → provided b n a ≡ refuses n
fails e n a = ap (λ (x : Bool). provided x n a) e

-- An answer that is no refusal by the test's number comes from behind the test.
provided-past : {A : Type 0} (b : Bool) (n : ℕ) (x : Answer A) {a : Answer A} → (a ≡ refuses n → ⊥) → provided b n x ≡ a → (b ≡ true) × (x ≡ a)
provided-past true n x other e = (refl, e)
provided-past false n x other e = absurd (other (sym e))

provided-fails : {A : Type 0} (b : Bool) (n : ℕ) (x : A) → provided b n (gives x) ≡ refuses n → b ≡ false
provided-fails true n x e = let z : ◌≡◌ {A = ℕ} 0 1 = cc in absurd (omega arith)
provided-fails false n x e = refl

-- What comes after a test has to be the same only where the test passes.
pub under : {A : Type 0} (b : Bool) (n : ℕ) {a c : Answer A} → (b ≡ true → a ≡ c) → provided b n a ≡ provided b n c
under true n h = h refl
under false n h = refl

-- ---- what a build takes

module _ (L : Layout) (ks vs : List ℕ) (h : ℕ) where
  -- The archive's end, and whether the width holds its offsets.
  abbrev end : ℕ
  end = h + length (behind L h (tree_of L (pairs ks vs)) (length ks))

  abbrev fits : Bool
  fits = archive_emplaces L (tree_of L (pairs ks vs)) (start L (tree_of L (pairs ks vs)) h)

  -- Where a build is refused by no number but 16, the other tests let it through.
  through : (out : ℕ) (a : Answer ℕ) → ((k : ℕ) → a ≡ refuses k → k ≡ 16) → build L ks vs h out ≡ a
      → ((3 ≤ L.entries) × (L.entries ≤ 15)) × (Taken L ks vs h out end × (provided fits 16 (gives end) ≡ a))
  unfolding build
  through out a by e =
      let (e₀, a₀) = provided-past (entries_in_range L) 24 _ (λ z. omega (arith, by 24 z)) e in
      let (e₁, a₁) = provided-past (eqb (length ks) (length vs)) 10 _ (λ z. omega (arith, by 10 z)) a₀ in
      let (e₂, a₂) = provided-past (leb (length ks) 40000) 11 _ (λ z. omega (arith, by 11 z)) a₁ in
      let (e₃, a₃) = provided-past (rises ks) 12 _ (λ z. omega (arith, by 12 z)) a₂ in
      let (e₄, a₄) = provided-past (leb h 4096) 13 _ (λ z. omega (arith, by 13 z)) a₃ in
      let (e₅, a₅) = provided-past (leb end out) 14 _ (λ z. omega (arith, by 14 z)) a₄ in
      let T : Taken L ks vs h out end = record {
        lengths = eqb-true _ _ e₁;
        few = leb-true _ _ e₂;
        ascends = e₃;
        header = leb-true _ _ e₄;
        fits = leb-true end out e₅;
        size = refl;
      } in
      (range-in L e₀, (T, a₅))

  pub both : (out n : ℕ) → build L ks vs h out ≡ gives n → LayoutTakes L ks vs h × Taken L ks vs h out n
  both out n e =
      let (r, t) = through out (gives n) (λ k z. let i : ◌≡◌ {A = ℕ} 0 1 = cc in absurd (omega arith)) e in
      let (offsets, en) = provided-inv fits 16 (gives end) t.1 in
      let same : end ≡ n = cc in
      (record { least = r.0; most = r.1; offsets = offsets }, subst (λ (m : ℕ). Taken L ks vs h out m) same t.0)

  pub taken : (out n : ℕ) → build L ks vs h out ≡ gives n → Taken L ks vs h out n
  taken out n e = (both out n e).1

  pub layout-takes : (out n : ℕ) → build L ks vs h out ≡ gives n → LayoutTakes L ks vs h
  layout-takes out n e = (both out n e).0

  -- Behind the other tests only that of the offsets is left.
  pub only-16 : (out n : ℕ) → 3 ≤ L.entries → L.entries ≤ 15 → Taken L ks vs h out n
      → build L ks vs h out ≡ provided (archive_emplaces L (tree_of L (pairs ks vs)) (start L (tree_of L (pairs ks vs)) h)) 16 (gives n)
  unfolding build
  only-16 out n least most T =
      passes (in-range L least most) _ _ ∙ passes (eq-eqb (length ks) (length vs) T.lengths) _ _ ∙ passes (le-leb (length ks) 40000 T.few) _ _
      ∙ passes T.ascends _ _ ∙ passes (le-leb h 4096 T.header) _ _ ∙ passes (le-leb end out (omega (arith, T.fits, T.size))) _ _
      ∙ ap (λ (x : ℕ). provided fits 16 (gives x)) (sym T.size)

  pub taken-gives : (out n : ℕ) → LayoutTakes L ks vs h → Taken L ks vs h out n → build L ks vs h out ≡ gives n
  taken-gives out n A T = only-16 out n A.least A.most T ∙ passes A.offsets _ _

  -- It is refused by 16 exactly if the other tests let it through and some offset does not fit.
  pub by-16 : (out : ℕ) → 3 ≤ L.entries → L.entries ≤ 15 → (build L ks vs h out ≡ refuses 16) ↔ (Taken L ks vs h out end × (fits ≡ false))
  by-16 out least most = (refused, λ t. only-16 out end least most t.0 ∙ fails t.1 _ _)
    where
      refused : build L ks vs h out ≡ refuses 16 → Taken L ks vs h out end × (fits ≡ false)
      refused e = let (r, t) = through out (refuses 16) (λ k z. let same : 16 ≡ k = cc in sym same) e in (t.0, provided-fails fits 16 end t.1)

  -- ---- the output

  -- The header, the archive behind it, and the bytes past the archive as they were.
  pub build-output : (out : List ℕ) (n : ℕ) → build L ks vs h (length out) ≡ gives n
      → out_after L ks vs h out ≡ archive L (take h out) (pairs ks vs) ++ drop n out
  unfolding out_after archive
  build-output out n e =
      let T = taken (length out) n e in
      let es = pairs ks vs in
      let bs = behind L h (tree_of L es) (length es) in
      let el : length bs ≡ length (behind L h (tree_of L es) (length ks)) =
      ap (λ (x : ℕ). length (behind L h (tree_of L es) x)) (length_pairs ks vs T.lengths) in
      let en : h + length bs ≡ n = omega (arith, T.size) in
      let eh : length (take h out) ≡ h = length-take-le h out (omega (arith, T.fits)) in
      ap (λ (a : Answer ℕ). out_by L a h es out) e ∙ sets-eq bs out h (omega (arith, T.fits))
      ∙ ap (λ (x : ℕ). (take h out ++ bs) ++ drop x out) en
      ∙ ap (λ (x : ℕ). (take h out ++ behind L x (tree_of L es) (length es)) ++ drop n out) (sym eh)

  -- "Its archive is the output's first N bytes as it left them"
  pub build-archive : (out : List ℕ) (n : ℕ) → build L ks vs h (length out) ≡ gives n
      → take n (out_after L ks vs h out) ≡ archive L (take h out) (pairs ks vs)
  unfolding archive
  build-archive out n e =
      let T = taken (length out) n e in
      let es = pairs ks vs in
      let front = take h out in
      let eh : length front ≡ h = length-take-le h out (omega (arith, T.fits, T.size)) in
      let eb : length (behind L (length front) (tree_of L es) (length es)) ≡ length (behind L h (tree_of L es) (length ks)) =
      ap₂ (λ (i j : ℕ). length (behind L i (tree_of L es) j)) eh (length_pairs ks vs T.lengths) in
      ap (take n) (build-output out n e)
      ∙ take_at (archive L front es) (drop n out) n (length-append front _ ∙ omega (arith, T.size))
