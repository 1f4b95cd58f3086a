-- By which numbers each call refuses: a reader as check or certify, whichever it runs, the column query also by 18; the builder by 24 where the entries a
-- node are outside 3 to 15 and else by 10 to 14 and 16, its length by 24 and by 11, 13 and 16; the parts by 15 to 17, key packing by 18. Assumes nothing.
use Rattle.std.specs.Prelude.{ℕ, ◌+◌, ◌^◌, ◌≤◌, ◌<◌, ◌≡◌, refl, ◌⊎◌, Bool, true, false, List, replicate, ℤ, ltb, leb, eqb}
use Rattle.std.proofs.Common.{sym, ap, subst, ◌∙◌, inl, inr, arith, ltb-true, ltb-false}
use Rattle.std.proofs.Math.ListN.{length}
use Rattle.std.proofs.Math.IntN.{sub_ℕ}
use Rattle.std.proofs.Math.Dec.{lit≤}
use Rattle.std.specs.Int.Signed.{mag}
use Rattle.std.specs.declared.ops.Bound.{Bound}
use Rattle.format.specs.declared.Packing.{Packing}
use Rattle.format.specs.Layout.{Layout, entries_in_range, Limits, pointer}
use Rattle.format.specs.Refusal.{Answer, gives, refuses, provided, and_then, From, RefusesBy, RefusesAt}
use Rattle.format.specs.RelPtr.{fit_signed, signed_offset, stored_offset, absent_offset}
use Rattle.format.specs.Align.{is_alignment, zeros_to, align_step}
use Rattle.format.specs.Key.{pack_key, column_bounds}
use Rattle.format.specs.declared.Column.{Column}
use Rattle.format.specs.Check.{counted, check_archive}
use Rattle.format.specs.Certify.{certify}
use Rattle.format.specs.Build.{tree_of, start, behind, pairs, rises, build, build_length}
use Rattle.format.specs.Offsets.{archive_emplaces}
use Rattle.format.specs.Calls.{lookup_call, walk_call, range_call, column_call, column_keys, column_values}
use Rattle.format.proofs.Laws.Numbers.RelPtr.{absent-last, stored-15, offset-behind, fits_refused}
use Rattle.format.proofs.Laws.Numbers.Widths.{range-in}
use Rattle.format.proofs.Laws.Build.BytesAt.{absent-fits}
use Rattle.format.proofs.Laws.Build.Taken.{passes, fails, by-16}
use Rattle.format.proofs.Laws.Build.Certifies.{wide-gives}
use Rattle.format.proofs.Laws.Build.Lengths.{wide-length}
use Rattle.format.proofs.Laws.Calls.Accepted.{lookup-refuses, lookup-accepted, walk-refuses, walk-accepted}
use Rattle.format.proofs.Laws.Calls.Certified.{range-refuses, range-keys-refuses, range-values-refuses, range-certified, column-ranges, column-values-refused}
use Rattle.format.proofs.Laws.Calls.Certified.{column-keys-ranges, column-values-ranges, column-uncertified, column-refused, column-keys-refused}

-- ---- answers

-- What is given is not refused.
pub given : {A : Type 0} {a : A} {r : ℕ} → gives a ≡ refuses r → ⊥
given e = let z : ◌≡◌ {A = ℕ} 0 1 = cc in absurd (omega arith)

same_number : {A : Type 0} {q r : ℕ} → ◌≡◌ {A = Answer A} (refuses q) (refuses r) → q ≡ r
same_number e = cc

by-gives : {A : Type 0} {m n : ℕ} (a : A) → RefusesBy m n (gives a)
by-gives a r e = absurd (given e)

-- Behind a test that refuses by k, of whatever numbers.
by-test : {A : Type 0} (P : ℕ → Type 0) (b : Bool) (k : ℕ) (a : Answer A) → P k → ((r : ℕ) → a ≡ refuses r → P r)
    → (r : ℕ) → provided b k a ≡ refuses r → P r
by-test P true k a p u r e = u r e
by-test P false k a p u r e = subst P (same_number e) p

by-provided : {A : Type 0} {m n : ℕ} (b : Bool) (k : ℕ) (a : Answer A) → m ≤ k → k ≤ n → RefusesBy m n a → RefusesBy m n (provided b k a)
by-provided {m = m} {n = n} b k a l h u = by-test (λ (r : ℕ). (m ≤ r) × (r ≤ n)) b k a (l, h) u

by-then : {A B : Type 0} (m n : ℕ) (a : Answer A) (f : A → Answer B) → RefusesBy m n a → ((x : A) → RefusesBy m n (f x)) → RefusesBy m n (and_then a f)
by-then m n (gives x) f u v r e = v x r e
by-then m n (refuses q) f u v r e = u r (ap refuses (same_number e))

by-more : {A : Type 0} (k l m n : ℕ) (a : Answer A) → k ≤ m → n ≤ l → RefusesBy m n a → RefusesBy k l a
by-more k l m n a h g u r e = omega (arith, u r e)

-- ---- the parts and the keys

fit-by : (h n : ℕ) (z : ℤ) → RefusesBy n n (fit_signed h n z)
unfolding fit_signed
fit-by h n z = by-provided (ltb (mag z) (2 ^ h)) n _ (omega arith) (omega arith) (by-gives z)

pub signed_by : (from to : ℕ) → RefusesBy 15 15 (signed_offset from to)
unfolding signed_offset
signed_by from to = fit-by 63 15 (sub_ℕ to from)

pub stored-by : (h from to : ℕ) → RefusesBy 15 16 (stored_offset h from to)
unfolding stored_offset
stored-by h from to =
    by-then 15 16 (signed_offset from to) (fit_signed h 16) (by-more 15 16 15 15 _ (omega arith) (omega arith) (signed_by from to))
    (λ z. by-more 15 16 16 16 _ (omega arith) (omega arith) (fit-by h 16 z))

-- A position has 64 bits: only at the largest one the mark is refused.
pub absent_by : (h at : ℕ) → 1 < 2 ^ h → at < 2 ^ 64 → RefusesBy 15 15 (absent_offset h at)
absent_by h at big l r e = go (ltb (at + 1) (2 ^ 64)) refl
  where
    go : (b : Bool) → ltb (at + 1) (2 ^ 64) ≡ b → (15 ≤ r) × (r ≤ 15)
    go true eb = absurd (given (sym (absent-fits h at big (ltb-true (at + 1) (2 ^ 64) eb)) ∙ e))
    go false eb =
        let last : at ≡ 0xffff_ffff_ffff_ffff = omega (arith, ltb-false (at + 1) (2 ^ 64) eb) in
        let far : signed_offset at 0 ≡ refuses 15 = offset-behind at 0 (omega arith) ∙ fits_refused 63 15 _ (omega arith) in
        omega (arith, same_number (sym (absent-last h at last ∙ stored-15 h at 0 15 far) ∙ e))

pub align-by : (p a : ℕ) → RefusesBy 17 17 (align_step p a)
unfolding align_step
align-by p a =
    by-provided (is_alignment a) 17 _ (omega arith) (omega arith)
    (by-provided (ltb (p + zeros_to a p) (2 ^ 64)) 17 _ (omega arith) (omega arith) (by-gives _))

pub pack-by : (P : Packing) (exam eye : ℕ) (x y : ℤ) (pres : ℕ) → RefusesBy 18 18 (pack_key P exam eye x y pres)
unfolding pack_key
pack-by P exam eye x y pres =
    by-provided (ltb exam (2 ^ 24)) 18 _ (omega arith) (omega arith)
    (by-provided (ltb eye 2) 18 _ (omega arith) (omega arith) (by-provided (ltb pres (2 ^ 23)) 18 _ (omega arith) (omega arith) (by-gives _)))

columns-by : (P : Packing) (exam eye : ℕ) (a b : ℤ) → RefusesBy 18 18 (column_bounds P exam eye a b)
unfolding column_bounds
columns-by P exam eye a b =
    by-provided (ltb exam (2 ^ 24)) 18 _ (omega arith) (omega arith)
    (by-provided (ltb eye 2) 18 _ (omega arith) (omega arith) (by-gives _))

-- ---- the builder

module _ (L : Layout) where
  -- The numbers of a build, and of its length.
  abbrev OfBuild : ℕ → Type 0
  OfBuild r = From 10 14 r ⊎ (r ≡ 16)

  abbrev OfLength : ℕ → Type 0
  OfLength r = (r ≡ 11) ⊎ ((r ≡ 13) ⊎ (r ≡ 16))

  pub build-by : (ks vs : List ℕ) (h room : ℕ) → RefusesAt L OfBuild (build L ks vs h room)
  unfolding build
  build-by ks vs h room =
      let t = tree_of L (pairs ks vs) in
      let n = h + length (behind L h t (length ks)) in (
        λ o. fails o 24 _,
        λ i r e.
            by-test OfBuild (eqb (length ks) (length vs)) 10 _ (inl (lit≤ tt, lit≤ tt))
            (by-test OfBuild (leb (length ks) 40000) 11 _ (inl (lit≤ tt, lit≤ tt))
            (by-test OfBuild (rises ks) 12 _ (inl (lit≤ tt, lit≤ tt))
            (by-test OfBuild (leb h 4096) 13 _ (inl (lit≤ tt, lit≤ tt))
            (by-test OfBuild (leb n room) 14 _ (inl (lit≤ tt, lit≤ tt))
            (by-test OfBuild (archive_emplaces L t (start L t h)) 16 (gives n) (inr refl) (λ r e. absurd (given e)))))))
            r (sym (passes i 24 _) ∙ e),
      )

  pub length-by : (n h : ℕ) → RefusesAt L OfLength (build_length L n h)
  unfolding build_length
  length-by n h =
      let t = tree_of L (replicate n (record { key = 0; value = 0 })) in (
        λ o. fails o 24 _,
        λ i r e.
            by-test OfLength (leb n 40000) 11 _ (inl refl)
            (by-test OfLength (leb h 4096) 13 _ (inr (inl refl))
            (by-test OfLength (archive_emplaces L t (start L t h)) 16 (gives (h + length (behind L h t n))) (inr (inr refl)) (λ r e. absurd (given e))))
            r (sym (passes i 24 _) ∙ e),
      )

  -- With 32 and 64 bits 16 does not arise.
  module _ (w : 4 ≤ pointer L) where
    pub wide-build-by : (ks vs : List ℕ) (h room : ℕ) → RefusesAt L (From 10 14) (build L ks vs h room)
    wide-build-by ks vs h room = ((build-by ks vs h room).0, λ i r e. go i r e ((build-by ks vs h room).1 i r e))
      where
        go : entries_in_range L ≡ true → (r : ℕ) → build L ks vs h room ≡ refuses r → OfBuild r → From 10 14 r
        go i r e (inl b) = b
        go i r e (inr z) =
            let (least, most) = range-in L i in
            let (T, off) = (by-16 L ks vs h room least most).0 (e ∙ ap refuses z) in
            absurd (given (sym (wide-gives L ks vs h room least most w _ T) ∙ e))

    abbrev OfWideLength : ℕ → Type 0
    OfWideLength r = (r ≡ 11) ⊎ (r ≡ 13)

    pub wide-length-by : (n h : ℕ) → RefusesAt L OfWideLength (build_length L n h)
    wide-length-by n h = (
      (length-by n h).0,
      λ i r e.
          by-test OfWideLength (leb n 40000) 11 _ (inl refl) (by-test OfWideLength (leb h 4096) 13 _ (inr refl) (λ r e. absurd (given e))) r
          (sym (wide-length L n h (range-in L i).0 (range-in L i).1 w) ∙ e),
    )

-- ---- the readers

-- A call with the answer a starts with one that answers c: where c gives, it gives; where c refuses, it refuses by the same number. So it refuses only where c
-- does.
refused-first : {A B : Type 0} (c : Answer B) (a : Answer A) → ((n : B) → c ≡ gives n → (x : A) × (a ≡ gives x)) → ((q : ℕ) → c ≡ refuses q → a ≡ refuses q)
    → (r : ℕ) → a ≡ refuses r → c ≡ refuses r
refused-first (gives n) a g h r e = absurd (given (sym (g n refl).1 ∙ e))
refused-first (refuses q) a g h r e = ap refuses (same_number (sym (h q refl) ∙ e))

module _ (L : Layout) (M : Limits) (s : List ℕ) where
  pub lookup-refused : (k r : ℕ) → lookup_call L M s k ≡ refuses r → counted (check_archive L M s) ≡ refuses r
  lookup-refused k = refused-first _ _ (λ n e. (_, lookup-accepted L M s n e k)) (λ q e. lookup-refuses L M s q e k)

  pub walk_refused : (ks vs : List ℕ) (r : ℕ) → walk_call L M s ks vs ≡ refuses r → counted (check_archive L M s) ≡ refuses r
  walk_refused ks vs = refused-first _ _ (λ n e. (_, walk-accepted L M s n e ks vs)) (λ q e. walk-refuses L M s q e ks vs)

  pub range-refused : (lo hi : Bound ℕ) (ks vs : List ℕ) (r : ℕ) → range_call L M s lo hi ks vs ≡ refuses r → counted (certify L M s) ≡ refuses r
  range-refused lo hi ks vs = refused-first _ _ (λ n e. (_, range-certified L M s n e lo hi ks vs)) (λ q e. range-refuses L M s q e lo hi ks vs)

  -- The column query: certify's refusals, then 18; the lent lists stay.
  module _ (P : Packing) (exam eye : ℕ) (a b : ℤ) (ks vs : List ℕ) (r : ℕ) (e : column_call L M s P exam eye a b ks vs ≡ refuses r) where
    abbrev Number : Type 0
    Number = (counted (certify L M s) ≡ refuses r) ⊎ (r ≡ 18)

    abbrev Kept : Type 0
    Kept = (column_keys L M s P exam eye a b ks vs ≡ ks) × (column_values L M s P exam eye a b ks vs ≡ vs)

    pub column-refused-by : Number × Kept
    column-refused-by = go (column_bounds P exam eye a b) refl
      where
        no-bounds : (q : ℕ) → column_bounds P exam eye a b ≡ refuses q → (c : Answer ℕ) → counted (certify L M s) ≡ c → Number
        no-bounds q eb (gives n) ec =
            let z = columns-by P exam eye a b q eb in
            inr (omega (arith, same_number (sym (column-refused L M s P exam eye a b ks vs q eb n ec) ∙ e)))
        no-bounds q eb (refuses k) ec = inl (ec ∙ ap refuses (same_number (sym (column-uncertified L M s P exam eye a b ks vs k ec) ∙ e)))

        go : (x : Answer Column) → column_bounds P exam eye a b ≡ x → Number × Kept
        go (gives c) eb =
            let u = range-refused c.lower c.upper ks vs r (sym (column-ranges L M s P exam eye a b ks vs c eb) ∙ e) in (
              inl u,
              (
                column-keys-ranges L M s P exam eye a b ks vs c eb ∙ range-keys-refuses L M s r u c.lower c.upper ks vs,
                column-values-ranges L M s P exam eye a b ks vs c eb ∙ range-values-refuses L M s r u c.lower c.upper ks vs,
              ),
            )
        go (refuses q) eb = (
          no-bounds q eb (counted (certify L M s)) refl,
          (column-keys-refused L M s P exam eye a b ks vs q eb, column-values-refused L M s P exam eye a b ks vs q eb),
        )
