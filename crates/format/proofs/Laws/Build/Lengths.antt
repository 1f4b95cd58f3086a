-- An archive's length and refusal 16 go by the number of entries alone: for every list and every layout a build ends where `build_length` says, and is
-- refused by 24, 11, 13 and 16 where `build_length` is. Assumes nothing.
use Rattle.std.specs.Prelude.{ℕ, ◌+◌, ◌-◌, ◌*◌, ◌^◌, ◌≤◌, ◌<◌, ◌≡◌, Bool, false, replicate}
use Rattle.std.proofs.Math.Path.{refl, sym, ap, ap₂}
use Rattle.std.proofs.Common.{◌∙◌, arith, suc-ne-zero, leb-true, le-leb, eq-eqb}
use Rattle.std.proofs.Math.Bool.{true}
use mathlib.Core.List.{List, [], ◌∷◌}
use Rattle.std.proofs.Math.Dec.{leb}
use Rattle.std.proofs.Math.ListN.{length}
use Rattle.std.proofs.lemmas.List.{length-replicate}
use Rattle.std.proofs.lemmas.Bool.{lt-leb}
use Rattle.format.specs.Layout.{Layout, entries_in_range, sign_bits, pointer, server}
use Rattle.format.specs.Refusal.{Answer, gives, refuses, provided, and_then}
use Rattle.format.specs.Align.{zeros_to}
use Rattle.format.specs.Tree.{Branch, none_b, some_b, length_branch, KeyValue}
use Rattle.format.specs.TreeShape.{There}
use Rattle.format.specs.Offsets.{archive_emplaces}
use Rattle.format.specs.Build.{height, last_level, tree_of, first_align, start, behind, pairs, rises, build, build_length}
use Rattle.format.specs.Weight.{weight, reach}
use Rattle.format.proofs.Laws.Numbers.Widths.{in-range, range-in}
use Rattle.format.proofs.Laws.Build.Built.{behind-length, tree-there}
use Rattle.format.proofs.Laws.Build.Weight.{tree-weighs}
use Rattle.format.proofs.Laws.Build.Longest.{end-most}
use Rattle.format.proofs.Laws.Build.Given.{length_pairs}
use Rattle.format.proofs.Laws.Build.Taken.{provided-inv, passes, fails, under, taken}
use Rattle.format.proofs.Laws.Build.Certifies.{emplaces-by, wide-emplaces}

-- ---- other entries, as many

module _ (L : Layout) where
  same_align : (es fs : List KeyValue) → length es ≡ length fs → 0 < L.entries → first_align L (tree_of L es) ≡ first_align L (tree_of L fs)
  unfolding tree_of
  same_align [] [] e some = refl
  same_align [] (f ∷ fs) e some = absurd (suc-ne-zero (length fs) (sym e))
  same_align (x ∷ es) [] e some = absurd (suc-ne-zero (length es) e)
  same_align (x ∷ es) (f ∷ fs) e some = by (tree_of L (x ∷ es)) (tree_of L (f ∷ fs)) (tree-there L x es some) (tree-there L f fs some)
    where
      by : (b c : Branch) → There b → There c → first_align L b ≡ first_align L c
      by none_b c t u = absurd t
      by (some_b x) none_b t u = absurd u
      by (some_b x) (some_b y) t u = refl

  -- What stands behind a header is as long.
  same_end : (es fs : List KeyValue) → length es ≡ length fs → 0 < L.entries → (h n : ℕ)
      → length (behind L h (tree_of L es) n) ≡ length (behind L h (tree_of L fs) n)
  same_end es fs e some h n =
      let size : length_branch L (tree_of L es) ≡ length_branch L (tree_of L fs) =
      tree-weighs L es some ∙ ap (λ (k : ℕ). weight L (height L k - 1) (last_level L k)) e ∙ sym (tree-weighs L fs some) in
      behind-length L h n (tree_of L es)
      ∙ ap₂ (λ (i j : ℕ). zeros_to i h + j + 2 * pointer L) (same_align es fs e some) size
      ∙ sym (behind-length L h n (tree_of L fs))

  -- Refusal 16 is the same.
  same-emplaces : (es fs : List KeyValue) → length es ≡ length fs → 3 ≤ L.entries → L.entries ≤ 15 → (h : ℕ) → h ≤ 4096 → length es ≤ 40000
      → archive_emplaces L (tree_of L es) (start L (tree_of L es) h) ≡ archive_emplaces L (tree_of L fs) (start L (tree_of L fs) h)
  same-emplaces es fs e least most h low few =
      emplaces-by L least most es h low few
      ∙ ap (λ (k : ℕ). leb (reach L (height L k - 1) (last_level L k)) (2 ^ sign_bits L.width)) e
      ∙ sym (emplaces-by L least most fs h low (omega (arith, e)))

-- The entries that `build_length` takes.
abbrev noughts : ℕ → List KeyValue
noughts n = replicate n (record { key = 0; value = 0 })

so-many : (n : ℕ) → length (noughts n) ≡ n
so-many n = length-replicate n (record { key = 0; value = 0 })

few-noughts : (n : ℕ) → leb n 40000 ≡ true → length (noughts n) ≤ 40000
few-noughts n e = omega (arith, so-many n, leb-true n 40000 e)

-- ---- the calls

module _ (L : Layout) (n h : ℕ) where
  -- It never leads past the limit of a check.
  pub length_most : (m : ℕ) → build_length L n h ≡ gives m → m ≤ server.longest
  unfolding build_length
  length_most m e =
      let (e₀, a₀) = provided-inv (entries_in_range L) _ _ e in
      let (e₁, a₁) = provided-inv (leb n 40000) _ _ a₀ in
      let (e₂, a₂) = provided-inv (leb h 4096) _ _ a₁ in
      let (e₃, a₃) = provided-inv (archive_emplaces L (tree_of L (noughts n)) (start L (tree_of L (noughts n)) h)) _ _ a₂ in
      let r = range-in L e₀ in
      let em : m ≡ h + length (behind L h (tree_of L (noughts n)) n) = cc in
      omega (arith, em, end-most L r.0 r.1 h n (noughts n) (leb-true _ _ e₂) (few-noughts n e₁))

  -- With 32 and 64 bits it is refused by 11 and 13 alone.
  pub wide-length : 3 ≤ L.entries → L.entries ≤ 15 → 4 ≤ pointer L
      → build_length L n h ≡ provided (leb n 40000) 11 (provided (leb h 4096) 13 (gives (h + length (behind L h (tree_of L (noughts n)) n))))
  unfolding build_length
  wide-length least most w =
      passes (in-range L least most) _ _
      ∙ under (leb n 40000) 11
      (λ few. under (leb h 4096) 13
      (λ low. passes (wide-emplaces L least most w (noughts n) h (leb-true _ _ low) (few-noughts n few)) _ _))

module _ (L : Layout) (ks vs : List ℕ) (h : ℕ) where
  -- The end of a build of these lists.
  abbrev end : ℕ
  end = h + length (behind L h (tree_of L (pairs ks vs)) (length ks))

  module _ (same : length ks ≡ length vs) (up : rises ks ≡ true) (room : ℕ) where
    count : length (pairs ks vs) ≡ length (noughts (length ks))
    count = length_pairs ks vs same ∙ sym (so-many (length ks))

    few-pairs : leb (length ks) 40000 ≡ true → length (pairs ks vs) ≤ 40000
    few-pairs e = omega (arith, leb-true (length ks) 40000 e, length_pairs ks vs same)

    ends : 3 ≤ L.entries → length (behind L h (tree_of L (pairs ks vs)) (length ks)) ≡ length (behind L h (tree_of L (noughts (length ks))) (length ks))
    ends least = same_end L (pairs ks vs) (noughts (length ks)) count (omega arith) h (length ks)

    -- Where the output is long enough and neither 10 nor 12 arises, a build answers as `build_length`.
    pub by_length : end ≤ room → build L ks vs h room ≡ build_length L (length ks) h
    unfolding build build_length
    by_length fits =
        under (entries_in_range L) 24
        (λ range. passes (eq-eqb (length ks) (length vs) same) _ _
        ∙ under (leb (length ks) 40000) 11
        (λ few. passes up _ _
        ∙ under (leb h 4096) 13
        (λ low. passes (le-leb end room fits) _ _
        ∙ ap₂ (λ (b : Bool) (n : ℕ). provided b 16 (gives (h + n)))
        (same-emplaces L (pairs ks vs) (noughts (length ks)) count (range-in L range).0 (range-in L range).1 h (leb-true _ _ low) (few-pairs few))
        (ends (range-in L range).0))))

    -- With 32 and 64 bits also where it is shorter: 14 comes last.
    pub by-length-wide : 4 ≤ pointer L → build L ks vs h room ≡ and_then (build_length L (length ks) h) (λ n. provided (leb n room) 14 (gives n))
    unfolding build build_length
    by-length-wide w =
        under-then (entries_in_range L) 24 _ _ _
        (λ range. passes (eq-eqb (length ks) (length vs) same) _ _
        ∙ under-then (leb (length ks) 40000) 11 _ _ _
        (λ few. passes up _ _
        ∙ under-then (leb h 4096) 13 _ _ _
        (λ low. under (leb end room) 14 (λ _. passes (held range low (pairs ks vs) (few-pairs few)) _ _)
        ∙ ap (λ (n : ℕ). provided (leb (h + n) room) 14 (gives (h + n))) (ends (range-in L range).0)
        ∙ sym (ap (λ (a : Answer ℕ). and_then a (λ n. provided (leb n room) 14 (gives n)))
        (passes (held range low (noughts (length ks)) (few-noughts (length ks) few)) 16 _)))))
      where
        held : entries_in_range L ≡ true → leb h 4096 ≡ true → (es : List KeyValue) → length es ≤ 40000
            → archive_emplaces L (tree_of L es) (start L (tree_of L es) h) ≡ true
        held range low es few = wide-emplaces L (range-in L range).0 (range-in L range).1 w es h (leb-true _ _ low) few

        under-then : (b : Bool) (k : ℕ) (a c : Answer ℕ) (f : ℕ → Answer ℕ) → (b ≡ true → a ≡ and_then c f) → provided b k a ≡ and_then (provided b k c) f
        under-then true k a c f h = h refl
        under-then false k a c f h = refl

    -- Where it is shorter, 14 comes after 24, 11 and 13, and before 16.
    pub too_short : 3 ≤ L.entries → L.entries ≤ 15 → length ks ≤ 40000 → h ≤ 4096 → room < end → build L ks vs h room ≡ refuses 14
    unfolding build
    too_short least most few low short =
        passes (in-range L least most) _ _ ∙ passes (eq-eqb (length ks) (length vs) same) _ _ ∙ passes (le-leb (length ks) 40000 few) _ _ ∙ passes up _ _
        ∙ passes (le-leb h 4096 low) _ _ ∙ fails (lt-leb end room short) _ _

  -- What a build gives is what `build_length` gives.
  pub length-given : (room n : ℕ) → build L ks vs h room ≡ gives n → build_length L (length ks) h ≡ gives n
  length-given room n e =
      let T = taken L ks vs h room n e in
      sym (by_length T.lengths T.ascends room (omega (arith, T.fits, T.size))) ∙ e

  -- So no build ends past the limit of a check.
  pub build-most : (room n : ℕ) → build L ks vs h room ≡ gives n → n ≤ server.longest
  build-most room n e = length_most L (length ks) h n (length-given room n e)
