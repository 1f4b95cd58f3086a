-- What the documents say of the builder, over every layout of 3 to 15 entries a node: whatever strictly ascending list a build takes, behind whatever
-- header, the archive is certified and its list has the given keys and values; 16 arises exactly where the root's first offset does not fit the width,
-- so with 32 and 64 bits never. Assumes nothing.
use Rattle.std.specs.Prelude.{ℕ, ◌+◌, ◌-◌, ◌^◌, ◌≤◌, ◌≡◌, Bool, true, leb, eqb}
use Rattle.std.proofs.Common.{sym, ap, ◌∙◌, arith, length-append, lit≤}
use mathlib.Core.List.{List, [], ◌∷◌, map}
use Rattle.std.proofs.Math.ListN.{length}
use borrow.Author.Tests.{leb-true, eqb-true, le-leb}
use Rattle.format.specs.Layout.{Width, two, four, eight, bytes, Layout, sign_bits, pointer, server, nested}
use Rattle.format.specs.Refusal.{gives, provided}
use Rattle.format.specs.Bytes.{AllWords}
use Rattle.format.specs.Check.{counted}
use Rattle.format.specs.Entries.{list}
use Rattle.format.specs.Tree.{KeyValue}
use Rattle.format.specs.TreeShape.{keys_of, AllFit}
use Rattle.format.specs.Offsets.{archive_emplaces}
use Rattle.format.specs.Build.{height, last_level, tree_of, start, behind, archive, pairs, rises, build}
use Rattle.format.specs.Built.{Taken, Certifies}
use Rattle.format.specs.Weight.{reach}
use Rattle.format.proofs.Laws.Numbers.Widths.{in-range}
use Rattle.format.proofs.Laws.Build.BytesAt.{wide}
use Rattle.format.proofs.Laws.Build.Built.{Built, built-none, built-some}
use Rattle.format.proofs.Laws.Build.Emplaces.{bits-node, reach_near, archive-emplaces}
use Rattle.format.proofs.Laws.Build.Longest.{height-most, inner-most, tree-long, reach-small, start-near, archive-most}
use Rattle.format.proofs.Laws.Build.Given.{keys-pairs, values-pairs, length_pairs, pairs-fit, keys-list, values-list}
use Rattle.format.proofs.Laws.Build.Taken.{passes, under, taken, layout-takes, only-16}

bits-wide : (w : Width) → 4 ≤ bytes w → 2147483648 ≤ 2 ^ sign_bits w
bits-wide two l = absurd (omega arith)
bits-wide four l = lit≤ tt
bits-wide eight l = lit≤ tt

module _ (L : Layout) (least : 3 ≤ L.entries) (most : L.entries ≤ 15) where
  -- ---- refusal 16

  -- The number of entries decides it.
  pub emplaces-by : (es : List KeyValue) (h : ℕ) → h ≤ 4096 → length es ≤ 40000
      → let n = length es in
      archive_emplaces L (tree_of L es) (start L (tree_of L es) h) ≡ leb (reach L (height L n - 1) (last_level L n)) (2 ^ sign_bits L.width)
  emplaces-by es h low few =
      archive-emplaces L es (start L (tree_of L es) h) (omega arith) (inner-most L least most)
      (omega (arith, start-near L least most (tree_of L es) h, tree-long L least most es few))

  pub wide-emplaces : 4 ≤ pointer L → (es : List KeyValue) (h : ℕ) → h ≤ 4096 → length es ≤ 40000
      → archive_emplaces L (tree_of L es) (start L (tree_of L es) h) ≡ true
  wide-emplaces w es h low few =
      let r : reach L (height L (length es) - 1) (last_level L (length es)) ≤ 2 ^ sign_bits L.width =
      omega (arith, reach-small L least most (length es) few, bits-wide L.width w) in
      emplaces-by es h low few ∙ le-leb _ _ r

  -- ---- the archive

  -- At most 40,000 entries with ascending keys, after a header of at most 4,096 bytes.
  built : (front : List ℕ) (es : List KeyValue) → length front ≤ 4096 → length es ≤ 40000 → AllFit es → rises (keys_of es) ≡ true
      → archive_emplaces L (tree_of L es) (start L (tree_of L es) (length front)) ≡ true → Built L server front es
  unfolding server nested
  built front [] low few fit asc off = built-none L server front (in-range L least most) (lit≤ tt) (archive-most L least most front [] low few)
  built front (e ∷ es) low few fit asc off =
      let n = length (e ∷ es) in
      let r : reach L (height L n - 1) (last_level L n) ≤ 2 ^ sign_bits L.width = leb-true _ _ (sym (emplaces-by (e ∷ es) (length front) low few) ∙ off) in
      built-some L server front e es (in-range L least most) fit (lit≤ tt) asc (omega (arith, height-most L least most n (omega arith) few))
      (omega (arith, wide L.width)) (reach_near L e es (start L (tree_of L (e ∷ es)) (length front)) (omega arith) r)
      (omega (arith, inner-most L least most, bits-node L.width)) (lit≤ tt) (archive-most L least most front (e ∷ es) low few)

-- ---- the theorem

pub build-certifies : (L : Layout) (front ks vs : List ℕ) (out n : ℕ) → AllWords ks → AllWords vs → build L ks vs (length front) out ≡ gives n
    → Certifies L front ks vs n
unfolding archive
build-certifies L front ks vs out n hk hv e =
    let T = taken L ks vs (length front) out n e in
    let A = layout-takes L ks vs (length front) out n e in
    let es = pairs ks vs in
    let el = length_pairs ks vs T.lengths in
    let l = list L server (archive L front es) in
    let asc = ap rises (keys-pairs ks vs T.lengths) ∙ T.ascends in
    let B = built L A.least A.most front es T.header (omega (arith, T.few)) (pairs-fit ks vs hk hv) asc A.offsets in
    let eb : behind L (length front) (tree_of L es) (length es) ≡ behind L (length front) (tree_of L es) (length ks) =
    ap (λ (x : ℕ). behind L (length front) (tree_of L es) x) el in
    record {
      length-is = length-append front (behind L (length front) (tree_of L es) (length es)) ∙ ap (λ (l : List ℕ). length front + length l) eb ∙ sym T.size;
      certified = ap counted B.certified ∙ ap gives el;
      keys = sym (keys-list l) ∙ ap keys_of B.gives ∙ keys-pairs ks vs T.lengths;
      values = sym (values-list l) ∙ ap (map (λ (e : KeyValue). e.value)) B.gives ∙ values-pairs ks vs T.lengths;
    }

-- ---- 16, exactly

module _ (L : Layout) (ks vs : List ℕ) (h out : ℕ) (least : 3 ≤ L.entries) (most : L.entries ≤ 15) where
  -- What 24 and 10 to 14 let through is refused by 16 exactly if the root's first offset leads further than the width reaches.
  pub by_number : (n : ℕ) → Taken L ks vs h out n
      → let m = length ks in
      build L ks vs h out ≡ provided (leb (reach L (height L m - 1) (last_level L m)) (2 ^ sign_bits L.width)) 16 (gives n)
  by_number n T =
      let el = length_pairs ks vs T.lengths in
      only-16 L ks vs h out n least most T
      ∙ ap (λ (b : Bool). provided b 16 (gives n)) (emplaces-by L least most (pairs ks vs) h T.header (omega (arith, T.few))
      ∙ ap (λ (m : ℕ). leb (reach L (height L m - 1) (last_level L m)) (2 ^ sign_bits L.width)) el)

  module _ (w : 4 ≤ pointer L) where
    -- With 32 and 64 bits it never arises: a build takes all that 10 to 14 let through,
    pub wide-gives : (n : ℕ) → Taken L ks vs h out n → build L ks vs h out ≡ gives n
    wide-gives n T =
        let el = length_pairs ks vs T.lengths in
        only-16 L ks vs h out n least most T ∙ passes (wide-emplaces L least most w (pairs ks vs) h T.header (omega (arith, T.few))) _ _

    -- and refuses by these alone.
    pub wide-build : let n = h + length (behind L h (tree_of L (pairs ks vs)) (length ks)) in
        build L ks vs h out
        ≡ provided (eqb (length ks) (length vs)) 10
        (provided (leb (length ks) 40000) 11
        (provided (rises ks) 12
        (provided (leb h 4096) 13
        (provided (leb n out) 14 (gives n)))))
    unfolding build
    wide-build =
        passes (in-range L least most) _ _
        ∙ under (eqb (length ks) (length vs)) 10
        (λ same. under (leb (length ks) 40000) 11
        (λ few. under (rises ks) 12
        (λ up. under (leb h 4096) 13
        (λ low. under (leb _ out) 14
        (λ fits. passes (wide-emplaces L least most w (pairs ks vs) h (leb-true _ _ low)
        (omega (arith, leb-true (length ks) 40000 few, length_pairs ks vs (eqb-true _ _ same)))) _ _)))))
