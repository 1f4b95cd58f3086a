-- Each refusal of a build and its acceptance, by what the tests told. Assumes nothing.
use mathlib.Core.Path.{◌≡◌, sym, ap, ◌∙◌}
use mathlib.Core.Bool.{Bool, true, false}
use mathlib.Core.List.{List}
use Prim.Native.Nat.{ℕ, ◌+◌, ◌≤◌, ◌<◌}
use native.Mathlib.Omega.{arith}
use borrow.Author.Tests.{le-leb, lt-leb, eq-eqb, ne_eqb}
use lib.ListN.{length, replicate, length-replicate}
use lib.Dec.{leb}
use Rattle.format.specs.Layout.{Layout, entries_in_range}
use Rattle.format.specs.Bytes.{put}
use Rattle.format.specs.Refusal.{Answer, gives, refuses, provided}
use Rattle.format.specs.Offsets.{archive_emplaces}
use Rattle.format.specs.Tree.{KeyValue}
use Rattle.format.specs.Build.{tree_of, start, behind, pairs, rises, build, build_length, out_by, out_after}
use Rattle.format.proofs.Laws.Build.Given.{length_pairs}
use Rattle.format.proofs.Laws.Numbers.Widths.{range-in}
use Rattle.format.proofs.Laws.Build.Taken.{passes, fails}
use Rattle.format.proofs.Laws.Build.Certifies.{emplaces-by}
use Rattle.builder.specs.declared.size.Plan.{Plan}
use Rattle.builder.specs.Size.{Named, fits_width, Planned}
use Rattle.builder.proofs.Whole.{end_is}

-- What 24 and 11 let through.
pub named : {L : Layout} {n : ℕ} → entries_in_range L ≡ true → n ≤ 40000 → Named L n
named {L} r few = let t = range-in L r in record { least = t.0; most = t.1; few = few }

-- What the plan of n entries says of any n entries.
module _ (L : Layout) (es : List KeyValue) (h n : ℕ) (e : length es ≡ n) (N : Named L n) (low : h ≤ 4096) {p : Plan} (P : Planned L n h p) where
  plan-end : h + length (behind L h (tree_of L es) n) ≡ p.end
  plan-end = end_is L es h n (omega (arith, N.least)) e ∙ sym P.end

  plan-fits : archive_emplaces L (tree_of L es) (start L (tree_of L es) h) ≡ p.fits
  plan-fits =
      emplaces-by L N.least N.most es h low (omega (arith, e, N.few)) ∙ ap (fits_width L) e ∙ sym P.fits

-- ---- a build

module _ (L : Layout) (ks vs : List ℕ) (h : ℕ) (out : List ℕ) where
  -- The answer r, with an output o.
  abbrev pub Answered : Answer ℕ → List ℕ → Type 0
  Answered r o = (r ≡ build L ks vs h (length out)) × (o ≡ out_after L ks vs h out)

  refused : (n : ℕ) → build L ks vs h (length out) ≡ refuses n → Answered (refuses n) out
  unfolding out_after
  refused n e = (sym e, ap (λ (a : Answer ℕ). out_by L a h (pairs ks vs) out) (sym e))

  pub refuse-24 : entries_in_range L ≡ false → Answered (refuses 24) out
  unfolding build
  refuse-24 r = refused 24 (fails r _ _)

  module _ (r : entries_in_range L ≡ true) where
    pub refuse-10 : (length ks ≡ length vs → ⊥) → Answered (refuses 10) out
    unfolding build
    refuse-10 a = refused 10 (passes r _ _ ∙ fails (ne_eqb (length ks) (length vs) a) _ _)

    module _ (a : length ks ≡ length vs) where
      pub refuse-11 : 40000 < length ks → Answered (refuses 11) out
      unfolding build
      refuse-11 b = refused 11 (passes r _ _ ∙ passes (eq-eqb (length ks) (length vs) a) _ _ ∙ fails (lt-leb (length ks) 40000 b) _ _)

      module _ (b : length ks ≤ 40000) where
        -- From 12 on.
        later : let t = tree_of L (pairs ks vs) in
            let n = h + length (behind L h t (length ks)) in
            build L ks vs h (length out)
            ≡ provided (rises ks) 12 (provided (leb h 4096) 13 (provided (leb n (length out)) 14 (provided (archive_emplaces L t (start L t h)) 16 (gives n))))
        unfolding build
        later = passes r _ _ ∙ passes (eq-eqb (length ks) (length vs) a) _ _ ∙ passes (le-leb (length ks) 40000 b) _ _

        pub refuse-12 : rises ks ≡ false → Answered (refuses 12) out
        refuse-12 c = refused 12 (later ∙ fails c _ _)

        module _ (c : rises ks ≡ true) where
          pub refuse-13 : 4096 < h → Answered (refuses 13) out
          refuse-13 d = refused 13 (later ∙ passes c _ _ ∙ fails (lt-leb h 4096 d) _ _)

          module _ (d : h ≤ 4096) {p : Plan} (P : Planned L (length ks) h p) where
            planned : build L ks vs h (length out) ≡ provided (leb p.end (length out)) 14 (provided p.fits 16 (gives p.end))
            planned =
                let N = named r b in
                let el = length_pairs ks vs a in
                let n = h + length (behind L h (tree_of L (pairs ks vs)) (length ks)) in
                later ∙ passes c _ _ ∙ passes (le-leb h 4096 d) _ _
                ∙ ap (λ (x : Bool). provided (leb n (length out)) 14 (provided x 16 (gives n))) (plan-fits L (pairs ks vs) h (length ks) el N d P)
                ∙ ap (λ (x : ℕ). provided (leb x (length out)) 14 (provided p.fits 16 (gives x))) (plan-end L (pairs ks vs) h (length ks) el N d P)

            pub refuse-14 : length out < p.end → Answered (refuses 14) out
            refuse-14 f = refused 14 (planned ∙ fails (lt-leb p.end (length out) f) _ _)

            module _ (f : p.end ≤ length out) where
              pub refuse-16 : p.fits ≡ false → Answered (refuses 16) out
              refuse-16 g = refused 16 (planned ∙ passes (le-leb p.end (length out) f) _ _ ∙ fails g _ _)

              pub accepted : p.fits ≡ true → (o : List ℕ) → o ≡ put out h (behind L h (tree_of L (pairs ks vs)) (length ks))
                  → Answered (gives p.end) o
              unfolding out_after
              accepted g o eo =
                  let e = planned ∙ passes (le-leb p.end (length out) f) _ _ ∙ passes g _ _ in (
                    sym e,
                    eo
                        ∙ ap (λ (n : ℕ). put out h (behind L h (tree_of L (pairs ks vs)) n)) (sym (length_pairs ks vs a))
                        ∙ ap (λ (x : Answer ℕ). out_by L x h (pairs ks vs) out) (sym e),
                  )

-- ---- the length for so many entries

module _ (L : Layout) (n h : ℕ) where
  pub length-24 : entries_in_range L ≡ false → refuses 24 ≡ build_length L n h
  unfolding build_length
  length-24 r = sym (fails r _ _)

  module _ (r : entries_in_range L ≡ true) where
    pub length-11 : 40000 < n → refuses 11 ≡ build_length L n h
    unfolding build_length
    length-11 a = sym (passes r _ _ ∙ fails (lt-leb n 40000 a) _ _)

    module _ (a : n ≤ 40000) where
      pub length-13 : 4096 < h → refuses 13 ≡ build_length L n h
      unfolding build_length
      length-13 b = sym (passes r _ _ ∙ passes (le-leb n 40000 a) _ _ ∙ fails (lt-leb h 4096 b) _ _)

      module _ (b : h ≤ 4096) {p : Plan} (P : Planned L n h p) where
        length-planned : build_length L n h ≡ provided p.fits 16 (gives p.end)
        unfolding build_length
        length-planned =
            let N = named r a in
            let es : List KeyValue = replicate n (record { key = 0; value = 0 }) in
            let el : length es ≡ n = length-replicate n (record { key = 0; value = 0 }) in
            let m = h + length (behind L h (tree_of L es) n) in
            passes r _ _ ∙ passes (le-leb n 40000 a) _ _ ∙ passes (le-leb h 4096 b) _ _
            ∙ ap (λ (x : Bool). provided x 16 (gives m)) (plan-fits L es h n el N b P)
            ∙ ap (λ (x : ℕ). provided p.fits 16 (gives x)) (plan-end L es h n el N b P)

        pub length-16 : p.fits ≡ false → refuses 16 ≡ build_length L n h
        length-16 f = sym (length-planned ∙ fails f _ _)

        pub length-given : p.fits ≡ true → gives p.end ≡ build_length L n h
        length-given f = sym (length-planned ∙ passes f _ _)
