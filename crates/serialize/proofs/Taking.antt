-- An open inner node between two of its children. Assumes nothing.
use Prim.Native.Nat.{ℕ, zero, suc, ◌+◌, ◌-◌, ◌*◌, ◌≤◌, ◌<◌, min}
use Rattle.std.specs.Prelude.{Option}
use mathlib.Core.Path.{◌≡◌, refl, sym, ap, ◌∙◌, subst}
use mathlib.Core.List.{List, [], ◌∷◌, ◌++◌, append-nil}
use native.Mathlib.Omega.{arith}
use lib.ListN.{length, set, take, length-drop, length-set}
use Rattle.format.specs.Layout.{Layout, inner_size}
use Rattle.format.specs.Tree as tree
use Rattle.format.specs.Build.{fill_branches, fill, pairs}
use Rattle.format.specs.Weight.{upper, room}
use Rattle.format.proofs.Laws.Build.Filling.{fill-took}
use Rattle.format.proofs.Laws.Build.Given.{length_pairs}
use Rattle.nodes.specs.declared.inline_vec.ChildPos.{ChildPos}
use Rattle.nodes.specs.declared.inline_vec.Slot.{Slot}
use Rattle.nodes.specs.Nodes.{slot_in, slots_in, Within}
use Rattle.serialize.specs.declared.map.Place.{Place}
use Rattle.serialize.specs.Wrote.{most, from, Ready, Wrote}
use Rattle.serialize.proofs.Children.{ReadyAll, Ends, ends, ends_more, child-in}
use Rattle.serialize.proofs.Nodes.{Grew, wrote-long, grew-long, inner-ready}

-- ---- a slot more

slots-more : (ks vs : List ℕ) (i : ℕ) (ss : List Slot) (x : Slot) → i < length ss
    → slots_in ks vs (take (suc i) (set ss i x)) ≡ slots_in ks vs (take i ss) ++ (slot_in ks vs x ∷ [])
slots-more ks vs i [] x h = absurd (omega arith)
slots-more ks vs zero (y ∷ ss) x h = refl
slots-more ks vs (suc i) (y ∷ ss) x h = ap (λ (r : List tree.Slot). slot_in ks vs y ∷ r) (slots-more ks vs i ss x (omega arith))

within_more : (m i : ℕ) (ss : List Slot) (x : Slot) → Within m (take i ss) → x.place < m → i < length ss → Within m (take (suc i) (set ss i x))
within_more m i [] x w h l = absurd (omega arith)
within_more m zero (y ∷ ss) x w h l = (h, tt)
within_more m (suc i) (y ∷ ss) x w h l = (w.0, within_more m i ss x w.1 h (omega arith))

-- A child takes u entries and, of the m for the last level, at most c; after it comes an entry, and then k entries and k + 1 children.
enough-more : (u c k m i n j l : ℕ) → i + (suc (suc k) * u + suc k + min m (suc (suc k) * c)) ≤ n → j ≡ i + (u + min m c) → l + min m c ≡ m
    → (j < n) × (suc j + (suc k * u + k + min l (suc k * c)) ≤ n)
enough-more u c k m i n j l e a b = (omega arith, omega arith)

module _ (L : Layout) (ks vs : List ℕ) (h : ℕ) where
  abbrev Child-of : Place → List ℕ → Option ChildPos → Place → List ℕ → Type 0
  Child-of p out c r out' = Wrote L ks vs (fill L h p.last (from ks vs p.next)) p out c r out'

  -- ---- enough entries are left, and room

  -- What a child takes.
  took : {p r : Place} {c : Option ChildPos} {out out' : List ℕ} → length ks ≡ length vs
      → p.next + (upper L h + min p.last (room L h)) ≤ length ks → Child-of p out c r out'
      → (r.next ≡ p.next + (upper L h + min p.last (room L h))) × (r.last + min p.last (room L h) ≡ p.last)
  took {p} {r} {c} el l W =
      let es = from ks vs p.next in
      let all = length_pairs ks vs el in
      let n : length es ≡ length ks - p.next = length-drop p.next (pairs ks vs) ∙ ap (λ (x : ℕ). x - p.next) all in
      let T = fill-took L h p.last es (omega (arith, n)) in
      let k : length (fill L h p.last es).rest ≡ length ks - r.next =
      ap length (sym W.rest) ∙ length-drop r.next (pairs ks vs) ∙ ap (λ (x : ℕ). x - r.next) all in
      (omega (arith, T.left, n, k, W.next), omega (arith, T.last, W.last))

  -- The first of the children that are left.
  pub ready-one : {k n : ℕ} {p : Place} → ReadyAll L ks vs h k p n → Ready L ks vs h p n
  ready-one {k} {n} {p} R =
      record {
        enough = omega (arith, R.enough);
        fits = omega (arith, R.fits, child-in L (fill L h) k p.last (from ks vs p.next));
      }

  -- ---- between two children

  -- i entries are taken: what is left comes to what there was to do.
  pub record Taking (out₀ : List ℕ) (p₀ : Place) (out : List ℕ) (ss : List Slot) (p : Place) (i : ℕ) : Type 0 where
    pub upto : i ≤ L.entries
    pub long : length out ≡ length out₀
    pub roomy : length ss ≡ 15
    pub within : Within (length ks) (take i ss)
    pub ready : ReadyAll L ks vs h (L.entries - i) p (length out)
    pub same : ends L (fill L h) (L.entries - i) out (slots_in ks vs (take i ss)) p.at.0 p.last (from ks vs p.next)
        ≡ ends L (fill L h) L.entries out₀ [] p₀.at.0 p₀.last (from ks vs p₀.next)

  module _ (out₀ : List ℕ) (p₀ : Place) where
    pub taking-start : (ss : List Slot) → length ss ≡ 15 → ReadyAll L ks vs h L.entries p₀ (length out₀) → Taking out₀ p₀ out₀ ss p₀ 0
    taking-start ss e R =
        let z : L.entries - 0 ≡ L.entries = omega arith in
        record { upto = omega arith; long = refl; roomy = e; within = tt; ready = rw z R; same = rw z refl }

    -- The next child is written, and after it comes an entry.
    pub taking-more : {out out' : List ℕ} {ss : List Slot} {c : Option ChildPos} {p r : Place} {i : ℕ} → length ks ≡ length vs → L.entries ≤ 15
        → i < L.entries → Taking out₀ p₀ out ss p i → Child-of p out c r out'
        → (r.next < length ks)
        × Taking out₀ p₀ out' (set ss i (record { place = r.next; lesser = c })) (record { next = r.next + 1; last = r.last; at = r.at }) (i + 1)
    taking-more {out} {out'} {ss} {c} {p} {r} {i} el few lt T W =
        let eo : length out' ≡ length out = wrote-long L ks vs W in
        let n = L.entries - suc i in
        let z : L.entries - i ≡ suc n = omega arith in
        let R = subst (λ (x : ℕ). ReadyAll L ks vs h x p (length out)) z T.ready in
        let (a, d) = took el (ready-one R).enough W in
        let (lo, enough) = enough-more (upper L h) (room L h) n p.last p.next (length ks) r.next r.last R.enough a d in
        let E = ends_more L (fill L h) ks vs n p r c out out' (slots_in ks vs (take i ss)) el lo W in
        let in-slots : i < length ss = omega (arith, T.roomy) in
        let x : Slot = record { place = r.next; lesser = c } in
        let f : r.next + 1 ≡ suc r.next = omega arith in
        let g : i + 1 ≡ suc i = omega arith in (
          lo,
          rw (f, g)
              (record {
                upto = omega arith;
                long = eo ∙ T.long;
                roomy = length-set ss i x ∙ T.roomy;
                within = within_more (length ks) i ss x T.within lo in-slots;
                ready = record { enough = enough; fits = omega (arith, ap (λ (x : Ends). x.at) E, R.fits, eo) };
                same =
                    ap (λ (y : List tree.Slot). ends L (fill L h) n out' y r.at.0 r.last (from ks vs (suc r.next)))
                    (slots-more ks vs i ss x in-slots)
                    ∙ sym E
                    ∙ ap (λ (y : ℕ). ends L (fill L h) y out (slots_in ks vs (take i ss)) p.at.0 p.last (from ks vs p.next)) (sym z)
                    ∙ T.same;
              }),
        )

    -- The last child.
    taking-end : {out out' : List ℕ} {ss : List Slot} {c : Option ChildPos} {p r : Place} {i : ℕ} → i ≡ L.entries
        → Taking out₀ p₀ out ss p i → Child-of p out c r out'
        → Grew L ks vs (fill_branches (fill L h) L.entries p₀.last (from ks vs p₀.next)) p₀ out₀ (take i ss) c r out'
    taking-end {out} {out'} {ss} {c} {p} {r} {i} ei T W =
        let z : 0 ≡ L.entries - i = omega arith in
        let es = from ks vs p.next in
        let filled = slots_in ks vs (take i ss) in
        let E : ends L (fill L h) 0 out filled p.at.0 p.last es
        ≡ ends L (fill L h) L.entries out₀ [] p₀.at.0 p₀.last (from ks vs p₀.next) =
        ap (λ (x : ℕ). ends L (fill L h) x out filled p.at.0 p.last es) z ∙ T.same in
        record {
          bytes = W.bytes ∙ ap (λ (x : Ends). x.bytes) E;
          slots = sym (append-nil filled) ∙ ap (λ (x : Ends). x.slots) E;
          within = T.within;
          greater = W.child ∙ ap (λ (x : Ends). x.greater) E;
          at = W.at ∙ ap (λ (x : Ends). x.at) E;
          rest = W.rest ∙ ap (λ (x : Ends). x.rest) E;
          next = W.next;
          last = W.last ∙ ap (λ (x : Ends). x.last) E;
        }

-- With the last child of an inner node there is room for the node, and its slots are filled.
pub closing : (L : Layout) (ks vs : List ℕ) {h : ℕ} {p₀ p r : Place} {c : Option ChildPos} {out₀ out out' : List ℕ} {ss : List Slot} {i : ℕ}
    → 0 < h → (h ≡ 1 → 0 < p₀.last) → Ready L ks vs h p₀ (length out₀) → i ≤ L.entries → L.entries ≤ i → Taking L ks vs (h - 1) out₀ p₀ out ss p i
    → Wrote L ks vs (fill L (h - 1) p.last (from ks vs p.next)) p out c r out'
    → (r.at.0 + inner_size L ≤ min (length out') most)
    × Grew L ks vs (fill_branches (fill L (h - 1)) L.entries p₀.last (from ks vs p₀.next)) p₀ out₀ (take L.entries ss) c r out'
closing L ks vs {h} {p₀} {p} {r} {c} {out₀} {out} {out'} {ss} {i} l top R a b T W =
    let e : i ≡ L.entries = omega arith in
    let G = rw e at (taking-end L ks vs (h - 1) out₀ p₀ e T W) in (
      omega (arith, G.at, (inner-ready L ks vs l top R).1, grew-long L ks vs G),
      G,
    )
