-- The nodes of a subtree: a leaf, none, or an inner node behind its children. Assumes nothing.
use Prim.Native.Nat.{ℕ, zero, suc, ◌+◌, ◌-◌, ◌*◌, ◌≤◌, ◌<◌, min}
use Rattle.std.specs.Prelude.{Option, None, Some}
use Rattle.format.specs.declared.Position.{Position}
use mathlib.Core.Path.{◌≡◌, refl, sym, ap, ◌∙◌, subst}
use mathlib.Core.List.{List, [], ◌∷◌}
use native.Mathlib.Omega.{arith}
use lib.ListN.{length, take, drop}
use lib.Seq.{drop-drop, length-sets}
use Rattle.std.specs.List.{between}
use Rattle.format.specs.Layout.{Layout, leaf_size, inner_size}
use Rattle.format.specs.Bytes.{put}
use Rattle.format.specs.Tree as tree
use Rattle.format.specs.Tree.{leaf_bytes, inner_bytes, length_branches, length_branch, slots_of, greater_of, write_branches, write_branch, KeyValue}
use Rattle.format.specs.Build.{Filled, FilledBranches, closed, fill_branches, fill_leaf, fill, pairs}
use Rattle.format.proofs.Laws.Numbers.Bytes.{put-append}
use Rattle.format.specs.Weight.{upper, room}
use Rattle.format.proofs.Laws.Build.NodeBytes.{length-write_branches}
use Rattle.nodes.specs.declared.inline_vec.ChildPos.{ChildPos}
use Rattle.nodes.specs.declared.inline_vec.Slot.{Slot}
use Rattle.nodes.specs.Nodes.{child_at, slots_in, Within}
use Rattle.serialize.specs.declared.map.Place.{Place}
use Rattle.serialize.specs.Wrote.{most, from, child_there, after, Ready, Wrote}
use Rattle.serialize.proofs.Children.{ReadyAll}

pub not_none : (m : ℕ) → (m ≡ 0 → ⊥) → 0 < m
not_none zero h = absurd (h refl)
not_none (suc m) h = omega arith

drop-pairs : (i : ℕ) (a b : List ℕ) → drop i (pairs a b) ≡ pairs (drop i a) (drop i b)
drop-pairs zero a b = refl
drop-pairs (suc i) [] b = refl
drop-pairs (suc i) (x ∷ a) [] = none (drop i a)
  where
    none : (l : List ℕ) → [] ≡ pairs l []
    none [] = refl
    none (x ∷ l) = refl
drop-pairs (suc i) (x ∷ a) (y ∷ b) = drop-pairs i a b

take-pairs : (k : ℕ) (a b : List ℕ) → take k (pairs a b) ≡ pairs (take k a) (take k b)
take-pairs zero a b = refl
take-pairs (suc k) [] b = refl
take-pairs (suc k) (x ∷ a) [] = refl
take-pairs (suc k) (x ∷ a) (y ∷ b) = ap (λ (l : List KeyValue). record { key = x; value = y } ∷ l) (take-pairs k a b)

-- The children of an inner node stand from the place p on to the place r, the last at c, and its slots have the entries between them.
pub record Grew (L : Layout) (ks vs : List ℕ) (F : FilledBranches) (p : Place) (out : List ℕ) (ss : List Slot) (c : Option ChildPos) (r : Place)
    (out' : List ℕ) : Type 0 where
  pub bytes : out' ≡ put out p.at.0 (write_branches L F.branches p.at.0)
  pub slots : slots_in ks vs ss ≡ slots_of L F.branches p.at.0
  pub within : Within (length ks) ss
  pub greater : child_at c ≡ greater_of L F.branches p.at.0
  pub at : r.at.0 ≡ p.at.0 + length_branches L F.branches
  pub rest : from ks vs r.next ≡ F.rest
  pub next : r.next ≤ length ks
  pub last : r.last ≡ F.last

module _ (L : Layout) (ks vs : List ℕ) where
  -- ---- a leaf

  pub leaf-wrote : (p : Place) (out out' : List ℕ) (k m n : ℕ) → p.next + k ≤ length ks
      → out' ≡ put out p.at.0 (leaf_bytes L (pairs (between p.next (p.next + k) ks) (between p.next (p.next + k) vs))) → n ≡ leaf_size L
      → Wrote L ks vs (fill_leaf L k m (from ks vs p.next)) p out (child_there p.at.0)
      (record { next = p.next + k; last = m; at = record { 0 = p.at.0 + n } }) out'
  leaf-wrote p out out' k m n h e en =
      let f : p.next + k - p.next ≡ k = omega arith in
      record {
        bytes =
            rw f at e
            ∙ ap (λ (es : List KeyValue). put out p.at.0 (leaf_bytes L es))
            (sym (ap (take k) (drop-pairs p.next ks vs) ∙ take-pairs k (drop p.next ks) (drop p.next vs)));
        child = refl;
        at = ap (λ (x : ℕ). p.at.0 + x) en;
        rest = sym (drop-drop k p.next (pairs ks vs));
        next = h;
        last = refl;
      }

  -- A leaf of the last level, if that takes an entry, and one a level higher, if it takes none.
  pub last-fill : {h k m : ℕ} (es : List KeyValue) → h ≡ 0 → (m ≡ 0 → ⊥) → k ≡ min m L.entries → fill L h m es ≡ fill_leaf L k (m - k) es
  unfolding fill
  last-fill {m = zero} es z f e = absurd (f refl)
  last-fill {m = suc m} es z f e = rw (z, e)

  pub one-fill : {h m : ℕ} (es : List KeyValue) → h ≡ 1 → m ≡ 0 → fill L h m es ≡ fill_leaf L L.entries m es
  unfolding fill
  one-fill es h z = rw (h, z)

  pub leaf-fits : (h k m : ℕ) {n : ℕ} {p : Place} → fill L h p.last (from ks vs p.next) ≡ fill_leaf L k m (from ks vs p.next) → Ready L ks vs h p n
      → p.at.0 + leaf_size L ≤ min n most
  leaf-fits h k m {n} {p} e R = subst (λ (F : Filled). p.at.0 + length_branch L F.branch ≤ min n most) e R.fits

  -- What is told of a leaf from a place where the last level takes l entries more.
  pub leaf-filled : (h k : ℕ) {l : ℕ} {p r : Place} {c : Option ChildPos} {out out' : List ℕ}
      → fill L h p.last (from ks vs p.next) ≡ fill_leaf L k l (from ks vs p.next)
      → Wrote L ks vs (fill_leaf L k l (from ks vs p.next)) (record { next = p.next; last = l; at = p.at }) out c r out'
      → Wrote L ks vs (fill L h p.last (from ks vs p.next)) p out c r out'
  leaf-filled h k e W = rw e (record { bytes = W.bytes; child = W.child; at = W.at; rest = W.rest; next = W.next; last = W.last })

  -- ---- an inner node

  -- Its top is an inner node: it is higher than one level, or the last level takes an entry.
  inner-fill : (h m : ℕ) (es : List KeyValue) → 0 < h → (h ≡ 1 → 0 < m) → fill L h m es ≡ closed (fill_branches (fill L (h - 1)) L.entries m es)
  unfolding fill
  inner-fill zero m es l n = absurd (omega arith)
  inner-fill (suc zero) zero es l n = absurd (omega (arith, n refl))
  inner-fill (suc zero) (suc m) es l n = refl
  inner-fill (suc (suc h)) m es l n = let e : suc (suc h) - 1 ≡ suc h = omega arith in rw e

  -- Its children can be written, and then it can.
  pub inner-ready : {h n : ℕ} {p : Place} → 0 < h → (h ≡ 1 → 0 < p.last) → Ready L ks vs h p n
      → ReadyAll L ks vs (h - 1) L.entries p n
      × (p.at.0 + length_branches L (fill_branches (fill L (h - 1)) L.entries p.last (from ks vs p.next)).branches + inner_size L ≤ min n most)
  inner-ready {h} {n} {p} l top R =
      let e = inner-fill h p.last (from ks vs p.next) l top in
      let f = subst (λ (F : Filled). p.at.0 + length_branch L F.branch ≤ min n most) e R.fits in
      (record { enough = levels h l R.enough; fits = omega (arith, f) }, omega (arith, f))
    where
      levels : (h : ℕ) → 0 < h → p.next + (upper L h + min p.last (room L h)) ≤ length ks
          → p.next + (suc L.entries * upper L (h - 1) + L.entries + min p.last (suc L.entries * room L (h - 1))) ≤ length ks
      levels zero l k = absurd (omega arith)
      levels (suc h) l k = let e : suc h - 1 ≡ h = omega arith in rw e k

  pub wrote-long : {F : Filled} {p r : Place} {c : Option ChildPos} {out out' : List ℕ} → Wrote L ks vs F p out c r out' → length out' ≡ length out
  wrote-long {F} {p} {r} {c} {out} W = ap length W.bytes ∙ length-sets out p.at.0 (write_branch L F.branch p.at.0)

  pub grew-long : {R : FilledBranches} {p r : Place} {c : Option ChildPos} {ss : List Slot} {out out' : List ℕ} → Grew L ks vs R p out ss c r out'
      → length out' ≡ length out
  grew-long {R} {p} {r} {c} {ss} {out} G = ap length G.bytes ∙ length-sets out p.at.0 (write_branches L R.branches p.at.0)

  -- It is closed behind its children.
  pub grew-closed : (R : FilledBranches) (p r : Place) (c : Option ChildPos) (ss : List Slot) (out₀ out out' : List ℕ) (n : ℕ)
      → Grew L ks vs R p out₀ ss c r out
      → out' ≡ put out r.at.0 (inner_bytes L r.at.0 (slots_in ks vs ss) (child_at c)) → n ≡ inner_size L
      → Wrote L ks vs (closed R) p out₀ (child_there r.at.0) (after r n) out'
  grew-closed R p r c ss out₀ out out' n G e en =
      let bs = R.branches in
      let t = p.at.0 + length_branches L bs in
      let own = inner_bytes L t (slots_of L bs p.at.0) (greater_of L bs p.at.0) in
      let below = write_branches L bs p.at.0 in
      let g = child_at c in
      record {
        bytes =
            e
            ∙ ap (λ (n : ℕ). put out n (inner_bytes L n (slots_in ks vs ss) g)) G.at
            ∙ ap (λ (x : List tree.Slot). put out t (inner_bytes L t x g)) G.slots
            ∙ ap (λ (x : Option Position). put out t (inner_bytes L t (slots_of L bs p.at.0) x)) G.greater
            ∙ ap (λ (o : List ℕ). put o t own) G.bytes
            ∙ ap (λ (n : ℕ). put (put out₀ p.at.0 below) (p.at.0 + n) own) (sym (length-write_branches L bs p.at.0))
            ∙ sym (put-append out₀ p.at.0 below own);
        child = ap (λ (n : ℕ). Some (record { 0 = n })) G.at;
        at = omega (arith, G.at, en);
        rest = G.rest;
        next = G.next;
        last = G.last;
      }

  -- ---- what the functions leave

  -- What stands there is what was filled.
  as-filled : {F H : Filled} {p r : Place} {c : Option ChildPos} {out out' : List ℕ} → F ≡ H → Wrote L ks vs F p out c r out' → Wrote L ks vs H p out c r out'
  as-filled {p = p} {r = r} {c = c} {out = out} {out' = out'} e W = subst (λ (F : Filled). Wrote L ks vs F p out c r out') e W

  pub inner-wrote : {h : ℕ} {p r : Place} {c : Option ChildPos} {out out' : List ℕ} → 0 < h → (h ≡ 1 → 0 < p.last)
      → Wrote L ks vs (closed (fill_branches (fill L (h - 1)) L.entries p.last (from ks vs p.next))) p out c r out'
      → Wrote L ks vs (fill L h p.last (from ks vs p.next)) p out c r out'
  inner-wrote {h} {p} l top W = as-filled (sym (inner-fill h p.last (from ks vs p.next) l top)) W

  -- The last level takes no entry.
  pub none-wrote : {h n : ℕ} (p : Place) (out : List ℕ) → h ≡ 0 → p.last ≡ 0 → Ready L ks vs h p n
      → Wrote L ks vs (fill L h p.last (from ks vs p.next)) p out None p out
  unfolding fill
  none-wrote p out z e R =
      let l : p.next ≤ length ks = omega (arith, R.enough) in
      rw (z, e) (record { bytes = refl; child = refl; at = omega arith; rest = refl; next = l; last = refl })
