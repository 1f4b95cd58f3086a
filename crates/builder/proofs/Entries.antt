-- The archive of the given entries, as its parts are written. Assumes nothing.
use Rattle.std.specs.Prelude.{Option}
use mathlib.Core.Path.{◌≡◌, refl, sym, ap, ap₂, ◌∙◌, subst}
use mathlib.Core.List.{List, [], ◌∷◌}
use Prim.Native.Nat.{ℕ, zero, suc, ◌+◌, ◌-◌, ◌≤◌, ◌<◌}
use native.Mathlib.Omega.{arith}
use lib.ListN.{length, replicate}
use Rattle.format.specs.Layout.{Layout, pointer, node_align, record_size}
use Rattle.format.specs.Bytes.{put}
use Rattle.format.specs.Align.{zeros_to}
use Rattle.format.specs.Tree.{Branch, length_branch, child_of, write_branch, KeyValue}
use Rattle.format.specs.Build.{height, last_level, fill, tree_of, record_bytes, behind, pairs}
use Rattle.format.specs.Weight.{upper}
use Rattle.format.proofs.Laws.Numbers.Align.{zeros-lt}
use Rattle.format.proofs.Laws.Build.Given.{length_pairs}
use Rattle.format.proofs.Laws.Build.Height.{fitting}
use Rattle.format.proofs.Laws.Build.Weight.{tree-weighs}
use Rattle.format.proofs.Laws.Build.Longest.{nodes-small}
use Rattle.nodes.specs.declared.inline_vec.ChildPos.{ChildPos}
use Rattle.nodes.specs.Nodes.{child_at}
use Rattle.serialize.specs.declared.map.Place.{Place}
use Rattle.serialize.specs.Wrote.{from, Ready, Wrote}
use Rattle.builder.specs.declared.size.Plan.{Plan}
use Rattle.builder.specs.Size.{Named, first_align_of, nodes_of, Planned}
use Rattle.builder.proofs.Whole.{record-aligns, first-align, behind-by, none_last, none-height}

tree_is : (L : Layout) (es : List KeyValue) → tree_of L es ≡ (fill L (height L (length es) - 1) (last_level L (length es)) es).branch
unfolding tree_of fill
tree_is L [] = rw (none-height L, none_last L)
tree_is L (e ∷ es) = refl

-- The nodes of a tree stand from s on.
record Stands (L : Layout) (s : ℕ) (c : Option ChildPos) (r : Place) (o o' : List ℕ) (b : Branch) : Type 0 where
  at : r.at.0 ≡ s + length_branch L b
  child : child_at c ≡ child_of L b s
  bytes : o' ≡ put o s (write_branch L b s)

module _ (L : Layout) (ks vs : List ℕ) (h : ℕ) (N : Named L (length ks)) (same : length ks ≡ length vs) {q : Plan} (P : Planned L (length ks) h q) where
  tree : Branch
  tree = tree_of L (pairs ks vs)

  all : length (pairs ks vs) ≡ length ks
  all = length_pairs ks vs same

  one : 0 < L.entries
  one = omega (arith, N.least)

  filled : (fill L q.above q.last (from ks vs 0)).branch ≡ tree
  unfolding tree
  filled =
      ap₂ (λ (x y : ℕ). (fill L x y (pairs ks vs)).branch) P.above P.last
      ∙ ap (λ (n : ℕ). (fill L (height L n - 1) (last_level L n) (pairs ks vs)).branch) (sym all)
      ∙ sym (tree_is L (pairs ks vs))

  weighs : length_branch L tree ≡ nodes_of L (length ks)
  unfolding tree
  weighs = tree-weighs L (pairs ks vs) one ∙ ap (nodes_of L) all

  parts : q.first + length_branch L tree + record_size L ≡ q.end
  parts = omega (arith, P.first, weighs, P.end)

  -- The levels fit the entries, also where there are none.
  levels : (n : ℕ) → upper L (height L n - 1) + last_level L n ≡ n
  levels zero = rw (none-height L, none_last L) refl
  levels (suc n) =
      let F = fitting L one (suc n) (omega arith) in
      let e : height L (suc n) - 1 ≡ F.above = omega (arith, F.height-is) in
      omega (arith, ap (upper L) e, F.last-is)

  abbrev place : Place
  place = record { next = 0; last = q.last; at = record { 0 = q.first } }

  align-most : (n : ℕ) → zeros_to (first_align_of L n) h < 8
  align-most zero = omega (arith, zeros-lt (pointer L) h (record-aligns L.width).0, (record-aligns L.width).1)
  align-most (suc n) = zeros-lt node_align h (omega arith)

  pub ready : (n : ℕ) → h ≤ 4096 → q.end ≤ n → Ready L ks vs q.above place n
  ready n low fits =
      let u = ap (upper L) P.above in
      let short = nodes-small L N.least N.most (length ks) N.few in
      let f = ap (length_branch L) filled in
      record {
        enough = omega (arith, u, P.last, levels (length ks));
        fits = omega (arith, f, weighs, parts, fits, short, P.first, align-most (length ks));
      }

  module _ {c : Option ChildPos} {r : Place} {o₁ o₂ : List ℕ} (W : Wrote L ks vs (fill L q.above q.last (from ks vs 0)) place o₁ c r o₂) where
    pub record-fits : r.at.0 + record_size L ≡ q.end
    record-fits = omega (arith, W.at, ap (length_branch L) filled, parts)

    pub archive-by : (out o₃ : List ℕ) → o₁ ≡ put out h (replicate (q.first - h) 0)
        → o₃ ≡ put o₂ r.at.0 (record_bytes L r.at.0 (child_at c) q.entries)
        → o₃ ≡ put out h (behind L h (tree_of L (pairs ks vs)) (length ks))
    unfolding tree
    archive-by out o₃ e₁ e₃ =
        let a = first-align L (pairs ks vs) one ∙ ap (first_align_of L) all in
        let S = subst (Stands L q.first c r o₁ o₂) filled (record { at = W.at; child = W.child; bytes = W.bytes }) in
        behind-by L tree h (length ks) _ q.first r.at.0 (child_at c) out o₁ o₂ o₃ a P.first S.at S.child e₁ S.bytes
        (e₃ ∙ ap (λ (n : ℕ). put o₂ r.at.0 (record_bytes L r.at.0 (child_at c) n)) P.entries)
