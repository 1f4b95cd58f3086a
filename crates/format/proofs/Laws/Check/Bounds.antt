-- A node that the check accepts has no more entries than it takes bytes, and ends in its range. Assumes nothing.
use Rattle.std.specs.Prelude.{ℕ, zero, suc, ◌+◌, ◌≤◌, ◌≡◌, List}
use Rattle.std.proofs.Common.{arith}
use Rattle.format.specs.Layout.{Layout}
use Rattle.format.specs.Node.{size_at}
use Rattle.format.specs.Check.{accepted, check_node}
use Rattle.format.specs.NodeRelation.{ChildOk, gone, there, ChildrenOk, last, more, NodeOk, leaf_ok, inner_ok, Holds}
use Rattle.format.proofs.Laws.Check.Sound.{sound}

module _ (L : Layout) (s : List ℕ) where
  module _ (N : ℕ → ℕ → ℕ → ℕ → Type 0) (ih : (lo hi p n : ℕ) → N lo hi p n → (n + lo ≤ p + size_at L s p) × (p + size_at L s p ≤ hi)) where
    pub child-bytes : {lo hi f stop n : ℕ} → ChildOk L s N lo hi f stop n → lo ≤ hi → (n + lo ≤ stop) × (stop ≤ hi)
    child-bytes (gone ea es en) h = omega arith
    child-bytes (there ea q el nd es) h = omega (arith, ih _ _ _ _ nd)

    children-bytes : {p k i lo n : ℕ} → ChildrenOk L s N p k i lo n → lo ≤ p → n + lo ≤ p
    children-bytes (last c) h = omega (arith, child-bytes c h)
    children-bytes (more c ks en) h = let b = child-bytes c h in omega (arith, children-bytes ks b.1)

    node-bytes : {lo hi p n : ℕ} → NodeOk L s N lo hi p n → (n + lo ≤ p + size_at L s p) × (p + size_at L s p ≤ hi)
    node-bytes (leaf_ok ek i l e) = let h = i.high in let w = i.low in (rw ek (omega arith), h)
    node-bytes (inner_ok ek i m ks e) = let h = i.high in let k = children-bytes ks i.low in (rw ek (omega arith), h)

  pub holds-bytes : (d lo hi p n : ℕ) → Holds L s d lo hi p n → (n + lo ≤ p + size_at L s p) × (p + size_at L s p ≤ hi)
  holds-bytes zero lo hi p n v = absurd v
  holds-bytes (suc d) lo hi p n v = node-bytes (Holds L s d) (holds-bytes d) v

  -- Of the numbers that the check answers.
  pub check-bytes : (d hi lo f n t : ℕ) → check_node L s d hi lo f ≡ accepted n t → (n + lo ≤ t) × (t ≤ hi)
  check-bytes d hi lo f n t e =
      let h = sound L s d hi lo f n t e in
      let b = holds-bytes d lo hi h.pos n h.node in
      let z = h.next in
      omega arith
