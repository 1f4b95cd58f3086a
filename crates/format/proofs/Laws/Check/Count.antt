-- The list of a node that holds has the number of entries that the check counts. Assumes nothing.
use Prim.Native.Nat.{ℕ, zero, suc, ◌+◌, ◌≤◌}
use Rattle.std.specs.Prelude.{◌≡◌, List, length}
use Rattle.std.proofs.Math.Path.{refl, ap}
use Rattle.std.proofs.Common.{arith}
use Rattle.std.proofs.Math.ListN.{length-append}
use Rattle.format.specs.declared.Entry.{Entry}
use Rattle.format.specs.Layout.{Layout}
use Rattle.format.specs.Node.{kind}
use Rattle.format.specs.Entries.{slots, list_child, list_children, list_body, list_at}
use Rattle.format.specs.NodeRelation.{ChildOk, gone, there, ChildrenOk, last, more, NodeOk, leaf_ok, inner_ok, Holds, Valid}

module _ (L : Layout) (s : List ℕ) where
  pub slots_length : (p n i : ℕ) → length (slots L s p n i) ≡ n
  unfolding slots
  slots_length p zero i = refl
  slots_length p (suc n) i = ap suc (slots_length p n (suc i))

  module _ (N : ℕ → ℕ → ℕ → ℕ → Type 0) (give : ℕ → List Entry)
      (ih : (lo hi p n : ℕ) → N lo hi p n → length (give p) ≡ n) where
    child-count : {lo hi f stop n : ℕ} → ChildOk L s N lo hi f stop n → length (list_child L s give f) ≡ n
    unfolding list_child
    child-count (gone ea es en) = rw (ea, list_child) (omega arith)
    child-count (there ea q el nd es) = rw (ea, el, list_child) (ih _ _ _ _ nd)

    children-count : {p k i lo n : ℕ} → ChildrenOk L s N p k i lo n → length (list_children L s give p k i) ≡ n + k
    unfolding list_children
    children-count (last c) = omega (arith, child-count c)
    children-count (more c ks en) = simp length-append (omega (arith, child-count c, children-count ks))

    node-count : {lo hi p n : ℕ} → NodeOk L s N lo hi p n → length (list_body L s give p (kind L s p)) ≡ n
    unfolding list_body
    node-count {p = p} (leaf_ok ek i l e) = rw (ek, slots_length) (omega arith)
    node-count (inner_ok ek i m ks e) = rw ek (omega (arith, children-count ks))

  holds-count : (d fuel : ℕ) → d ≤ fuel → (lo hi p n : ℕ) → Holds L s d lo hi p n → length (list_at L s fuel p) ≡ n
  unfolding list_at
  holds-count zero fuel h lo hi p n v = absurd v
  holds-count (suc d) zero h lo hi p n v = absurd (omega arith)
  holds-count (suc d) (suc fuel) h lo hi p n v = node-count (Holds L s d) (list_at L s fuel) (holds-count d fuel (omega arith)) v

  -- At every fuel from the depth on.
  pub count : {d lo hi p n : ℕ} → Valid L s d lo hi p n → (fuel : ℕ) → d ≤ fuel → length (list_at L s fuel p) ≡ n
  count {d} {lo} {hi} {p} {n} v fuel h = holds-count d fuel h lo hi p n v.holds
