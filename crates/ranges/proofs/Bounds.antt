-- A node that may be read has no more entries than a full tree of the depth. Assumes nothing.
use Rattle.std.specs.Prelude.{Option, Some, None}
use Prim.Native.Nat.{ℕ, zero, suc, ◌+◌, ◌*◌, ◌^◌, ◌≤◌, ◌<◌}
use mathlib.Core.Path.{◌≡◌, refl}
use mathlib.Core.List.{List, []}
use native.Mathlib.Nat.{suc-mul, mul-le-mul_left, pow-succ', one-le-pow}
use native.Mathlib.Omega.{arith}
use lib.ListN.{length, length-append}
use Rattle.format.specs.declared.Entry.{Entry}
use Rattle.format.specs.declared.Position.{Position}
use Rattle.format.specs.Layout.{Layout, Limits, nested}
use Rattle.format.specs.Node.{child, leaf_count}
use Rattle.format.specs.Entries.{list_child, list_children, list_body, list_at}
use Rattle.format.specs.Readable.{LeadsTo, child_at, leaf_g, inner_g, Good, Node}
use Rattle.format.proofs.Laws.Read.Children.{on_child, child-leads, list-child}
use Rattle.format.proofs.Laws.Check.Count.{slots_length}

module _ (L : Layout) (s : List ℕ) where
  module _ (give : ℕ → List Entry) (b : ℕ) (some : 0 < b) where
    child-few : (f : ℕ) → ((q : ℕ) → LeadsTo L s f q → length (give q) < b) → length (list_child L s give f) < b
    unfolding on_child
    child-few f h = rw (list-child L s give f) (go (child_at L s f) refl)
      where
        go : (c : Option Position) → child_at L s f ≡ c → length (on_child [] give c) < b
        go (Some q) e = h q.0 (child-leads L s f q e)
        go None e = some

    children-few : (p k i : ℕ) → i + k ≤ L.entries → ((j q : ℕ) → j ≤ L.entries → LeadsTo L s (child L p j) q → length (give q) < b)
        → length (list_children L s give p k i) < suc k * b
    unfolding list_children
    children-few p zero i h g = let c = child-few (child L p i) (λ q l. g i q (omega arith) l) in omega arith
    children-few p (suc k) i h g =
        let c = child-few (child L p i) (λ q l. g i q (omega arith) l) in
        simp length-append (omega (arith, children-few p k (suc i) (omega arith) g, suc-mul (suc k) b))

  -- The fuel a may be above the depth d.
  good-few : (a d p : ℕ) → d ≤ a → Good L s d p → length (list_at L s a p) < suc L.entries ^ a
  unfolding list_at list_body
  good-few a zero p h v = absurd v
  good-few zero (suc d) p h v = absurd (omega arith)
  good-few (suc a) (suc d) p h (leaf_g n) =
      let c = n.count in
      let w : suc L.entries * 1 ≤ suc L.entries * suc L.entries ^ a =
      mul-le-mul_left (suc L.entries) (one-le-pow a (suc L.entries) (omega arith)) in
      rw (n.is, slots_length L s p (leaf_count L s p) 0, pow-succ' (suc L.entries) a) (omega arith)
  good-few (suc a) (suc d) p h (inner_g n v) =
      rw (n.is, pow-succ' (suc L.entries) a)
      (children-few (list_at L s a) (suc L.entries ^ a) (one-le-pow a (suc L.entries) (omega arith)) p L.entries 0 (omega arith)
      (λ j q le l. good-few a d q (omega arith) (v j q le l)))

  pub node-few : (M : Limits) {p : ℕ} → Node L M s p → length (list_at L s (nested M) p) < suc L.entries ^ nested M
  node-few M {p} N = good-few (nested M) N.level p N.fits N.good
