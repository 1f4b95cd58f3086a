-- The check of a field that leads to p is the check of the node at p. Assumes nothing.
use Prim.Native.Nat.{ℕ, zero, suc}
use mathlib.Core.Path.{◌≡◌}
use mathlib.Core.List.{List}
use Rattle.format.specs.Layout.{Layout}
use Rattle.format.specs.RelPtr.{at, target}
use Rattle.format.specs.Node.{kind}
use Rattle.format.specs.Check.{check_at, check_node}
use Rattle.subtrees.specs.Entered.{entered}

pub node_at : (L : Layout) (s : List ℕ) (d start end f p : ℕ) → target L s f ≡ at p
    → check_node L s d end start f ≡ check_at L s end start (at p) (entered L s d start p (kind L s p))
unfolding check_node entered
node_at L s zero start end f p e = rw e
node_at L s (suc d) start end f p e = rw e
