-- The first i leaves are passed, and the others end at the node.
use Rattle.std.proofs.Common.{◌≡◌, ℕ, ◌+◌, ◌-◌, ◌*◌, ◌%◌, ◌<◌, ◌≤◌}
use Rattle.quick.specs.Sizes.{numbered}
use Rattle.quick.proofs.Passing.{SoFar}
use Rattle.quick.proofs.quick_leaves.Given as goal

abbrev pub invariant-loop-i : goal.invariant-loop-i
invariant-loop-i g l =
    (l.i ≤ g.row.E + 1) × (l.p + (16 + 16 * g.row.E) * (g.row.E + 1 - l.i) ≡ l.at) × (l.p % 8 ≡ 0)
    × (from : ℕ) × (from ≤ l.p) × ((d : ℕ) → 0 < d → SoFar (numbered g.row.W g.row.E) l.archive d l.at l.start l.i from l.total)
