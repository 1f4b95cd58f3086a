-- The depth falls, and the first i children are passed.
use Rattle.std.proofs.Common.{◌≡◌, ◌+◌, ◌*◌, ◌≤◌}
use Rattle.quick.specs.Sizes.{numbered}
use Rattle.quick.proofs.Passing.{SoFar}
use Rattle.quick.proofs.+quick_child_quick_node.Given as goal

-- Twice the depth, and one more before the children are gone through.
abbrev pub decreases-quick_child : goal.decreases-quick_child
decreases-quick_child g l = l.depth + l.depth

abbrev pub decreases-quick_node : goal.decreases-quick_node
decreases-quick_node g l = l.depth + l.depth + 1

abbrev pub invariant-quick_node-loop-i : goal.invariant-quick_node-loop-i
invariant-quick_node-loop-i g l =
    (l.i ≤ g.row.E + 1) × (l.from ≤ l.at) × (l.total + l.start ≤ l.from + g.row.E) × (l.first ≡ l.at + (8 + 16 * g.row.E))
    × SoFar (numbered g.row.W g.row.E) l.archive l.depth l.at l.start l.i l.from l.total
