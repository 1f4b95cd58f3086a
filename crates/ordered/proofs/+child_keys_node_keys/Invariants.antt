-- The depth falls, and the first i children and the slots after them are passed.
use Rattle.std.proofs.Common.{◌≡◌, ◌+◌, ◌*◌, ◌≤◌}
use Rattle.quick.specs.Sizes.{numbered}
use Rattle.ordered.proofs.Order.{KeysSoFar}
use Rattle.ordered.proofs.+child_keys_node_keys.Given as goal

-- Twice the depth, and one more before the children are gone through.
abbrev pub decreases-child_keys : goal.decreases-child_keys
decreases-child_keys g l = l.depth + l.depth

abbrev pub decreases-node_keys : goal.decreases-node_keys
decreases-node_keys g l = l.depth + l.depth + 1

abbrev pub invariant-node_keys-loop-i : goal.invariant-node_keys-loop-i
invariant-node_keys-loop-i g l =
    (l.i ≤ g.row.E + 1) × (l.from ≤ l.at) × (l.entries + l.start ≤ l.from + g.row.E) × (l.first ≡ l.at + (8 + 16 * g.row.E))
    × KeysSoFar (numbered g.row.W g.row.E) l.archive l.depth l.at l.start l.fn.before l.i l.from l.entries l.last
