-- The levels fall at each call from an inner node.
use Rattle.std.proofs.Common.{◌≡◌, ◌+◌, ◌-◌, ◌*◌}
use Rattle.format.specs.Layout.{layout_of}
use Rattle.serialize.proofs.Taking.{Taking}
use Rattle.serialize.proofs.map.+serialize_from_ordered_iter_inner.Given as goal

abbrev pub decreases-serialize_from_ordered_iter : goal.decreases-serialize_from_ordered_iter
decreases-serialize_from_ordered_iter l = 3 * l.h + 2

abbrev pub decreases-inner : goal.decreases-inner
decreases-inner l = 3 * l.h + 1

abbrev pub decreases-node_over : goal.decreases-node_over
decreases-node_over l = 3 * l.h

abbrev pub invariant-node_over-loop : goal.invariant-node_over-loop
invariant-node_over-loop l =
    (l.open.taken ≡ l.counter)
    × Taking (layout_of l.given.layout) l.given.keys.now l.given.values.now (l.h - 1) l.fn.out l.fn.here l.out l.open.slots.now l.p l.counter
