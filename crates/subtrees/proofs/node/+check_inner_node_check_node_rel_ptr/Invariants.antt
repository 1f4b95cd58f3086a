-- The loop's first i children are checked; a call goes down by the depth, and from a field to its node.
use Rattle.std.proofs.Common.{◌≡◌, ◌+◌, ◌-◌, ◌<◌, ◌≤◌, length}
use Rattle.format.specs.Layout.{layout_of, inner_size}
use Rattle.subtrees.proofs.Within.{ChildrenChecked}
use Rattle.subtrees.proofs.node.+check_inner_node_check_node_rel_ptr.Given as goal

abbrev pub decreases-check_inner_node : goal.decreases-check_inner_node
decreases-check_inner_node l = l.depth + l.depth

abbrev pub decreases-check_node_rel_ptr : goal.decreases-check_node_rel_ptr
decreases-check_node_rel_ptr l = l.depth + l.depth + 1

abbrev pub invariant-check_inner_node-loop-i : goal.invariant-check_inner_node-loop-i
invariant-check_inner_node-loop-i l =
    let L = layout_of l.layout in
    (l.i ≤ l.layout.entries) × (l.inside.end.0 ≡ l.at.0) × (l.at.0 + inner_size L ≤ length l.archive) × (1 < l.depth)
    × ChildrenChecked L (l.depth - 1 - 1) l.archive l.at.0 l.initial.inside.start.0 l.i l.inside.start.0 l.entries
