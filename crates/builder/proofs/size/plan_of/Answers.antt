-- The plan for no entries and for some.
use Rattle.std.proofs.Common.{◌≤◌, arith}
use Rattle.format.specs.Layout.{layout_of}
use Rattle.format.proofs.Laws.Build.Longest.{nodes-small}
use Rattle.serialize.proofs.Nodes.{not_none}
use Rattle.builder.proofs.Levels.{fits}
use Rattle.builder.proofs.Whole.{none-planned, some-planned}
use Rattle.builder.proofs.size.plan_of.Goals as goal
use Rattle.builder.proofs.size.plan_of.Goals.{After-nodes_of-nodes}

pub returns-then-n-eq0 : goal.returns-then-n-eq0
returns-then-n-eq0 c =
    none-planned (layout_of c.args.layout) c.args.n c.args.header c.if-n-eq0.true _ _ _
    c.next_multiple_of-first.ensures.value c.pointer.ensures.0 c.record.ensures.0

pub overflow_sub-result-2 : goal.overflow_sub-result-2
overflow_sub-result-2 c =
    omega (arith, (fits _ _ c.requires.0 (not_none _ c.if-n-eq0.false) c.levels_of-v.ensures).power-low.1)

-- The nodes are not longer than the longest archive.
short : (c : After-nodes_of-nodes) → c.nodes_of-nodes.result ≤ 1040000
short c =
    let N = c.requires.0 in
    omega (arith, c.nodes_of-nodes.ensures, nodes-small (layout_of c.args.layout) N.least N.most c.args.n N.few)

pub overflow_add-result-2 : goal.overflow_add-result-2
overflow_add-result-2 c =
    omega (arith, short (goal.at.overflow_add-result-2 c).After-nodes_of-nodes, c.next_multiple_of-first-2.ensures.upper_bound, c.requires.1)

pub overflow_add-result-3 : goal.overflow_add-result-3
overflow_add-result-3 c =
    let up = c.next_multiple_of-first-2.ensures.upper_bound in
    omega (arith, short (goal.at.overflow_add-result-3 c).After-nodes_of-nodes, up, c.requires.1, c.record-2.ensures)

pub returns : goal.returns
returns c =
    some-planned (layout_of c.args.layout) c.args.n c.args.header c.requires.0 (not_none _ c.if-n-eq0.false)
    c.levels_of-v.ensures _ _ _ _ c.next_multiple_of-first-2.ensures.value c.nodes_of-nodes.ensures c.record-2.ensures.0 c.offsets_fit.ensures
