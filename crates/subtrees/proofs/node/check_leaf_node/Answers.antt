-- A leaf's answer is the definition's, by what the test of its place answers and by the count that stands in it.
use Rattle.std.specs.Prelude.{Ok}
use Rattle.std.proofs.Common.{◌≡◌, sym, arith}
use Rattle.std.proofs.lemmas.Result.{err_from_is_err_and}
use Rattle.format.specs.Layout.{layout_of, leaf_size, node_align}
use Rattle.subtrees.specs.Subtree.{opened}
use Rattle.subtrees.proofs.Places.{opened-held, opened-sized}
use Rattle.subtrees.proofs.Nodes.{leaf-refused, leaf-long, leaf-entries}
use Rattle.subtrees.proofs.node.check_leaf_node.Goals as goal
use Rattle.subtrees.proofs.node.check_leaf_node.Goals.{In_ok-in_subtree}

pub returns-in_err-in_subtree : goal.returns-in_err-in_subtree
returns-in_err-in_subtree c =
    let p = err_from_is_err_and c.from_residual.result c.from_residual.ensures.1 in
    rw (p.1, p.2) (leaf-refused _ _ _ _ _ _ c.requires.2 (opened-sized _ _ _ _ _ c.in_err-in_subtree.ensures c.leaf-leaf_size.ensures.0))

-- The leaf is in its place.
placed : (c : In_ok-in_subtree) → let range = c.args.range in let L = layout_of c.args.layout in
    opened range.start.0 range.end.0 c.args.depth c.args.at.0 (leaf_size L) node_align ≡ Ok tt
placed c = sym (opened-sized _ _ _ _ _ c.in_ok-in_subtree.ensures c.leaf-leaf_size.ensures.0)

pub uint_at-entries-requires : goal.uint_at-entries-requires
uint_at-entries-requires c = omega (arith, (opened-held _ _ _ _ _ _ (placed (goal.at.uint_at-entries-requires c).In_ok-in_subtree)).0)

pub returns-then-entries-layout : goal.returns-then-entries-layout
returns-then-entries-layout c =
    leaf-long _ _ _ _ _ _ c.requires.2 (placed (goal.at.returns-then-entries-layout c).In_ok-in_subtree) _ (rw c.node.ensures.0 at c.uint_at-entries.ensures.0) (omega arith)

pub returns : goal.returns
returns c =
    leaf-entries _ _ _ _ _ _ c.requires.2 (placed (goal.at.returns c).In_ok-in_subtree) _ (rw c.node.ensures.0 at c.uint_at-entries.ensures.0) (omega arith) (omega arith)
