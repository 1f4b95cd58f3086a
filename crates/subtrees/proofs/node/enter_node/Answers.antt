-- What a field leads to is what the definition says of the node: a leaf's answer, a refusal, or an inner node in its place.
use Rattle.std.specs.Prelude.{Ok}
use Rattle.std.proofs.Common.{◌≡◌, sym, ap, ◌∙◌, arith, rules}
use Rattle.std.proofs.lemmas.Result.{err_from_is_err_and}
use Rattle.format.specs.Layout.{layout_of, head_size, node_align}
use Rattle.format.specs.RelPtr.{at, target}
use Rattle.offsets.specs.Answers.{target_of}
use Rattle.subtrees.specs.Subtree.{placed}
use Rattle.subtrees.proofs.Places.{held, placed-sized}
use Rattle.subtrees.proofs.Nodes.{node-below, node-refused, node-leaf, node-inner, node-other}
use Rattle.subtrees.proofs.node.enter_node.Goals as goal
use Rattle.subtrees.proofs.node.enter_node.Goals.{In-Some, In_ok-check_subtree_ptr}

leads : (c : In-Some) → target (layout_of c.args.layout) c.args.archive.now c.args.field.0 ≡ at c.in-Some.at.0
leads c = sym c.rel_ptr_at.ensures ∙ ap target_of c.in-Some.is

-- The node's first bytes are in their place.
here : (c : In_ok-check_subtree_ptr) → let range = c.args.range in
    placed range.start.0 range.end.0 c.in-Some.at.0 (head_size (layout_of c.args.layout)) node_align ≡ Ok tt
here c = sym (placed-sized _ _ _ _ c.in_ok-check_subtree_ptr.ensures c.node.ensures.0)

pub returns-in_default : goal.returns-in_default
returns-in_default c = node-below _ _ _ _ _ _ (sym c.rel_ptr_at.ensures ∙ ap target_of c.in_default.is)

pub returns-in_err-check_subtree_ptr : goal.returns-in_err-check_subtree_ptr
returns-in_err-check_subtree_ptr c =
    let p = err_from_is_err_and c.from_residual.result c.from_residual.ensures.1 in
    let refused = placed-sized _ _ _ _ c.in_err-check_subtree_ptr.ensures c.node.ensures.0 in
    rw (p.1, p.2) (node-refused _ _ _ _ _ _ _ (leads (goal.at.returns-in_err-check_subtree_ptr c).In-Some) refused)

pub bounds-archive-from : goal.bounds-archive-from
bounds-archive-from c = omega (arith, held _ _ _ _ _ (here (goal.at.bounds-archive-from c).In_ok-check_subtree_ptr))

pub check_leaf_node-requires : goal.check_leaf_node-requires
check_leaf_node-requires c = (search rules, search rules, held _ _ _ _ _ (here (goal.at.check_leaf_node-requires c).In_ok-check_subtree_ptr))

pub returns-in_err-leaf-in-0 : goal.returns-in_err-leaf-in-0
returns-in_err-leaf-in-0 c =
    let p = err_from_is_err_and c.from_residual-in_err-leaf-in-0.result c.from_residual-in_err-leaf-in-0.ensures.1 in
    let s = goal.at.returns-in_err-leaf-in-0 c in
    rw (p.1, p.2) (c.in_err-leaf-in-0.ensures ∙ node-leaf _ _ _ _ _ _ _ (leads s.In-Some) (here s.In_ok-check_subtree_ptr) (omega arith))

pub returns-in_ok-leaf-in-0 : goal.returns-in_ok-leaf-in-0
returns-in_ok-leaf-in-0 c =
    let s = goal.at.returns-in_ok-leaf-in-0 c in
    c.in_ok-leaf-in-0.ensures ∙ node-leaf _ _ _ _ _ _ _ (leads s.In-Some) (here s.In_ok-check_subtree_ptr) (omega arith)

pub returns-in-1 : goal.returns-in-1
returns-in-1 c =
    let s = goal.at.returns-in-1 c in let placed = here s.In_ok-check_subtree_ptr in
    (held _ _ _ _ _ placed, node-inner _ _ _ _ _ _ _ (leads s.In-Some) placed (omega arith))

pub returns-in_default-archive : goal.returns-in_default-archive
returns-in_default-archive c =
    let s = goal.at.returns-in_default-archive c in
    node-other _ _ _ _ _ _ _ (leads s.In-Some) (here s.In_ok-check_subtree_ptr) (omega arith) (omega arith)
