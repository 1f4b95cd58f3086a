-- The place's answer, and then the test of the depth.
use Rattle.std.proofs.Common.{sym, arith}
use Rattle.std.proofs.lemmas.Result.{err_from_is_err_and}
use Rattle.subtrees.proofs.Places.{opened-refused, opened-deep, opened_in}
use Rattle.subtrees.proofs.archive.in_subtree.Goals as goal

pub returns-in_err-check_subtree_ptr : goal.returns-in_err-check_subtree_ptr
returns-in_err-check_subtree_ptr c =
    let p = err_from_is_err_and c.from_residual.result c.from_residual.ensures.1 in
    rw (p.1, p.2) (sym (opened-refused _ _ _ _ _ _ _ (sym c.in_err-check_subtree_ptr.ensures)))

pub returns-then-depth-le1 : goal.returns-then-depth-le1
returns-then-depth-le1 c = sym (opened-deep _ _ _ _ _ _ (sym c.in_ok-check_subtree_ptr.ensures) (omega arith))

pub returns : goal.returns
returns c = sym (opened_in _ _ _ _ _ _ (sym c.in_ok-check_subtree_ptr.ensures) (omega arith))
