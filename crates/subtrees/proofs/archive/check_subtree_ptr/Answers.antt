-- The four answers of `placed`, by the tests of the code.
use Rattle.std.proofs.Common.{sym, arith}
use Rattle.subtrees.proofs.Places.{placed-low, placed-high, placed-odd, placed-in}
use Rattle.subtrees.proofs.archive.check_subtree_ptr.Goals as goal
use Rattle.subtrees.proofs.archive.check_subtree_ptr.Goals.{then-from-start-via-then-from-start, then-from-start-via-else-from-start+then-end-from}
use Rattle.subtrees.proofs.archive.check_subtree_ptr.Goals.{then-from-start-via-else-from-start+else-end-from+then-end-from-2}

pub returns-then-from-start : goal.returns-then-from-start
returns-then-from-start c =
    elim c.then-from-start.branch [
      | then-from-start-via-then-from-start w ↦ sym (placed-low _ _ _ _ _ (omega arith))
      | then-from-start-via-else-from-start+then-end-from w ↦ sym (placed-high _ _ _ _ _ (omega arith) (omega arith))
      | then-from-start-via-else-from-start+else-end-from+then-end-from-2 w ↦ sym (placed-high _ _ _ _ _ (omega arith) (omega arith))
    ]

pub returns-then-from-align-ne0 : goal.returns-then-from-align-ne0
returns-then-from-align-ne0 c = sym (placed-odd _ _ _ _ _ (omega arith) (omega arith) c.if-from-align-ne0.true)

pub returns : goal.returns
returns c = sym (placed-in _ _ _ _ _ (omega arith) (omega arith) c.if-from-align-ne0.false)
