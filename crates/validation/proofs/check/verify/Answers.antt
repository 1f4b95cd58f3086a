-- The answer is the definition's, by the record's count and by what the nodes give.
use Rattle.std.proofs.Common.{arith}
use Rattle.std.proofs.lemmas.Result.{err_from_is_err_and}
use Rattle.validation.proofs.Record.{root_none, root-refused, root-differs, root-agrees}
use Rattle.validation.proofs.check.verify.Goals as goal

pub returns-then-count-eq0 : goal.returns-then-count-eq0
returns-then-count-eq0 c =
    let count = rw c.pointer.ensures.0 at c.uint_at-count.ensures.0 in
    λ M depth. root_none _ M _ c.requires.3 count c.if-count-eq0.true

pub returns-in_err-entries : goal.returns-in_err-entries
returns-in_err-entries c =
    let count = rw c.pointer.ensures.0 at c.uint_at-count.ensures.0 in
    let p = err_from_is_err_and c.from_residual.result c.from_residual.ensures.1 in
    λ M depth. rw (p.1, p.2) (root-refused _ M _ c.requires.3 count c.if-count-eq0.false depth c.requires.4 c.requires.5 c.in_err-entries.ensures)

pub returns-then-entries-count : goal.returns-then-entries-count
returns-then-entries-count c =
    let count = rw c.pointer.ensures.0 at c.uint_at-count.ensures.0 in
    λ M depth.
    root-differs _ M _ c.requires.3 count c.if-count-eq0.false depth c.requires.4 c.requires.5 c.in_ok-entries.ensures c.if-entries-count.true

pub returns : goal.returns
returns c =
    let count = rw c.pointer.ensures.0 at c.uint_at-count.ensures.0 in
    λ M depth.
    root-agrees _ M _ c.requires.3 count c.if-count-eq0.false depth c.requires.4 c.requires.5 c.in_ok-entries.ensures (omega arith)
