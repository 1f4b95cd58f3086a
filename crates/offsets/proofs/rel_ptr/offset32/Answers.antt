-- `offsets::rel_ptr::offset32` refuses by 15 before 16.
use Rattle.std.proofs.Common.{sym, ap, ◌∙◌, rules}
use Rattle.std.proofs.lemmas.Result.{err_from_is_err_and}
use mir.Syntax.{w64}
use mir.Facts.{to_z-of_z}
use mir.Val.{SFits}
use Rattle.format.specs.RelPtr.{fit_signed}
use Rattle.format.proofs.Laws.Numbers.RelPtr.{stored-given, stored_refused}
use Rattle.offsets.proofs.rel_ptr.offset32.Goals as goal

pub returns-in_err-signed_offset : goal.returns-in_err-signed_offset
returns-in_err-signed_offset c =
    let p = err_from_is_err_and c.from_residual.result c.from_residual.ensures.1 in
    rw (p.1, p.2) (sym (stored_refused 31 _ _ _ (sym c.in_err-signed_offset.ensures)))

pub returns : goal.returns
returns c =
    let fits : SFits w64 c.in_ok-signed_offset.field-0 = search rules in
    c.from_isize.ensures ∙ ap (fit_signed 31 16) (to_z-of_z fits) ∙ sym (stored-given 31 _ _ _ (sym c.in_ok-signed_offset.ensures))
