-- `listing::title_of` meets its contract. Assumes nothing.
use Rattle.std.proofs.Common.{sym, ap, ◌∙◌}
use Rattle.format.specs.Layout.{server, counts_as}
use Rattle.format.specs.Refusal.{answer_of}
use Rattle.listing.specs.declared.Title.TheVariants.{Refused}
use Rattle.listing.proofs.Texts.{title-certified, title-open, title-refused}
use Rattle.listing.proofs.title_of.Goals as goal

pub returns-in-Ok : goal.returns-in-Ok
unfolding server counts_as
returns-in-Ok c = sym (title-certified _ _ (sym c.in-Ok.ensures))

pub returns-in-Ok-check : goal.returns-in-Ok-check
unfolding server counts_as
returns-in-Ok-check c = sym (title-open _ _ _ (sym c.certify.ensures ∙ ap answer_of c.in_default.is) (sym c.in-Ok-check.ensures))

pub returns-in-Err : goal.returns-in-Err
unfolding server counts_as
returns-in-Err c = ap Refused c.refusal_number.ensures ∙ sym (title-refused _ _ (sym c.in-Err.ensures))
