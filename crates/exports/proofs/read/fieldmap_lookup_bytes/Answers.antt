-- `exports::read::fieldmap_lookup_bytes` meets its contract. Assumes nothing.
use mathlib.Core.Path.{◌∙◌, sym, ap}
use Rattle.format.specs.Refusal.{gives, answer_of}
use Rattle.codes.proofs.Coded.{returned, no_bytes}
use Rattle.codes.proofs.Coded.{found_part, nothing-part, refused-part}
use Rattle.exports.proofs.read.fieldmap_lookup_bytes.Goals as goal

pub returns-in-Err-clause-part : goal.returns-in-Err-clause-part
returns-in-Err-clause-part c =
    let e = sym c.lookup.ensures ∙ ap answer_of c.in-Err.is in
    rw (sym c.layout.ensures) (no_bytes c.in-Err.fault _ (returned c.refused.type_inv c.refused.ensures) ∙ sym (refused-part _ _ _ _ e))

pub returns-in-Ok-None-clause-part : goal.returns-in-Ok-None-clause-part
returns-in-Ok-None-clause-part c =
    let e = sym c.in-Ok-None.ensures ∙ ap gives c.in-Ok-None.field-0-is in rw (sym c.layout.ensures) (sym (nothing-part _ _ _ _ e))

pub returns-in-Ok-Some-clause-part : goal.returns-in-Ok-Some-clause-part
returns-in-Ok-Some-clause-part c =
    let e = sym c.in-Ok-Some.ensures ∙ ap gives c.in-Ok-Some.field-0-is in rw (sym c.layout.ensures) (sym (found_part _ _ _ _ e))
