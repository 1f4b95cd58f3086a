-- `exports::range::fieldmap_column` meets its contract. Assumes nothing.
use mathlib.Core.Path.{◌∙◌, sym, ap}
use native.Mathlib.Omega.{arith}
use Rattle.format.specs.Layout.{server}
use Rattle.format.proofs.Laws.Numbers.Limits.{within-server}
use Rattle.exports.proofs.Numbers.{column-most}
use Rattle.format.specs.Refusal.{answer_of}
use Rattle.exports.proofs.range.fieldmap_column.Goals as goal

pub given-requires : goal.given-requires
unfolding server
given-requires c =
    let e = sym c.column.ensures.answer ∙ ap answer_of c.in-Ok.is in
    omega (arith, column-most _ (within-server _) _ _ _ _ _ _ _ _ _ e)
