-- `exports::range::fieldmap_range` meets its contract. Assumes nothing.
use mathlib.Core.Path.{◌∙◌, sym, ap}
use native.Mathlib.Omega.{arith}
use Rattle.format.specs.Layout.{server}
use Rattle.format.proofs.Laws.Numbers.Limits.{within-server}
use Rattle.exports.proofs.Numbers.{range-most}
use Rattle.format.specs.Refusal.{answer_of}
use Rattle.exports.proofs.range.fieldmap_range.Goals as goal

pub given-requires : goal.given-requires
unfolding server
given-requires c =
    let e = sym c.range.ensures.answer ∙ ap answer_of c.in-Ok.is in
    omega (arith, range-most _ (within-server _) _ _ _ _ _ _ e)
