-- `exports::read::fieldmap_walk` meets its contract. Assumes nothing.
use mathlib.Core.Path.{◌∙◌, sym, ap}
use native.Mathlib.Omega.{arith}
use Rattle.format.specs.Layout.{server}
use Rattle.format.proofs.Laws.Numbers.Limits.{within-server}
use Rattle.exports.proofs.Numbers.{walk-most}
use Rattle.format.specs.Refusal.{answer_of}
use Rattle.exports.proofs.read.fieldmap_walk.Goals as goal

pub given-requires : goal.given-requires
unfolding server
given-requires c =
    let e = sym c.walk.ensures.answer ∙ ap answer_of c.in-Ok.is in
    omega (arith, walk-most _ (within-server _) _ _ _ _ e)
