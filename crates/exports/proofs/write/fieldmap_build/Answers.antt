-- `exports::write::fieldmap_build` meets its contract. Assumes nothing.
use mathlib.Core.Path.{◌∙◌, sym}
use native.Mathlib.Omega.{arith}
use Rattle.format.specs.Layout.{server}
use Rattle.format.proofs.Laws.Build.Lengths.{build-most}
use Rattle.exports.proofs.write.fieldmap_build.Goals as goal

pub counted-requires : goal.counted-requires
unfolding server
counted-requires c = λ n e. omega (arith, build-most _ _ _ _ _ n (sym c.build.ensures.answer ∙ e))
