-- `exports::write::fieldmap_build_length` meets its contract. Assumes nothing.
use mathlib.Core.Path.{◌∙◌, sym}
use native.Mathlib.Omega.{arith}
use Rattle.format.specs.Layout.{server}
use Rattle.format.proofs.Laws.Build.Lengths.{length_most}
use Rattle.exports.proofs.write.fieldmap_build_length.Goals as goal

pub counted-requires : goal.counted-requires
unfolding server
counted-requires c = λ n e. omega (arith, length_most _ _ _ n (sym c.build_length.ensures ∙ e))
