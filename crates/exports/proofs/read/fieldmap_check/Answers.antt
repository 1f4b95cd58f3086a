-- `exports::read::fieldmap_check` meets its contract. Assumes nothing.
use mathlib.Core.Path.{◌∙◌, sym}
use native.Mathlib.Omega.{arith}
use Rattle.format.specs.Layout.{server}
use Rattle.format.proofs.Laws.Numbers.Limits.{within-server}
use Rattle.exports.proofs.Numbers.{count_most}
use Rattle.exports.proofs.read.fieldmap_check.Goals as goal

pub counted-requires : goal.counted-requires
unfolding server
counted-requires c = λ n e.
    omega (arith, count_most _ (within-server _) _ n (sym c.check.ensures ∙ e))
