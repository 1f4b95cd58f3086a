-- `codes::counted` meets its contract. Assumes nothing.
use mathlib.Core.Path.{ap}
use Rattle.format.specs.Refusal.{answer_of}
use Rattle.codes.proofs.counted.Goals as goal

pub given-requires : goal.given-requires
given-requires c =
    c.requires _ (ap answer_of c.in-Ok.is)
