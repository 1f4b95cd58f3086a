-- No two keys are left to compare.
use Rattle.std.proofs.Common.{arith}
use Rattle.builder.proofs.Ascends.{last}
use Rattle.builder.proofs.build.ascending.Goals as goal

pub returns : goal.returns
returns c = last c.args.keys.now c.loop-i.i (omega arith) c.loop-i.invariant.1
