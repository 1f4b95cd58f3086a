-- One level more at each turn.
use Rattle.std.proofs.Common.{arith}
use Rattle.builder.proofs.Levels.{climbing-small, climbing-more, climbing-end}
use Rattle.builder.proofs.size.levels_of.Goals as goal

pub overflow_add-higher : goal.overflow_add-higher
overflow_add-higher c = let (N, some) = c.requires in omega (arith, (climbing-small _ _ N c.loop-power.invariant).1, N.few)

pub loop-power-preserved : goal.loop-power-preserved
loop-power-preserved c = let (N, some) = c.requires in climbing-more _ _ N c.loop-power.invariant c.loop-power-test.true

pub returns : goal.returns
returns c = let (N, some) = c.requires in climbing-end _ _ N c.loop-power.invariant c.loop-power-test.false
