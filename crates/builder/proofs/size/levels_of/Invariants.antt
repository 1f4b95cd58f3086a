-- What is known with so many levels found, and that there are more entries at each turn.
use Rattle.std.proofs.Common.{◌-◌}
use Rattle.format.specs.Layout.{layout_of}
use Rattle.builder.proofs.Levels.{Climbing}
use Rattle.builder.proofs.size.levels_of.Given as goal

abbrev pub invariant-loop-power : goal.invariant-loop-power
invariant-loop-power l =
    Climbing (layout_of l.layout) l.n (record { above = l.above; power = l.power; over = l.over; higher = l.higher })

abbrev pub decreases-loop-power : goal.decreases-loop-power
decreases-loop-power l = l.n - l.power
