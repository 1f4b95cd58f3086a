use Prim.Native.Nat.{◌-◌}
use mathlib.Core.Path.{◌≡◌}
use Rattle.lookups.specs.Seek.{seek_at}
use Rattle.lookups.proofs.map.seek_slot.Given as goal

abbrev pub invariant-loop-i : goal.invariant-loop-i
invariant-loop-i l = seek_at l.archive l.p l.key (l.n - l.i) l.i ≡ seek_at l.archive l.p l.key l.n 0
