use Rattle.format.specs.Written.{out, fill}
use Rattle.format.specs.Layout.{layout_of}
use Rattle.format.specs.Entries.{slots}
use lib.ListN.{length}
use Prim.Native.Nat.{◌-◌}
use mathlib.Core.Path.{◌≡◌}
use Rattle.walks.proofs.map.visit_leaf.Given as goal

abbrev pub invariant-loop-i : goal.invariant-loop-i
invariant-loop-i l =
    let left = slots (layout_of l.layout) l.archive l.pos.0 in
    (length l.keys ≡ length l.initial.keys) × (length l.values ≡ length l.initial.values)
    × (fill (left (l.n - l.i) l.i) (out l.keys l.values l.at) ≡ fill (left (l.n - 0) 0) (out l.initial.keys l.initial.values l.initial.at))
