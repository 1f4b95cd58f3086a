use Prim.Native.Nat.{◌-◌, ◌≤◌}
use mathlib.Core.Path.{◌≡◌}
use lib.ListN.{length}
use Rattle.format.specs.Layout.{layout_of}
use Rattle.format.specs.Entries.{slots}
use Rattle.format.specs.Certify.{Ascending}
use Rattle.format.specs.Written.{out}
use Rattle.ranges.specs.Taken.{ranged}
use Rattle.ranges.proofs.node.range_leaf.Given as goal

abbrev pub invariant-loop-i : goal.invariant-loop-i
invariant-loop-i l =
    let left = slots (layout_of l.layout) l.archive l.pos.0 in
    (l.i ≤ l.n) × (length l.keys ≡ length l.initial.keys) × (length l.values ≡ length l.initial.values) × Ascending (left (l.n - l.i) l.i)
    × (ranged l.least l.greatest (left (l.n - l.i) l.i) (out l.keys l.values l.at)
    ≡ ranged l.least l.greatest (left (l.n - l.initial.i) l.initial.i) (out l.initial.keys l.initial.values l.initial.at))

abbrev pub decreases-loop-i : goal.decreases-loop-i
decreases-loop-i l = l.n - l.i
