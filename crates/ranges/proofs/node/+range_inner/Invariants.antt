use Prim.Native.Nat.{◌+◌, ◌≤◌}
use mathlib.Core.Path.{◌≡◌}
use lib.ListN.{length}
use Rattle.format.specs.Layout.{layout_of, server, nested}
use Rattle.format.specs.Entries.{list_at}
use Rattle.format.specs.Certify.{Ascending}
use Rattle.format.specs.Written.{out}
use Rattle.ranges.specs.Taken.{ranged}
use Rattle.ranges.proofs.Ranges.{rest}
use Rattle.ranges.proofs.node.+range_inner.Given as goal

abbrev pub invariant-loop-i : goal.invariant-loop-i
invariant-loop-i l =
    let L = layout_of l.layout in
    let left = rest L l.archive server l.pos.0 in
    (l.i ≤ l.layout.entries + 1) × (length l.keys ≡ length l.initial.keys) × (length l.values ≡ length l.initial.values) × Ascending (left l.i)
    × (ranged l.least l.greatest (left l.i) (out l.keys l.values l.at)
    ≡ ranged l.least l.greatest (list_at L l.archive (nested server) l.pos.0) (out l.initial.keys l.initial.values l.initial.at))

abbrev pub decreases-range_inner : goal.decreases-range_inner
decreases-range_inner l = l.pos.0
