use Prim.Native.Nat.{◌+◌, ◌≤◌}
use mathlib.Core.Path.{◌≡◌}
use lib.ListN.{length}
use Rattle.format.specs.Layout.{layout_of, leaf_size, server, nested}
use Rattle.format.specs.Lookup.{lookup_at}
use Rattle.format.specs.Readable.{Node}
use Rattle.lookups.proofs.map.search.Given as goal

abbrev pub invariant-loop-n : goal.invariant-loop-n
invariant-loop-n l =
    let L = layout_of l.layout in
    (l.current.0 + leaf_size L ≤ length l.archive) × Node L server l.archive l.current.0
    × (lookup_at L l.archive l.key (nested server) l.current.0 ≡ lookup_at L l.archive l.key (nested server) l.initial.current.0)

abbrev pub decreases-loop-n : goal.decreases-loop-n
decreases-loop-n l = l.current.0
