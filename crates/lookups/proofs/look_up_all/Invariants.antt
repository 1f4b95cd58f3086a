use mathlib.Core.Path.{◌≡◌}
use lib.ListN.{length}
use Rattle.format.specs.Layout.{layout_of, server, nested}
use Rattle.format.specs.Lookup.{lookup_at}
use Rattle.lookups.specs.Many.{many, first_many}
use Rattle.lookups.proofs.look_up_all.Given as goal

abbrev pub invariant-loop-i : goal.invariant-loop-i
invariant-loop-i l =
    (length l.values ≡ length l.initial.values)
    × (many l.values l.found ≡ first_many (λ k. lookup_at (layout_of l.layout) l.archive k (nested server) l.root.0) l.keys l.initial.values l.i)
