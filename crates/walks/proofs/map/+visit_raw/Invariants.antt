use mathlib.Core.Path.{◌≡◌}
use mathlib.Core.List.{[]}
use lib.ListN.{length}
use Rattle.format.specs.Layout.{layout_of, server, nested}
use Rattle.format.specs.Entries.{list_children, list_at}
use Rattle.format.specs.Written.{out, fill}
use Rattle.btree.proofs.Runs.{left}
use Rattle.walks.proofs.map.+visit_raw.Given as goal

abbrev pub invariant-loop-i : goal.invariant-loop-i
invariant-loop-i l =
    let L = layout_of l.layout in
    let rest = left [] (list_children L l.archive (list_at L l.archive (nested server)) l.pos.0) l.layout.entries in
    (length l.keys ≡ length l.initial.keys) × (length l.values ≡ length l.initial.values)
    × (fill (rest l.i) (out l.keys l.values l.at) ≡ fill (rest l.initial.i) (out l.initial.keys l.initial.values l.initial.at))

abbrev pub decreases-visit_raw : goal.decreases-visit_raw
decreases-visit_raw l = l.pos.0
