use Prim.Native.Nat.{◌+◌, ◌≤◌}
use mathlib.Core.Path.{◌≡◌}
use mathlib.Core.List.{[]}
use mathlib.Core.Bool.{false, ◌||◌}
use lib.ListN.{length}
use Rattle.format.specs.Layout.{layout_of, leaf_size, server, nested}
use Rattle.format.specs.Entries.{list_children, list_at}
use Rattle.format.specs.Certify.{any_children, hollow_at}
use Rattle.format.specs.Written.{runs}
use Rattle.certification.specs.Survey.{step}
use Rattle.btree.proofs.Runs.{left}
use Rattle.certification.proofs.+certify_inner.Given as goal

abbrev pub invariant-loop-i : goal.invariant-loop-i
invariant-loop-i l =
    let L = layout_of l.layout in
    let list = left [] (list_children L l.archive (list_at L l.archive (nested server)) l.pos.0) l.layout.entries in
    let any = left false (any_children L l.archive (hollow_at L l.archive (nested server)) l.pos.0) l.layout.entries in
    (l.pos.0 + leaf_size L ≤ length l.archive) × (runs step (list l.i) l.order ≡ runs step (list l.initial.i) l.initial.order)
    × ((l.hollow || any l.i) ≡ (l.initial.hollow || any l.initial.i))

abbrev pub decreases-certify_inner : goal.decreases-certify_inner
decreases-certify_inner l = l.pos.0
