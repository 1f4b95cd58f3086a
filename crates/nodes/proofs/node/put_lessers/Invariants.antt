use mathlib.Core.Path.{◌≡◌}
use Prim.Native.Nat.{◌+◌, ◌-◌, ◌*◌}
use lib.ListN.{length, drop}
use Rattle.format.specs.Layout.{layout_of, pointer}
use Rattle.format.specs.Bytes.{put}
use Rattle.format.specs.Tree.{lesser_bytes}
use Rattle.nodes.specs.Nodes.{lessers}
use Rattle.nodes.proofs.node.put_lessers.Given as goal

abbrev pub invariant-loop-slot : goal.invariant-loop-slot
invariant-loop-slot l =
    let L = layout_of l.layout in
    let e = length l.slots in
    (l.field ≡ l.at + pointer L * l.slot-index)
    × (put l.out l.field (lesser_bytes L l.field (e - l.slot-index) (lessers (drop l.slot-index l.slots)))
    ≡ put l.initial.out l.at (lesser_bytes L l.at e (lessers l.slots)))
