use mathlib.Core.Path.{◌≡◌}
use lib.ListN.{length}
use Rattle.nodes.specs.Nodes.{picked}
use Rattle.nodes.proofs.Runs.{rest}
use Rattle.nodes.proofs.node.put_slots.Given as goal

abbrev pub invariant-loop-j : goal.invariant-loop-j
invariant-loop-j l =
    let e = length l.slots in
    rest l.at e e (picked l.keys l.slots) (picked l.values l.slots) l.out l.j
    ≡ rest l.at e e (picked l.keys l.slots) (picked l.values l.slots) l.initial.out 0
