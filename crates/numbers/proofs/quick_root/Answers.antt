-- The root is an inner node in its place, and what is passed below it is the record's root.
use Rattle.std.proofs.Common.{refl, arith}
use Rattle.std.proofs.lemmas.Option.{IfSome_then}
use Rattle.quick.proofs.Passing.{root-passes}
use Rattle.numbers.proofs.quick_root.Goals as goal

pub returns : goal.returns
returns c =
    let root = c.in_ok-p.ensures in
    IfSome_then c.node_at.result c.node_at.ensures
    (λ n below. root-passes _ _ _ _ root.to root.aligned root.inner refl root.room (omega arith) below)
