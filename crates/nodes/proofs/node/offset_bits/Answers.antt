-- `nodes::node::offset_bits` meets its contract. Assumes nothing.
use Rattle.format.specs.Layout.{layout_of}
use Rattle.nodes.proofs.Offsets.{offset-none, ahead-far, ahead-near, behind-far, behind-near}
use Rattle.nodes.proofs.node.offset_bits.Goals as goal

pub returns-in_default : goal.returns-in_default
returns-in_default c = rw c.in_default.is (offset-none (layout_of c.args.layout) _ c.requires)

pub returns-then-most-ahead : goal.returns-then-most-ahead
returns-then-most-ahead c = rw c.in-Some.is (search ahead-far)

pub returns-then-from-to : goal.returns-then-from-to
returns-then-from-to c = rw c.in-Some.is (search ahead-near)

pub returns-then-most-behind : goal.returns-then-most-behind
returns-then-most-behind c = rw c.in-Some.is (search behind-far)

pub returns : goal.returns
returns c = rw c.in-Some.is (search behind-near)
