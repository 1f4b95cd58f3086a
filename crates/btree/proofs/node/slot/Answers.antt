-- `btree::node::slot` meets its contract. Assumes nothing.
use Rattle.format.specs.Node.{slot}
use Rattle.btree.proofs.node.slot.Goals as goal

pub returns : goal.returns
unfolding slot
returns c = cc
