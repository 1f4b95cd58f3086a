-- `nodes::node::close_leaf` meets its contract. Assumes nothing.
use Rattle.nodes.proofs.Closed.{leaf-closed}
use Rattle.nodes.proofs.node.close_leaf.Goals as goal

pub returns : goal.returns
returns c = search leaf-closed
