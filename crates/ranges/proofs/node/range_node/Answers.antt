-- `ranges::node::range_node` meets its contract.
use Rattle.format.specs.Layout.{server}
use Rattle.format.proofs.Laws.Read.Node.{as-leaf}
use Rattle.btree.proofs.Runs.{leaf-run}
use Rattle.ranges.proofs.Ranges.{leaf-fits, node-fits}
use Rattle.ranges.proofs.node.range_node.Goals as goal

pub range_leaf-requires : goal.range_leaf-requires
range_leaf-requires c =
    let pre = c.requires in
    let fits = leaf-fits _ _ server _ _ _ _ _ pre.node c.if-archive-p-eq0.true (pre.ascending, node-fits _ _ _ _ pre.entries_bound pre.node) in
    record {
      entries_bound = pre.entries_bound;
      leaf_node = as-leaf _ server _ pre.node c.if-archive-p-eq0.true;
      ascending = fits.0;
      pos_bound = fits.1;
    }

pub range_inner-requires-clause-pos_bound : goal.range_inner-requires-clause-pos_bound
range_inner-requires-clause-pos_bound c = node-fits _ _ _ _ c.requires.entries_bound c.requires.node

pub returns-then-archive-p-eq0 : goal.returns-then-archive-p-eq0
returns-then-archive-p-eq0 c = search leaf-run
