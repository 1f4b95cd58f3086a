-- `walks::map::visit_leaf` meets its contract. Assumes nothing.
use Rattle.btree.proofs.Runs.{leaf-step, leaf-done}
use borrow.Author.Rules.{rules}
use Rattle.walks.proofs.map.visit_leaf.Goals as goal

pub loop-i-preserved : goal.loop-i-preserved
loop-i-preserved c = (search rules, search rules, search leaf-step)

pub returns : goal.returns
returns c = search leaf-done
