-- `walks::map::visit` meets its contract.
use Rattle.std.proofs.Common.{rules}
use Rattle.format.proofs.Laws.Read.Node.{as-leaf}
use Rattle.btree.proofs.Runs.{leaf-run}
use Rattle.walks.proofs.Fills.{walk-done}
use Rattle.walks.proofs.map.visit.Goals as goal

pub visit_leaf-requires : goal.visit_leaf-requires
visit_leaf-requires c = (search rules, search as-leaf)

pub returns-then-archive-p-eq0 : goal.returns-then-archive-p-eq0
returns-then-archive-p-eq0 c = search (walk-done, leaf-run)

pub returns : goal.returns
returns c = search walk-done
