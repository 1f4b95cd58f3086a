-- `certification::note_leaf` meets its contract. Assumes nothing.
use Rattle.std.proofs.Common.{arith, rules, refl}
use Rattle.format.specs.Layout.{server}
use Rattle.format.proofs.Laws.Read.Node.{as-leaf}
use Rattle.btree.proofs.Runs.{leaf-step, leaf-done, leaf-run}
use Rattle.certification.proofs.Surveys.{leaf-empty, leaf-filled}
use Rattle.certification.proofs.note_leaf.Goals as goal

pub note_slot-order-requires : goal.note_slot-order-requires
note_slot-order-requires c =
    let leaf = as-leaf _ _ _ c.requires.1 c.requires.2 in
    (omega arith, omega arith)

pub leaf_len-n-requires : goal.leaf_len-n-requires
leaf_len-n-requires c = (search rules, search as-leaf)

pub loop-i-preserved : goal.loop-i-preserved
loop-i-preserved c = search leaf-step

pub returns-then-n-eq0 : goal.returns-then-n-eq0
returns-then-n-eq0 c =
    let pre = c.requires in
    (leaf-run _ _ _ server _ _ _ pre.1 pre.2 (leaf-done _ _ _ _ _ 0 _ _ _ (omega arith) c.leaf_len-n.ensures refl), search leaf-empty)

pub returns : goal.returns
returns c = (search (leaf-run, leaf-done), search leaf-filled)
