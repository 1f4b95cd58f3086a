-- `readers::lookup` meets its contract. Assumes nothing.
use Rattle.std.proofs.lemmas.Result.{err_from_is_err_and}
use mathlib.Core.Path.{sym}
use Rattle.format.proofs.Laws.Numbers.Limits.{within-server}
use Rattle.format.proofs.Laws.Calls.Accepted.{entries-few, node, lookup-refuses, lookup-none, lookup-gives}
use Rattle.readers.proofs.Told.{root-requires}
use Rattle.readers.proofs.lookup.Goals as goal

pub returns-in-0 : goal.returns-in-0
returns-in-0 c = sym (lookup-none _ _ _ _ (sym c.in_ok-check.ensures) (search) _)

pub root_of-root-requires : goal.root_of-root-requires
root_of-root-requires c =
    root-requires _ _ _ _ (sym c.in_ok-check.ensures) (search)

pub get_key_value_raw-requires : goal.get_key_value_raw-requires
get_key_value_raw-requires c =
    let accepted = sym c.in_ok-check.ensures in
    (entries-few _ _ _ _ accepted, node _ _ _ _ accepted (search) _ c.root_of-root.ensures (within-server _))

pub returns-in_err-check : goal.returns-in_err-check
returns-in_err-check c =
    let p = err_from_is_err_and c.from_residual.result c.from_residual.ensures.1 in
    rw (p.1, p.2) (sym (lookup-refuses _ _ _ _ (sym c.in_err-check.ensures) _))

pub returns-in_default : goal.returns-in_default
returns-in_default c =
    sym (lookup-gives _ _ _ _ (sym c.in_ok-check.ensures) (search) _ c.root_of-root.ensures (within-server _) _ _ c.get_key_value_raw.ensures)
