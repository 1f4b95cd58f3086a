-- `readers::certify_checked` meets its contract. Assumes nothing.
use Rattle.std.proofs.lemmas.Result.{err_from_is_err_and}
use mathlib.Core.Path.{sym}
use Rattle.format.proofs.Laws.Numbers.Limits.{within-server}
use Rattle.format.proofs.Laws.Calls.Accepted.{entries-few, node, certify-refuses, certify-none, certify-8, certify-9, certify-all}
use Rattle.readers.proofs.Told.{root-requires}
use Rattle.readers.proofs.certify_checked.Goals as goal

pub returns-then-count-eq0 : goal.returns-then-count-eq0
returns-then-count-eq0 c = sym (certify-none _ _ _ _ (sym c.in_ok-count.ensures) (search))

pub root_of-requires : goal.root_of-requires
root_of-requires c =
    root-requires _ _ _ _ (sym c.in_ok-count.ensures) (search)

pub certify-found-requires : goal.certify-found-requires
certify-found-requires c =
    let accepted = sym c.in_ok-count.ensures in
    (entries-few _ _ _ _ accepted, node _ _ _ _ accepted (search) _ c.root_of.ensures (within-server _))

pub returns-then-found : goal.returns-then-found
returns-then-found c =
    sym (certify-8 _ _ _ _ (sym c.in_ok-count.ensures) (search) _ c.root_of.ensures
    (within-server _) _ c.certify-found.ensures.0 (search))

pub returns-then-found-2 : goal.returns-then-found-2
returns-then-found-2 c =
    let (hollow, ascends) = c.certify-found.ensures in
    sym (certify-all _ _ _ _ (sym c.in_ok-count.ensures) (search) _ c.root_of.ensures
    (within-server _) _ _ hollow ascends (search) (search))

pub returns-in_err-count : goal.returns-in_err-count
returns-in_err-count c =
    let p = err_from_is_err_and c.from_residual.result c.from_residual.ensures.1 in
    rw (p.1, p.2) (sym (certify-refuses _ _ _ _ (sym c.in_err-count.ensures)))

pub returns : goal.returns
returns c =
    let (hollow, ascends) = c.certify-found.ensures in
    sym (certify-9 _ _ _ _ (sym c.in_ok-count.ensures) (search) _ c.root_of.ensures
    (within-server _) _ _ hollow ascends (search) (search))
