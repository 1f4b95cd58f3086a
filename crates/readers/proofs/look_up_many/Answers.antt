-- `readers::look_up_many` meets its contract. Assumes nothing.
use Rattle.std.proofs.lemmas.Result.{err_from_is_err_and}
use mathlib.Core.Path.{sym}
use Rattle.format.proofs.Laws.Numbers.Limits.{within-server}
use Rattle.format.proofs.Laws.Calls.Accepted.{entries-few, node}
use Rattle.lookups.proofs.ManyLookups.{many-refuses, many-values-refuses, many-none, many-values-none, many-gives, many-values-gives}
use Rattle.readers.proofs.Told.{root-requires}
use Rattle.readers.proofs.look_up_many.Goals as goal

pub returns-then-branch-eq0 : goal.returns-then-branch-eq0
returns-then-branch-eq0 c =
    let accepted = sym c.in_ok-check.ensures in
    record { answer = sym (many-none _ _ _ _ accepted _ _ (search)); values = sym (many-values-none _ _ _ _ accepted _ _ (search)) }

pub root_of-root-requires : goal.root_of-root-requires
root_of-root-requires c =
    root-requires _ _ _ _ (sym c.in_ok-check.ensures) (search)

pub look_up_all-requires : goal.look_up_all-requires
look_up_all-requires c =
    let accepted = sym c.in_ok-check.ensures in
    (entries-few _ _ _ _ accepted, node _ _ _ _ accepted (search) _ c.root_of-root.ensures (within-server _))

pub returns-in_err-check : goal.returns-in_err-check
returns-in_err-check c =
    let p = err_from_is_err_and c.from_residual.result c.from_residual.ensures.1 in
    let refused = sym c.in_err-check.ensures in
    record { answer = rw (p.1, p.2) (sym (many-refuses _ _ _ _ refused _ _)); values = sym (many-values-refuses _ _ _ _ refused _ _) }

pub returns : goal.returns
returns c =
    let accepted = sym c.in_ok-check.ensures in
    let leads = c.root_of-root.ensures in
    let looked = c.look_up_all.ensures in record {
      answer = sym (many-gives _ _ _ _ accepted _ _ (search) _ leads (within-server _) _ _ looked);
      values = sym (many-values-gives _ _ _ _ accepted _ _ (search) _ leads (within-server _) _ _ looked);
    }
