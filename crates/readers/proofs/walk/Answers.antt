-- `readers::walk` meets its contract. Assumes nothing.
use Rattle.std.proofs.lemmas.Result.{err_from_is_err_and}
use mathlib.Core.Path.{sym}
use Rattle.format.proofs.Laws.Numbers.Limits.{within-server}
use Rattle.format.proofs.Laws.Calls.Accepted.{entries-few, node, walk-refuses, walk-keys-refuses, walk-values-refuses}
use Rattle.format.proofs.Laws.Calls.Accepted.{walk_none, walk-keys-none, walk-values-none, walk-gives, walk-keys-gives, walk-values-gives}
use Rattle.readers.proofs.Told.{root-requires}
use Rattle.readers.proofs.walk.Goals as goal

pub returns-then-count-eq0 : goal.returns-then-count-eq0
returns-then-count-eq0 c =
    let accepted = sym c.in_ok-count.ensures in record {
      answer = sym (walk_none _ _ _ _ accepted (search) _ _);
      keys = sym (walk-keys-none _ _ _ _ accepted (search) _ _);
      values = sym (walk-values-none _ _ _ _ accepted (search) _ _);
    }

pub root_of-root-requires : goal.root_of-root-requires
root_of-root-requires c =
    root-requires _ _ _ _ (sym c.in_ok-count.ensures) (search)

pub visit-written-requires : goal.visit-written-requires
visit-written-requires c =
    let accepted = sym c.in_ok-count.ensures in
    (entries-few _ _ _ _ accepted, node _ _ _ _ accepted (search) _ c.root_of-root.ensures (within-server _))

pub returns-in_err-count : goal.returns-in_err-count
returns-in_err-count c =
    let p = err_from_is_err_and c.from_residual.result c.from_residual.ensures.1 in
    let refused = sym c.in_err-count.ensures in record {
      answer = rw (p.1, p.2) (sym (walk-refuses _ _ _ _ refused _ _));
      keys = sym (walk-keys-refuses _ _ _ _ refused _ _);
      values = sym (walk-values-refuses _ _ _ _ refused _ _);
    }

pub returns : goal.returns
returns c =
    let accepted = sym c.in_ok-count.ensures in
    let leads = c.root_of-root.ensures in
    let written = c.visit-written.ensures in record {
      answer = sym (walk-gives _ _ _ _ accepted (search) _ leads (within-server _) _ _ _ _ _ written);
      keys = sym (walk-keys-gives _ _ _ _ accepted (search) _ leads (within-server _) _ _ _ _ _ written);
      values = sym (walk-values-gives _ _ _ _ accepted (search) _ leads (within-server _) _ _ _ _ _ written);
    }
