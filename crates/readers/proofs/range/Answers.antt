-- `readers::range` meets its contract. Assumes nothing.
use Rattle.std.proofs.lemmas.Result.{err_from_is_err_and}
use mathlib.Core.Path.{sym}
use Rattle.format.proofs.Laws.Numbers.Limits.{within-server}
use Rattle.format.proofs.Laws.Calls.Accepted.{entries-few, node}
use Rattle.format.proofs.Laws.Calls.Certified.{certified-accepts, ascending-root, range-refuses, range-keys-refuses, range-values-refuses}
use Rattle.format.proofs.Laws.Calls.Certified.{range_none, range-keys-none, range-values-none, range_gives, range-keys-gives, range-values-gives}
use Rattle.readers.proofs.Told.{root-requires}
use Rattle.readers.proofs.range.Goals as goal

pub returns-then-count-eq0 : goal.returns-then-count-eq0
returns-then-count-eq0 c =
    let certified = sym c.in_ok-count.ensures in record {
      answer = sym (range_none _ _ _ _ certified _ _ _ _ (search));
      keys = sym (range-keys-none _ _ _ _ certified _ _ _ _ (search));
      values = sym (range-values-none _ _ _ _ certified _ _ _ _ (search));
    }

pub root_of-root-requires : goal.root_of-root-requires
root_of-root-requires c =
    root-requires _ _ _ _ (certified-accepts _ _ _ _ (sym c.in_ok-count.ensures)) (search)

pub range_with-requires : goal.range_with-requires
range_with-requires c =
    let certified = sym c.in_ok-count.ensures in
    let accepted = certified-accepts _ _ _ _ certified in record {
      entries_bound = entries-few _ _ _ _ accepted;
      node = node _ _ _ _ accepted (search) _ c.root_of-root.ensures (within-server _);
      ascending = ascending-root _ _ _ _ certified (search) _ c.root_of-root.ensures (within-server _);
    }

pub returns-in_err-count : goal.returns-in_err-count
returns-in_err-count c =
    let p = err_from_is_err_and c.from_residual.result c.from_residual.ensures.1 in
    let refused = sym c.in_err-count.ensures in record {
      answer = rw (p.1, p.2) (sym (range-refuses _ _ _ _ refused _ _ _ _));
      keys = sym (range-keys-refuses _ _ _ _ refused _ _ _ _);
      values = sym (range-values-refuses _ _ _ _ refused _ _ _ _);
    }

pub returns : goal.returns
returns c =
    let certified = sym c.in_ok-count.ensures in
    let leads = c.root_of-root.ensures in
    let written = c.range_with.ensures.written_after in
    let matching = c.range_with.ensures.matching_value in record {
      answer = sym (range_gives _ _ _ _ certified _ _ _ _ (search) _ leads (within-server _) _ matching _ _ _ written);
      keys = sym (range-keys-gives _ _ _ _ certified _ _ _ _ (search) _ leads (within-server _) _ matching _ _ _ written);
      values = sym (range-values-gives _ _ _ _ certified _ _ _ _ (search) _ leads (within-server _) _ matching _ _ _ written);
    }
