-- The first i keys ascend.
use Rattle.std.proofs.Common.{◌≡◌, ◌+◌, ◌≤◌}
use Rattle.ordered.specs.Order.{key_in, Rise}
use Rattle.ordered.proofs.last_key.Given as goal

abbrev pub invariant-loop-i : goal.invariant-loop-i
invariant-loop-i l = (l.i + 1 ≤ l.n) × (l.last ≡ key_in l.archive l.p l.i) × Rise l.archive l.p (l.i + 1) l.fn.before
