-- The keys that meet the upper bound are those up to `greatest`, and those that meet the lower one are those from `least` on.
use Rattle.std.proofs.Common.{sym, arith}
use Rattle.format.proofs.Laws.Range.Ends.{ends-nothing, ends-keys}
use Rattle.ends.proofs.ends_of.Goals as goal

pub returns-in_err-greatest : goal.returns-in_err-greatest
returns-in_err-greatest c = rw c.from_residual.ensures (sym (ends-nothing _ _ (omega (arith, c.in_err-greatest.ensures))))

pub returns-in_err-least : goal.returns-in_err-least
returns-in_err-least c =
    rw c.from_residual-in_err-least.ensures (sym (ends-nothing _ _ (omega (arith, c.in_err-least.ensures, c.in_ok-greatest.ensures))))

pub returns-then-greatest-least : goal.returns-then-greatest-least
returns-then-greatest-least c = sym (ends-nothing _ _ (omega (arith, c.in_ok-least.ensures, c.in_ok-greatest.ensures)))

pub returns : goal.returns
returns c = sym (ends-keys _ _ _ _ (omega (arith, c.in_ok-least.ensures)) (omega (arith, c.in_ok-greatest.ensures)) (omega arith))
