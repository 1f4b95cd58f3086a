-- The node that the field leads back to is in its place.
use native.Mathlib.Omega.{arith}
use Rattle.quick.proofs.Numbered.{leads-by}
use Rattle.numbers.proofs.inner_root.Goals as goal

pub returns : goal.returns
returns c =
    record {
      to = leads-by _ _ _ _ _ c.uint_at-offset.ensures.0 c.uint_at-offset.ensures.1 c.ones-all.ensures (omega arith) (omega arith);
      room = omega (arith, c.inner.ensures.0, c.if-at-p.false);
      aligned = c.if-p-ne0.false;
      inner = c.if-archive-p-ne1.false;
    }
