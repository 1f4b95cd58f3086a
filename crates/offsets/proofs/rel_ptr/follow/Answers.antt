-- `offsets::rel_ptr::follow` meets its contract. Assumes nothing.
use mathlib.Core.Path.{sym}
use native.Mathlib.Omega.{arith}
use Rattle.format.specs.Layout.{sign_bits, width_of}
use Rattle.offsets.proofs.Offsets.{leads-ahead, leads-before, leads-behind}
use Rattle.offsets.proofs.rel_ptr.follow.Goals as goal

pub returns-then-bits-back : goal.returns-then-bits-back
returns-then-bits-back c =
    sym (leads-ahead (sign_bits (width_of c.args.width)) _ _ c.requires.1 (omega arith))

pub returns-then-p-back : goal.returns-then-p-back
returns-then-p-back c =
    sym (leads-before (sign_bits (width_of c.args.width)) _ _ c.requires.1 (omega arith) (omega arith))

pub returns : goal.returns
returns c =
    rw c.ones.ensures (sym (leads-behind (sign_bits (width_of c.args.width)) _ _ c.requires.1 (omega arith) (omega arith)))
