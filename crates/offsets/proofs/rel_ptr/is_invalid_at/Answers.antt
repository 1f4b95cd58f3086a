-- `offsets::rel_ptr::is_invalid_at` meets its contract. Assumes nothing.
use Rattle.format.specs.RelPtr.{absent}
use Rattle.offsets.proofs.rel_ptr.is_invalid_at.Goals as goal

pub returns : goal.returns
unfolding absent
returns c = rw c.uint_at.ensures.0
