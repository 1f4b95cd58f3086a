-- `offsets::rel_ptr::absent_offset` is the offset to the next position.
use Rattle.format.specs.RelPtr.{absent_offset}
use Rattle.offsets.proofs.rel_ptr.absent_offset.Goals as goal

pub returns : goal.returns
unfolding absent_offset
returns c = c.offset32.ensures
