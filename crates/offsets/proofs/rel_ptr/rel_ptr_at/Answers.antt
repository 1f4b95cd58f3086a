-- `offsets::rel_ptr::rel_ptr_at` meets its contract. Assumes nothing.
use mathlib.Core.Path.{◌∙◌}
use Rattle.format.specs.RelPtr.{target}
use Rattle.offsets.proofs.rel_ptr.rel_ptr_at.Goals as goal

pub returns : goal.returns
unfolding target
returns c = c.follow.ensures ∙ rw c.uint_at.ensures.0
