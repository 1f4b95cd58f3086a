-- `offsets::ser::writer::align` meets its contract. Assumes nothing.
use mathlib.Core.Bool.{true}
use mathlib.Core.Path.{◌≡◌, sym, ◌∙◌}
use native.Mathlib.Nat.{mod-lt, le_of_lt}
use Rattle.format.specs.Align.{is_alignment}
use Rattle.format.proofs.Laws.Numbers.Align.{alignment-pos, step_given}
use Rattle.offsets.proofs.Alignments.{step_past, step-refused}
use Rattle.offsets.proofs.ser.writer.align.Goals as goal

right : (c : goal.Then-is_alignment) → is_alignment c.args.alignment ≡ true
right c = sym c.is_alignment.ensures ∙ c.if-is_alignment.true

pub nonzero_rem-zeros : goal.nonzero_rem-zeros
nonzero_rem-zeros c = alignment-pos _ (right c)

pub overflow_sub-zeros : goal.overflow_sub-zeros
overflow_sub-zeros c = le_of_lt (mod-lt _ (alignment-pos _ (right c)))

pub nonzero_rem-zeros-then-is_alignment : goal.nonzero_rem-zeros-then-is_alignment
nonzero_rem-zeros-then-is_alignment c = alignment-pos _ (right c)

pub returns-then-zeros-pos : goal.returns-then-zeros-pos
returns-then-zeros-pos c = sym (step_given _ _ (right c.before) c.if-zeros-pos.true c.ranges.pos.fits)

pub returns-else-zeros-pos : goal.returns-else-zeros-pos
returns-else-zeros-pos c = sym (step_past _ _ (right c.before) c.if-zeros-pos.false)

pub returns-else-is_alignment : goal.returns-else-is_alignment
returns-else-is_alignment c = sym (step-refused _ _ (sym c.is_alignment.ensures ∙ c.if-is_alignment.false))
