-- `offsets::ser::writer::is_alignment`: the match tests 1 and 2 as a range, then the four other alignments.
use Rattle.std.proofs.Common.{arith, sym}
use Rattle.offsets.proofs.Alignments.{is-small, is-larger, is_none}
use Rattle.offsets.proofs.ser.writer.is_alignment.Goals as goal

pub returns-in_default : goal.returns-in_default
returns-in_default c = sym (is_none _ (omega arith) (omega arith) (λ k. omega arith))

pub returns-in_default-2 : goal.returns-in_default-2
returns-in_default-2 c = sym (is_none _ (omega arith) (omega arith) (λ k. omega arith))

pub returns-in-1 : goal.returns-in-1
returns-in-1 c = sym (is-larger _ c.in-1.is)

pub returns-in-1-2 : goal.returns-in-1-2
returns-in-1-2 c = sym (is-small _ (omega arith) (omega arith))
