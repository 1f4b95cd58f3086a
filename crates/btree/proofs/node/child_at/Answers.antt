-- `btree::node::child_at` meets its contract: the field that the code computes is child i's.
use Rattle.format.proofs.Laws.Numbers.Widths.{field_is}
use Rattle.btree.proofs.Back.{field-absent, field-before, field-there}
use Rattle.btree.proofs.node.child_at.Goals as goal

pub returns-then-bits-eq1 : goal.returns-then-bits-eq1
returns-then-bits-eq1 c = search (field-absent, field_is)

pub overflow_sub-result-2 : goal.overflow_sub-result-2
overflow_sub-result-2 c = search (field-before, field_is)

pub returns : goal.returns
returns c = search (field-there, field_is)
