-- `lookups::map::seek_slot` meets its contract. Assumes nothing.
use Rattle.lookups.proofs.Finds.{seek-less, seek-equal, seek-greater, seek-end}
use Rattle.lookups.proofs.map.seek_slot.Goals as goal

pub returns-then-key-k : goal.returns-then-key-k
returns-then-key-k c = search seek-less

pub returns-then-key-k-2 : goal.returns-then-key-k-2
returns-then-key-k-2 c = search seek-equal

pub loop-i-preserved : goal.loop-i-preserved
loop-i-preserved c = search seek-greater

pub returns : goal.returns
returns c = search seek-end
