-- `nodes::words::put_entries` meets its contract. Assumes nothing.
use Rattle.nodes.proofs.Runs.{columns-filled, columns-full}
use Rattle.nodes.proofs.words.put_entries.Goals as goal

pub returns-then-k-e : goal.returns-then-k-e
returns-then-k-e c = search columns-filled

pub returns-else-k-e : goal.returns-else-k-e
returns-else-k-e c = search columns-full
