-- `nodes::words::put_zeros` meets its contract. Assumes nothing.
use Rattle.nodes.proofs.Runs.{zeros_filled}
use Rattle.nodes.proofs.words.put_zeros.Goals as goal

pub returns : goal.returns
returns c = zeros_filled c.args.out.now _ _ _ c.requires.0 c.requires.1 (c.fill.ensures.after (λ y h. h))
