-- Each turn writes a word to each column.
use Rattle.std.proofs.Common.{refl, arith}
use Rattle.nodes.proofs.Runs.{rest-step}
use Rattle.nodes.proofs.words.copy_entries.Goals as goal

pub loop-j-preserved : goal.loop-j-preserved
loop-j-preserved c =
    let same = c.requires.same in
    rest-step c.args.at c.args.e _ c.args.keys.now c.args.values.now _ _ _ _ c.loop-j-test.true c.requires.few.0 (omega arith) (omega (arith, same))
    refl refl c.put_u64.ensures c.put_u64-in-loop-j.ensures c.loop-j.invariant
