-- A place that is read is in the lists, and each turn writes a word to each column.
use Rattle.std.proofs.Common.{refl}
use Rattle.nodes.proofs.Runs.{slots-step, within-get}
use Rattle.nodes.proofs.node.put_slots.Goals as goal

pub bounds-keys-i : goal.bounds-keys-i
bounds-keys-i c = within-get refl c.args.slots.now _ _ c.requires.keys_len.1 c.loop-j-test.true

pub bounds-values-i : goal.bounds-values-i
bounds-values-i c = within-get c.requires.keys_len.0 c.args.slots.now _ _ c.requires.keys_len.1 c.loop-j-test.true

pub loop-j-preserved : goal.loop-j-preserved
loop-j-preserved c =
    slots-step c.args.at c.args.keys.now c.args.values.now c.args.slots.now _ _ _ c.loop-j-test.true
    c.put_u64.ensures c.put_u64-in-loop-j.ensures c.loop-j.invariant
