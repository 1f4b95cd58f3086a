-- `btree::node::visit_key_value_raw` meets its contract. Assumes nothing.
use Prim.Native.Nat.{◌<◌}
use mathlib.Core.Path.{sym}
use native.Mathlib.Omega.{arith}
use lib.ListN.{length}
use Rattle.format.proofs.Laws.Read.Written.{put-room, put-keys-full, put-values-full}
use borrow.Author.Tests.{ltb-true}
use Rattle.btree.proofs.node.visit_key_value_raw.Goals as goal
use Rattle.btree.proofs.node.visit_key_value_raw.Goals.{else-at-keys-via-then-at-keys+else-at-values, else-at-keys-via-else-at-keys}

pub returns-then-at-values : goal.returns-then-at-values
returns-then-at-values c =
    let room : c.args.at < length c.args.values.now = omega (arith, ltb-true) in
    cc (put-room c.slot-e.result c.args.keys.now c.args.values.now c.args.at (search) room)

pub returns : goal.returns
returns c =
    elim c.else-at-keys.branch [
      | else-at-keys-via-then-at-keys+else-at-values w ↦ sym (put-values-full _ _ _ _ w.if-at-keys.true w.if-at-values.false)
      | else-at-keys-via-else-at-keys w ↦ sym (put-keys-full _ _ _ _ w.if-at-keys.false)
    ]
