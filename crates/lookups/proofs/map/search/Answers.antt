-- `lookups::map::search` meets its contract. Assumes nothing.
use Prim.Native.Nat.{◌<◌}
use mathlib.Core.Path.{refl, ◌∙◌}
use native.Mathlib.Omega.{arith}
use Rattle.format.specs.Layout.{layout_of, server}
use Rattle.format.specs.Readable.{Node}
use Rattle.format.proofs.Laws.Read.Node.{node-room, as-leaf, as-inner, child-falls}
use Rattle.lookups.proofs.Finds.{seek-slot, seek-child, seek-all, leaf-count, leaf-slot, leaf-hit, leaf-miss, inner-hit, inner-miss, inner-down}
use borrow.Author.Rules.{rules}
use Rattle.lookups.proofs.map.search.Goals as goal

pub leaf_len-n-requires : goal.leaf_len-n-requires
leaf_len-n-requires c = (search rules, search as-leaf)

pub seek_slot-requires : goal.seek_slot-requires
seek_slot-requires c =
    let few = leaf-count _ server _ _ c.loop-n.invariant.1 (search) c.leaf_len-n.ensures in
    omega arith

pub slot-requires : goal.slot-requires
slot-requires c =
    (search rules, omega arith, search (leaf-slot (layout_of c.args.layout) server))

pub returns-in-Ok : goal.returns-in-Ok
returns-in-Ok c = search leaf-hit

pub returns-in-Err : goal.returns-in-Err
returns-in-Err c = search leaf-miss

pub slot-requires-in-Ok-seek_slot : goal.slot-requires-in-Ok-seek_slot
slot-requires-in-Ok-seek_slot c =
    let within = seek-slot _ _ _ _ _ _ c.seek_slot-in-loop-n.ensures c.in-Ok-seek_slot.is in
    (search rules, omega arith, omega (arith, within))

pub returns-in-Ok-seek_slot : goal.returns-in-Ok-seek_slot
returns-in-Ok-seek_slot c =
    inner-hit _ server _ _ _ _ _ c.loop-n.invariant.1 c.loop-n.invariant.2 c.if-archive-p-eq0.false
    (seek-all _ _ _ _ c.args.layout.entries _ c.seek_slot-in-loop-n.ensures (omega arith)) _ _
    c.in-Ok-seek_slot.is c.slot-in-Ok-seek_slot.ensures

pub child_at-requires : goal.child_at-requires
child_at-requires c =
    let within = seek-child _ _ _ _ _ _ c.seek_slot-in-loop-n.ensures c.in-Err-seek_slot.is in
    (search rules, search as-inner, omega (arith, within))

pub returns-in_err-current-in-Err-seek_slot : goal.returns-in_err-current-in-Err-seek_slot
returns-in_err-current-in-Err-seek_slot c =
    c.from_residual.ensures
    ∙ inner-miss _ server _ _ _ _ _ c.loop-n.invariant.1 c.loop-n.invariant.2 c.if-archive-p-eq0.false
    (seek-all _ _ _ _ c.args.layout.entries _ c.seek_slot-in-loop-n.ensures (omega arith)) _ _
    c.in-Err-seek_slot.is c.child_at.ensures c.in_err-current-in-Err-seek_slot.was

-- The child that the loop goes on with lies lower, and is accepted.
down : (c : goal.In_ok-current-in-Err-seek_slot)
    → let q = c.in_ok-current-in-Err-seek_slot.current.0 in (q < c.loop-n.current.0) × Node (layout_of c.args.layout) server c.args.archive.now q
down c =
    let within = seek-child _ _ _ _ _ _ c.seek_slot-in-loop-n.ensures c.in-Err-seek_slot.is in
    child-falls _ _ _ _ refl c.loop-n.invariant.1 c.if-archive-p-eq0.false (omega (arith, within)) c.child_at.ensures c.in_ok-current-in-Err-seek_slot.was

pub loop-n-smaller : goal.loop-n-smaller
loop-n-smaller c = (down c).0

pub loop-n-preserved : goal.loop-n-preserved
loop-n-preserved c = let d = (down c).1 in (
  node-room _ _ _ d,
  d,
  inner-down _ server _ _ _ _ _ c.loop-n.invariant.1 c.loop-n.invariant.2 c.if-archive-p-eq0.false
      (seek-all _ _ _ _ c.args.layout.entries _ c.seek_slot-in-loop-n.ensures (omega arith)) _ _ _
      c.in-Err-seek_slot.is c.child_at.ensures c.in_ok-current-in-Err-seek_slot.was,
)
