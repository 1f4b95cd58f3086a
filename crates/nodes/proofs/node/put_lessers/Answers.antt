-- Each turn writes the field of a lesser child.
use Rattle.std.proofs.Common.{refl, arith}
use Rattle.format.specs.Layout.{layout_of}
use Rattle.nodes.proofs.Offsets.{lesser-step}
use Rattle.nodes.proofs.node.put_lessers.Goals as goal

pub loop-slot-preserved : goal.loop-slot-preserved
loop-slot-preserved c =
    let size = c.pointer-size.ensures.0 in (
      omega (arith, c.loop-slot.invariant.0, size),
      lesser-step (layout_of c.args.layout) _ c.args.slots.now _ _ _ _ _ _ refl c.loop-slot-test.true size
          c.offset_bits-bits.ensures c.put_uint.ensures c.loop-slot.invariant.1,
    )
