-- The bytes that the calls write are those of a closed inner node.
use Rattle.format.specs.Layout.{layout_of}
use Rattle.nodes.specs.Nodes.{child_at}
use Rattle.nodes.proofs.Closed.{inner-closed}
use Rattle.nodes.proofs.node.close_inner.Goals as goal

pub returns : goal.returns
returns c =
    let a = c.args in
    inner-closed (layout_of a.layout) a.out.now a.at.0 _ _ _ _ a.keys.now a.values.now a.slots.now (child_at a.greater)
    c.requires.full.0 c.node.ensures.0 c.pointer-size.ensures.0 c.inner.ensures.0 c.offset_bits-bits.ensures
    c.put_u64.ensures c.put_slots.ensures c.put_lessers.ensures c.put_uint.ensures c.put_zeros.ensures
