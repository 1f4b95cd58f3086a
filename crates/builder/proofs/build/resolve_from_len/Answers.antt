-- `builder::build::resolve_from_len` meets its contract. Assumes nothing.
use Rattle.format.specs.Layout.{layout_of}
use Rattle.nodes.specs.Nodes.{child_at}
use Rattle.builder.proofs.Whole.{record-by}
use Rattle.builder.proofs.build.resolve_from_len.Goals as goal

pub returns : goal.returns
returns c =
    let a = c.args in
    record-by (layout_of a.layout) a.out.now _ _ a.at.0 a.n c.offset_bits-offset.result c.pointer.result
    (child_at a.root) c.pointer.ensures.0 c.offset_bits-offset.ensures c.put_uint.ensures
    c.put_uint-2.ensures
