-- `serialize::map::leaf` meets its contract. Assumes nothing.
use Rattle.format.specs.Layout.{layout_of}
use Rattle.serialize.proofs.Nodes.{leaf-wrote}
use Rattle.serialize.proofs.map.leaf.Goals as goal

pub returns : goal.returns
returns c =
    let a = c.args in
    rw (c.closed.ensures.child, c.closed.ensures.place)
    (leaf-wrote (layout_of a.given.layout) a.given.keys.now a.given.values.now a.here.now _ _ _ _ _
    c.requires.k_le_entries.1 c.close_leaf.ensures c.leaf.ensures.0)
