-- `walks::map::put_slots` meets its contract. Assumes nothing.
use Rattle.format.specs.Layout.{layout_of}
use Rattle.walks.proofs.Fills.{slots_put}
use Rattle.walks.proofs.map.put_slots.Goals as goal

pub returns : goal.returns
returns g c =
    let a = c.args in
    let r = c.requires.room in
    let all = slots_put (layout_of a.layout) a.archive.now a.pos.0 g.row.N a.keys.now a.values.now a.start c.read.result c.read-2.result c.values.result
    r.0 r.1 c.read.ensures c.values.ensures.0 c.read-2.ensures
    in
    cc (c.store.ensures, c.store-2.ensures, all)
