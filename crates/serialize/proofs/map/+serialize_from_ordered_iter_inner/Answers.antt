-- The children of an inner node are written before it, and it is closed behind them.
use Rattle.std.proofs.Common.{[], length, ap, arith}
use Rattle.format.specs.Layout.{layout_of}
use Rattle.serialize.proofs.Nodes.{none-wrote, last-fill, one-fill, leaf-fits, leaf-filled, inner-ready, inner-wrote, grew-closed}
use Rattle.serialize.proofs.Taking.{ready-one, taking-start, taking-more, closing}
use Rattle.serialize.proofs.map.+serialize_from_ordered_iter_inner.Goals as goal

pub serialize_from_ordered_iter-returns-in-0 : goal.serialize_from_ordered_iter-returns-in-0
serialize_from_ordered_iter-returns-in-0 t c = none-wrote _ _ _ _ _ c.in-0.is c.if-here-eq0.true c.requires.can_write

pub serialize_from_ordered_iter-leaf-requires-clause-leaf_in_bounds : goal.serialize_from_ordered_iter-leaf-requires-clause-leaf_in_bounds
serialize_from_ordered_iter-leaf-requires-clause-leaf_in_bounds t c =
    let L = layout_of c.args.given.layout in
    leaf-fits L _ _ _ _ _ (last-fill L [] [] _ c.in-0.is c.if-here-eq0.false c.min-k.ensures) c.requires.can_write

pub serialize_from_ordered_iter-returns-in-0-2 : goal.serialize_from_ordered_iter-returns-in-0-2
serialize_from_ordered_iter-returns-in-0-2 t c =
    let L = layout_of c.args.given.layout in
    leaf-filled L _ _ _ _ (last-fill L [] [] _ c.in-0.is c.if-here-eq0.false c.min-k.ensures) c.leaf.ensures

pub serialize_from_ordered_iter-leaf-requires-in-1-clause-leaf_in_bounds : goal.serialize_from_ordered_iter-leaf-requires-in-1-clause-leaf_in_bounds
serialize_from_ordered_iter-leaf-requires-in-1-clause-leaf_in_bounds t c =
    leaf-fits (layout_of c.args.given.layout) _ _ _ _ _ (one-fill _ [] [] _ c.in-1.is c.if-here-eq0-2.true) c.requires.can_write

pub serialize_from_ordered_iter-returns-in-1 : goal.serialize_from_ordered_iter-returns-in-1
serialize_from_ordered_iter-returns-in-1 t c =
    leaf-filled (layout_of c.args.given.layout) _ _ _ _ (one-fill _ [] [] _ c.in-1.is c.if-here-eq0-2.true) c.leaf-in-1.ensures

pub node_over-loop-init : goal.node_over-loop-init
node_over-loop-init t c =
    let top = c.requires.h_nonzero in
    let new = c.new-open.ensures in
    (new.taken, taking-start _ _ _ _ _ _ _ (ap length new.slots) (inner-ready _ _ _ top.0 top.1 c.requires.can_write).0)

pub node_over-serialize_from_ordered_iter-lesser-requires : goal.node_over-serialize_from_ordered_iter-lesser-requires
node_over-serialize_from_ordered_iter-lesser-requires t c = (omega (arith, c.requires.h_nonzero.0), ready-one _ _ _ _ c.loop.invariant.1.ready)

pub node_over-loop-preserved : goal.node_over-loop-preserved
node_over-loop-preserved t c =
    let g = c.args.given in
    let T = c.loop.invariant in
    let took = c.take-open.ensures in (
      omega (arith, T.0, took.taken),
      rw (took.slots, T.0) (taking-more _ _ _ _ _ _ g.same g.few c.loop-test.true T.1 c.serialize_from_ordered_iter-lesser.ensures).1,
    )

pub node_over-serialize_from_ordered_iter-greater-requires : goal.node_over-serialize_from_ordered_iter-greater-requires
node_over-serialize_from_ordered_iter-greater-requires t c = (omega (arith, c.requires.h_nonzero.0), ready-one _ _ _ _ c.loop.invariant.1.ready)

pub node_over-close_inner-requires-clause-inner_in_bounds : goal.node_over-close_inner-requires-clause-inner_in_bounds
node_over-close_inner-requires-clause-inner_in_bounds t c =
    let top = c.requires.h_nonzero in
    omega (
      arith,
      (closing _ _ _ top.0 top.1 c.requires.can_write c.loop.auto.counter-end c.loop-test.false c.loop.invariant.1
          c.serialize_from_ordered_iter-greater.ensures).0,
    )

pub node_over-returns : goal.node_over-returns
node_over-returns t c =
    let top = c.requires.h_nonzero in
    let grew =
    (closing _ _ _ top.0 top.1 c.requires.can_write c.loop.auto.counter-end c.loop-test.false c.loop.invariant.1
    c.serialize_from_ordered_iter-greater.ensures).1 in
    rw (c.closed.ensures.child, c.closed.ensures.place)
    (inner-wrote _ _ _ top.0 top.1 (grew-closed _ _ _ _ _ _ _ _ _ _ _ _ grew c.close_inner.ensures c.inner.ensures.0))
