-- `walks::map::visit_raw` meets its contract: the node's position falls.
use Rattle.std.proofs.Common.{rules, arith, ◌≡◌, ◌+◌, [], ◌∙◌}
use mathlib.Core.Logic.{inl, inr}
use Rattle.format.specs.Layout.{layout_of, server, nested}
use Rattle.format.specs.Node.{child}
use Rattle.format.specs.Entries.{list_children, list_at}
use Rattle.format.specs.Readable.{child_at}
use Rattle.format.specs.Written.{out, put, fill}
use Rattle.format.proofs.Laws.Read.Children.{on_child}
use Rattle.format.proofs.Laws.Read.Node.{as-leaf, as-inner, node-room, child-falls}
use Rattle.format.proofs.Laws.Read.Written.{runs_none}
use Rattle.btree.proofs.NextChild.{next-child}
use Rattle.btree.proofs.Runs.{out-same, left, left_step, left-last, left-done, leaf-run}
use Rattle.walks.proofs.Fills.{full-kept}
use Rattle.walks.proofs.map.+visit_raw.Goals as goal
use Rattle.walks.proofs.map.+visit_raw.Goals.{in-Some+then-archive-p-eq0, in-Some+else-archive-p-eq0, in_default, then-i-layout, else-i-layout}

pub returns-then-room-start : goal.returns-then-room-start
returns-then-room-start t c = full-kept _ _ _ _ (omega arith)

pub child_at-requires : goal.child_at-requires
child_at-requires t c = (c.requires.0, as-inner _ server _ c.requires.1 c.requires.2, omega arith)

pub bounds-archive-p : goal.bounds-archive-p
bounds-archive-p t c =
    let pre = c.requires in
    let below = child-falls _ server _ _ c.decreases pre.1 pre.2 (omega arith) c.child_at.ensures c.in-Some.is in
    omega (arith, node-room _ _ _ below.1)

pub visit_leaf-at-requires : goal.visit_leaf-at-requires
visit_leaf-at-requires t c =
    let pre = c.requires in
    let below = child-falls _ server _ _ c.decreases pre.1 pre.2 (omega arith) c.child_at.ensures c.in-Some.is in
    (pre.0, as-leaf _ server _ below.1 c.if-archive-p-eq0.true)

pub visit_raw-at-requires : goal.visit_raw-at-requires
visit_raw-at-requires t c =
    let pre = c.requires in
    let below = child-falls _ server _ _ c.decreases pre.1 pre.2 (omega arith) c.child_at.ensures c.in-Some.is in
    (below.0, (pre.0, below.1, c.if-archive-p-eq0.false))

-- Where the arms of the child's test meet, the child's entries are written, or there is no child. Where the arms of the slot's test meet, there is one slot
-- more.
pub loop-i-preserved : goal.loop-i-preserved
loop-i-preserved t c =
    let L = layout_of c.args.layout in
    let s = c.args.archive.now in
    let all = list_at L s (nested server) in
    let pre = c.requires in
    let o = c.loop-i in
    let m = c.match-child_at in
    let joined : out m.keys m.values m.at ≡ fill (on_child [] all (child_at L s (child L c.args.pos.0 o.i))) (out o.keys o.values o.at) =
    next-child L s fill [] (runs_none put) all c.args.pos.0 o.i _ _ _ c.child_at.ensures
    (elim m.branch [
      | in-Some+then-archive-p-eq0 w ↦
          let below = child-falls _ server _ _ c.decreases pre.1 pre.2 (omega arith) c.child_at.ensures w.in-Some.is in
          let same = out-same w.keys-is w.values-is w.at-is in
          inl (_, w.in-Some.is, leaf-run _ _ put server _ _ _ below.1 w.if-archive-p-eq0.true (same ∙ w.visit_leaf-at.ensures))
      | in-Some+else-archive-p-eq0 w ↦ inl (_, w.in-Some.is, out-same w.keys-is w.values-is w.at-is ∙ w.visit_raw-at.ensures)
      | in_default w ↦ inr (w.in_default.is, out-same w.keys-is w.values-is w.at-is)
    ])
    in
    let f = c.if-i-layout in
    let rest = left [] (list_children L s all c.args.pos.0) c.args.layout.entries in
    let passed : fill (rest (o.i + 1)) (out f.keys f.values f.at) ≡ fill (rest 0) (out c.args.keys.now c.args.values.now c.args.start) =
    elim f.branch [
      | then-i-layout w ↦ left_step _ _ put _ _ _ _ _ _ _ joined o.invariant.2 w.if-i-layout.true _
          (out-same w.keys-is w.values-is w.at-is ∙ w.visit_key_value_raw-at.ensures)
      | else-i-layout w ↦ absurd (let h = w.if-i-layout.false in omega arith)
    ]
    in
    (search rules, search rules, passed)

-- The same of the greater child, which no slot follows.
pub returns-after-i-layout : goal.returns-after-i-layout
returns-after-i-layout t c =
    let L = layout_of c.args.layout in
    let s = c.args.archive.now in
    let all = list_at L s (nested server) in
    let pre = c.requires in
    let o = c.loop-i in
    let m = c.match-child_at in
    let joined : out m.keys m.values m.at ≡ fill (on_child [] all (child_at L s (child L c.args.pos.0 o.i))) (out o.keys o.values o.at) =
    next-child L s fill [] (runs_none put) all c.args.pos.0 o.i _ _ _ c.child_at.ensures
    (elim m.branch [
      | in-Some+then-archive-p-eq0 w ↦
          let below = child-falls _ server _ _ c.decreases pre.1 pre.2 (omega arith) c.child_at.ensures w.in-Some.is in
          let same = out-same w.keys-is w.values-is w.at-is in
          inl (_, w.in-Some.is, leaf-run _ _ put server _ _ _ below.1 w.if-archive-p-eq0.true (same ∙ w.visit_leaf-at.ensures))
      | in-Some+else-archive-p-eq0 w ↦ inl (_, w.in-Some.is, out-same w.keys-is w.values-is w.at-is ∙ w.visit_raw-at.ensures)
      | in_default w ↦ inr (w.in_default.is, out-same w.keys-is w.values-is w.at-is)
    ])
    in
    let f = c.if-i-layout in
    let same : out f.keys f.values f.at ≡ out m.keys m.values m.at =
    elim f.branch [
      | then-i-layout w ↦ absurd (let h = w.if-i-layout.true in omega arith)
      | else-i-layout w ↦ out-same w.keys-is w.values-is w.at-is
    ]
    in
    left-done _ _ put server _ (o.i + 1) _ _ pre.1 pre.2 (omega arith)
    (left-last _ _ put _ _ _ _ _ _ _ (same ∙ joined) o.invariant.2 (omega arith) (omega arith))
