-- `certification::certify_inner` meets its contract: the node's position falls.
use Rattle.std.proofs.Common.{rules, arith, ◌≡◌, ℕ, ◌+◌, ◌≤◌, false, ◌||◌, [], ◌∙◌}
use mathlib.Core.Logic.{inl, inr}
use Rattle.format.specs.Layout.{layout_of, server, nested}
use Rattle.format.specs.Entries.{list_children, list_at}
use Rattle.format.specs.Certify.{any_children, hollow_at}
use Rattle.format.specs.Written.{runs}
use Rattle.format.proofs.Laws.Read.Node.{as-inner, node-room, child-falls}
use Rattle.certification.specs.Survey.{step}
use Rattle.btree.proofs.Runs.{left, left_step, left-last, left-done}
use Rattle.certification.proofs.Surveys.{flag-step, flag-done, met}
use Rattle.certification.proofs.+certify_inner.Goals as goal
use Rattle.certification.proofs.+certify_inner.Goals.{Joined-i-layout, in-Some+then-archive-p-eq0, in-Some+else-archive-p-eq0, in_default}
use Rattle.certification.proofs.+certify_inner.Goals.{then-i-layout, else-i-layout}

pub note_hollow-hollow-requires : goal.note_hollow-hollow-requires
note_hollow-hollow-requires t c = (search rules, search as-inner)

pub child_at-requires : goal.child_at-requires
child_at-requires t c = (search rules, search as-inner, omega arith)

pub bounds-archive-p : goal.bounds-archive-p
bounds-archive-p t c =
    let pre = c.requires in
    let below = child-falls _ server _ _ c.decreases pre.1 pre.2 (omega arith) c.child_at.ensures c.in-Some.is in
    omega (arith, node-room _ _ _ below.1)

pub note_leaf-below-requires : goal.note_leaf-below-requires
note_leaf-below-requires t c =
    let pre = c.requires in
    let below = child-falls _ server _ _ c.decreases pre.1 pre.2 (omega arith) c.child_at.ensures c.in-Some.is in
    (pre.0, below.1, c.if-archive-p-eq0.true)

pub certify_inner-below-requires : goal.certify_inner-below-requires
certify_inner-below-requires t c =
    let pre = c.requires in
    let below = child-falls _ server _ _ c.decreases pre.1 pre.2 (omega arith) c.child_at.ensures c.in-Some.is in
    (below.0, (pre.0, below.1, c.if-archive-p-eq0.false))

-- Where the arms of the child's test meet, the nodes from the child on are passed, or there is no child. Where the arms of the slot's test meet, there is
-- one slot more, or none is left.
passed : (t : ℕ) (c : Joined-i-layout t) → let L = layout_of c.args.layout in
    let s = c.args.archive.now in
    let list = left [] (list_children L s (list_at L s (nested server)) c.args.pos.0) c.args.layout.entries in
    let any = left false (any_children L s (hollow_at L s (nested server)) c.args.pos.0) c.args.layout.entries in
    (runs step (list (c.loop-i.i + 1)) c.if-i-layout.order ≡ runs step (list 0) c.args.seen.order)
    × ((c.match-child_at.hollow || any (c.loop-i.i + 1)) ≡ (c.note_hollow-hollow.result || any 0))
passed t c =
    let L = layout_of c.args.layout in
    let s = c.args.archive.now in
    let o = c.loop-i in
    let m = c.match-child_at in
    let f = c.if-i-layout in
    let came = met L s c.args.pos.0 o.i _ (record { order = o.order; hollow = o.hollow }) (record { order = m.order; hollow = m.hollow }) c.child_at.ensures
    (elim m.branch [
      | in-Some+then-archive-p-eq0 w ↦ inl (_, w.in-Some.is, rw (w.order-is, w.hollow-is) w.note_leaf-below.ensures)
      | in-Some+else-archive-p-eq0 w ↦ inl (_, w.in-Some.is, rw (w.order-is, w.hollow-is) w.certify_inner-below.ensures)
      | in_default w ↦ inr (w.in_default.is, rw (w.order-is, w.hollow-is))
    ])
    in
    let l : o.i ≤ c.args.layout.entries = omega arith in (
      elim f.branch [
        | then-i-layout w ↦
            left_step _ _ step _ _ _ _ _ _ _ came.0 o.invariant.1 w.if-i-layout.true _ (w.order-is ∙ w.note_slot-order.ensures)
        | else-i-layout w ↦ left-last _ _ step _ _ _ _ _ _ _ (w.order-is ∙ came.0) o.invariant.1 l w.if-i-layout.false
      ],
      flag-step _ _ _ _ _ _ _ _ _ l came.1 o.invariant.2,
    )

pub loop-i-preserved : goal.loop-i-preserved
loop-i-preserved t c =
    let all = passed t (goal.at.loop-i-preserved t c).Joined-i-layout in
    (c.loop-i.invariant.0, all.0, all.1)

pub returns-after-i-layout : goal.returns-after-i-layout
returns-after-i-layout t c =
    let pre = c.requires in
    let all = passed t (goal.at.returns-after-i-layout t c).Joined-i-layout in (
      left-done _ _ step server _ _ _ _ pre.1 pre.2 (omega arith) all.0,
      flag-done _ server _ _ pre.1 _ _ _ _ pre.2 (omega arith) c.note_hollow-hollow.ensures all.1,
    )
