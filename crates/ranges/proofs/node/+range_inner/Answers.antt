-- `ranges::node::range_inner` meets its contract: the node's position falls.
use Rattle.std.proofs.Common.{ℕ, arith, rules, ℕ, ◌≡◌, ◌+◌, [], refl, ◌∙◌}
use mathlib.Core.Logic.{inl, inr}
use Rattle.format.specs.Layout.{layout_of, server, nested}
use Rattle.format.specs.Entries.{list_at}
use Rattle.format.specs.Written.{out}
use Rattle.format.proofs.Laws.Read.Node.{as-leaf, as-inner, node-room, child-falls}
use Rattle.format.proofs.Laws.Read.Written.{runs_none}
use Rattle.ranges.specs.Taken.{ranged}
use Rattle.btree.proofs.NextChild.{next-child}
use Rattle.btree.proofs.Runs.{out-same, left_step, left-last, leaf-run}
use Rattle.ranges.proofs.EntryByEntry.{pass-low, stop-past, one-fits}
use Rattle.ranges.proofs.Ranges.{slot-there, slot-key, slot-taken, child_fits, leaf-fits}
use Rattle.ranges.proofs.Ranges.{rest, at-child, rest_all, rest_more, rest-done, rest-ascends}
use Rattle.ranges.proofs.node.+range_inner.Goals as goal
use Rattle.ranges.proofs.node.+range_inner.Goals.{Joined-child_at, in-Some+then-archive-p-eq0, in-Some+else-archive-p-eq0, in_default}
use Rattle.ranges.proofs.node.+range_inner.Goals.{Joined-i-layout, then-i-layout+else-greatest-key, else-i-layout}

pub loop-i-init : goal.loop-i-init
loop-i-init t c =
    let all = rest_all (layout_of c.args.layout) c.args.archive.now server c.requires.entries_bound.1 c.requires.entries_bound.2 in
    (omega arith, refl, refl, rw all c.requires.ascending, rw all)

pub loop-i-preserved-then-key-least : goal.loop-i-preserved-then-key-least
loop-i-preserved-then-key-least t c =
    let L = layout_of c.args.layout in
    let s = c.args.archive.now in
    let inv = c.loop-i.invariant in
    let key = c.key_after-key.ensures in
    let more = slot-there key.1 c.if-key-least.true c.ranges.least.fits in
    let low =
    pass-low _ _ (at-child L s server _ _) _ _ (rest_more L s server _ _ more) inv.3 (slot-key L _ _ _ _ (key.0 more)) _ _ _ inv.4 c.if-key-least.true in
    (omega arith, inv.1, inv.2, rest-ascends L s server _ _ inv.3, low)

pub child_at-requires : goal.child_at-requires
child_at-requires t c =
    let pre = c.requires.entries_bound in
    (pre.0, as-inner _ server _ pre.1 pre.2, omega arith)

pub bounds-archive-p : goal.bounds-archive-p
bounds-archive-p t c =
    let pre = c.requires.entries_bound in
    let below = child-falls _ server _ _ c.decreases pre.1 pre.2 (omega arith) c.child_at.ensures c.in-Some.is in
    omega (arith, node-room _ _ _ below.1)

-- A child lies lower, and is accepted; its keys ascend, and those of them that match can be counted.
pub range_leaf-at-requires : goal.range_leaf-at-requires
range_leaf-at-requires t c =
    let pre = c.requires.entries_bound in
    let inv = c.loop-i.invariant in
    let below = child-falls _ server _ _ c.decreases pre.1 pre.2 (omega arith) c.child_at.ensures c.in-Some.is in
    let fits = child_fits _ _ server _ _ _ _ _ _ _ _ (omega arith) inv.3 inv.4 c.requires.pos_bound c.child_at.ensures c.in-Some.is in
    let some = leaf-fits _ _ server _ _ _ _ _ below.1 c.if-archive-p-eq0.true fits in
    record { entries_bound = pre.0; leaf_node = as-leaf _ server _ below.1 c.if-archive-p-eq0.true; ascending = some.0; pos_bound = some.1 }

pub range_inner-at-requires : goal.range_inner-at-requires
range_inner-at-requires t c =
    let pre = c.requires.entries_bound in
    let inv = c.loop-i.invariant in
    let below = child-falls _ server _ _ c.decreases pre.1 pre.2 (omega arith) c.child_at.ensures c.in-Some.is in
    let fits = child_fits _ _ server _ _ _ _ _ _ _ _ (omega arith) inv.3 inv.4 c.requires.pos_bound c.child_at.ensures c.in-Some.is in
    (below.0, ((pre.0, below.1, c.if-archive-p-eq0.false), fits))

-- Where the arms of the child's test meet, what the child gives is done, or there is no child.
joined : (t : ℕ) (c : Joined-child_at t) → let a = c.args in
    out c.match-child_at.keys c.match-child_at.values c.match-child_at.at
    ≡ ranged a.least a.greatest (at-child (layout_of a.layout) a.archive.now server a.pos.0 c.loop-i.i) (out c.loop-i.keys c.loop-i.values c.loop-i.at)
joined t c =
    let L = layout_of c.args.layout in
    let s = c.args.archive.now in
    let run = ranged c.args.least c.args.greatest in
    let pre = c.requires.entries_bound in
    next-child L s run [] (runs_none _) (list_at L s (nested server)) c.args.pos.0 c.loop-i.i _ _ _ c.child_at.ensures
    (elim c.match-child_at.branch [
      | in-Some+then-archive-p-eq0 w ↦
          let below = child-falls _ server _ _ c.decreases pre.1 pre.2 (omega arith) c.child_at.ensures w.in-Some.is in
          inl (_, w.in-Some.is, leaf-run _ _ _ server _ _ _ below.1 w.if-archive-p-eq0.true (cc (w.range_leaf-at.ensures, w.keys-is, w.values-is, w.at-is)))
      | in-Some+else-archive-p-eq0 w ↦ inl (_, w.in-Some.is, cc (w.range_inner-at.ensures, w.keys-is, w.values-is, w.at-is))
      | in_default w ↦ inr (w.in_default.is, out-same w.keys-is w.values-is w.at-is)
    ])

pub returns-then-greatest-key : goal.returns-then-greatest-key
returns-then-greatest-key t c =
    let L = layout_of c.args.layout in
    let s = c.args.archive.now in
    let more = c.if-i-layout.true in
    let inv = c.loop-i.invariant in
    let key = slot-key L s _ _ _ (c.key_after-key.ensures.0 more) in
    stop-past _ _ _ _ _ (rest_more L s server _ _ more) inv.3 key _ _ _ inv.4 _ (joined t (goal.at.returns-then-greatest-key t c).Joined-child_at)
    c.if-greatest-key.true

pub overflow_add-at : goal.overflow_add-at
overflow_add-at t c =
    let L = layout_of c.args.layout in
    let s = c.args.archive.now in
    let more = c.if-i-layout.true in
    let inv = c.loop-i.invariant in
    let key = slot-key L s _ _ _ (c.key_after-key.ensures.0 more) in
    let met = joined t (goal.at.overflow_add-at t c).Joined-child_at in
    let fits = one-fits _ _ _ _ _ (rest_more L s server _ _ more) inv.3 key _ _ _ inv.4 _ met _ c.requires.pos_bound in
    omega (arith, fits c.if-key-least.false c.if-greatest-key.false)

-- Where the arms of the slot's test meet, there is one slot more, or none is left.
passed : (t : ℕ) (c : Joined-i-layout t) → let a = c.args in
    let L = layout_of a.layout in
    let s = a.archive.now in
    let o = c.loop-i in
    let m = c.match-child_at in
    let f = c.if-i-layout in
    out m.keys m.values m.at ≡ ranged a.least a.greatest (at-child L s server a.pos.0 o.i) (out o.keys o.values o.at)
    → ranged a.least a.greatest (rest L s server a.pos.0 (o.i + 1)) (out f.keys f.values f.at)
    ≡ ranged a.least a.greatest (list_at L s (nested server) a.pos.0) (out a.keys.now a.values.now a.start)
passed t c met =
    let L = layout_of c.args.layout in
    let s = c.args.archive.now in
    let o = c.loop-i in
    elim c.if-i-layout.branch [
      | then-i-layout+else-greatest-key w ↦
          let key = c.key_after-key.ensures.0 w.if-i-layout.true in
          left_step L s _ _ _ _ _ _ _ _ met o.invariant.4 w.if-i-layout.true _
          (out-same w.keys-is w.values-is w.at-is
          ∙ slot-taken L s _ _ _ key _ _ c.if-key-least.false w.if-greatest-key.false _ _ _ w.visit_key_value_raw.ensures)
      | else-i-layout w ↦
          left-last L s _ _ _ _ _ _ _ _ (out-same w.keys-is w.values-is w.at-is ∙ met) o.invariant.4 (omega (arith, c.loop-i-test.true)) w.if-i-layout.false
    ]

pub loop-i-preserved : goal.loop-i-preserved
loop-i-preserved t c =
    let g = goal.at.loop-i-preserved t c in
    (omega arith, search rules, search rules, rest-ascends _ _ server _ _ c.loop-i.invariant.3, passed t g.Joined-i-layout (joined t g.Joined-child_at))

pub returns : goal.returns
returns t c = rest-done _ _ server _ _ _ _ _ (omega arith) ∙ c.loop-i.invariant.4
