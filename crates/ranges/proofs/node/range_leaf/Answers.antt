-- `ranges::node::range_leaf` meets its contract.
use Rattle.std.proofs.Common.{arith, rules, ◌≡◌, ◌-◌, [], sym, ◌∙◌}
use Rattle.format.specs.Layout.{layout_of}
use Rattle.format.specs.Node.{leaf_count, slot}
use Rattle.format.specs.Entries.{slots}
use Rattle.format.specs.Written.{out}
use Rattle.format.proofs.Laws.Read.Written.{runs_none}
use Rattle.ranges.specs.Taken.{range_step, ranged}
use Rattle.btree.proofs.Runs.{out-same, slots-more, leaf-step, leaf-done}
use Rattle.ranges.proofs.EntryByEntry.{stop-past, one-fits}
use Rattle.ranges.proofs.Ranges.{slot-key, slot-taken, slot-passed, slots-rest, slots-run}
use Rattle.ranges.proofs.node.range_leaf.Goals as goal
use Rattle.ranges.proofs.node.range_leaf.Goals.{After-u64_at-k, then-least-k, else-least-k}

-- What is left of the leaf gives what all of it gives.
whole : (c : After-u64_at-k) → let a = c.args in
    let left = slots (layout_of a.layout) a.archive.now a.pos.0 in
    let o = c.loop-i in
    ranged a.least a.greatest (left (c.leaf_len-n.result - o.i) o.i) (out o.keys o.values o.at)
    ≡ ranged a.least a.greatest (left (leaf_count (layout_of a.layout) a.archive.now a.pos.0) 0) (out a.keys.now a.values.now a.start)
whole c =
    let a = c.args in
    let L = layout_of a.layout in
    cc (slots-run L a.archive.now a.pos.0 _ _ c.leaf_len-n.ensures a.least a.greatest (out a.keys.now a.values.now a.start), c.loop-i.invariant.4)

pub returns-then-greatest-k : goal.returns-then-greatest-k
returns-then-greatest-k c =
    let all = whole (goal.at.returns-then-greatest-k c).After-u64_at-k in
    let key = slot-key _ _ _ _ _ c.u64_at-k.ensures in
    stop-past _ _ [] _ _ (slots-more _ _ _ _ _ c.loop-i-test.true) c.loop-i.invariant.3 key _ _ _ all _ (sym (runs_none _ _)) c.if-greatest-k.true

pub overflow_add-at : goal.overflow_add-at
overflow_add-at c =
    let all = whole (goal.at.overflow_add-at c).After-u64_at-k in
    let key = slot-key _ _ _ _ _ c.u64_at-k.ensures in
    let more = slots-more _ _ _ _ _ c.loop-i-test.true in
    let fits = one-fits _ _ [] _ _ more c.loop-i.invariant.3 key _ _ _ all _ (sym (runs_none _ _)) _ c.requires.pos_bound in
    omega (arith, fits (omega arith) c.if-greatest-k.false)

-- Where the arms of the lower bound's test meet, the slot is taken, or it is below.
pub loop-i-preserved : goal.loop-i-preserved
loop-i-preserved c =
    let a = c.args in
    let L = layout_of a.layout in
    let s = a.archive.now in
    let o = c.loop-i in
    let f = c.if-least-k in
    let key = c.u64_at-k.ensures in
    let step : out f.keys f.values f.at ≡ range_step a.least a.greatest (slot L s a.pos.0 o.i) (out o.keys o.values o.at) =
    elim f.branch [
      | then-least-k w ↦
          out-same w.keys-is w.values-is w.at-is
          ∙ slot-taken L s a.pos.0 o.i _ key a.least a.greatest (omega (arith, w.if-least-k.true)) c.if-greatest-k.false _ _ _ w.visit_key_value_raw.ensures
      | else-least-k w ↦ out-same w.keys-is w.values-is w.at-is ∙ slot-passed L s a.pos.0 o.i _ key a.least a.greatest w.if-least-k.false _
    ]
    in (
      search rules,
      search rules,
      search rules,
      slots-rest L s a.pos.0 c.leaf_len-n.result o.i c.loop-i-test.true o.invariant.3,
      leaf-step L s _ _ _ _ _ _ _ c.loop-i-test.true step o.invariant.4,
    )

pub returns : goal.returns
returns c = search leaf-done
