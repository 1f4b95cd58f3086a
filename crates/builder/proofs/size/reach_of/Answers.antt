-- The root's first offset leads over all the nodes but those of the first child.
use Rattle.std.proofs.Common.{◌≡◌, ◌-◌, suc, arith}
use Rattle.format.specs.Layout.{layout_of}
use Rattle.format.proofs.Laws.Build.Longest.{nodes-small}
use Rattle.builder.proofs.Levels.{fits}
use Rattle.builder.proofs.Reach.{FirstChild, before, two-before, inner-in, reach-one, first-few, reach-more}
use Rattle.builder.proofs.size.reach_of.Goals as goal
use Rattle.builder.proofs.size.reach_of.Goals.{Else-v-eq1, After-inner-2}

pub overflow_sub-beside : goal.overflow_sub-beside
overflow_sub-beside c =
    let (N, p, K) = c.requires.named in
    omega (arith, inner-in _ _ N p K _ (before _ c.if-v-eq0.false), c.requires.nodes_value, c.inner.ensures.0)

pub returns-then-v-eq1 : goal.returns-then-v-eq1
returns-then-v-eq1 c =
    let (N, p, K) = c.requires.named in
    omega (arith, reach-one _ _ N p K c.if-v-eq1.true, c.requires.nodes_value, c.inner.ensures.0, c.node.ensures.0)

-- There are two levels of inner nodes or more.
above : (c : Else-v-eq1) → c.args.v.above ≡ suc (suc (c.args.v.above - 2))
above c = two-before _ c.if-v-eq0.false c.if-v-eq1.false

pub overflow_sub-v : goal.overflow_sub-v
overflow_sub-v c =
    let (N, p, K) = c.requires.named in
    omega (arith, (first-few _ _ N p K _ (above (goal.at.overflow_sub-v c).Else-v-eq1)).0)

pub overflow_sub-n : goal.overflow_sub-n
overflow_sub-n c =
    let (N, p, K) = c.requires.named in
    omega (arith, (fits _ _ N p K).power-low.1)

pub size_over-first-requires : goal.size_over-first-requires
size_over-first-requires c =
    let (N, p, K) = c.requires.named in
    let (_, some, over, higher) = first-few _ _ N p K _ (above (goal.at.size_over-first-requires c).Else-v-eq1) in
    (record { least = N.least; most = N.most; few = omega (arith, N.few) }, some, omega (arith, over, N.few), omega (arith, higher, N.few))

first : (c : After-inner-2) → FirstChild (layout_of c.args.layout) c.args.n c.size_over-first.result
first c =
    let (N, p, K) = c.requires.named in
    reach-more _ _ N p K _ (two-before _ c.if-v-eq0.false c.if-v-eq1.false) _ _ (fits _ _ N p K).last c.size_over-first.ensures

pub overflow_sub-result : goal.overflow_sub-result
overflow_sub-result c =
    omega (arith, (first (goal.at.overflow_sub-result c).After-inner-2).0, c.inner.ensures.0, c.requires.nodes_value)

pub overflow_add-result-3 : goal.overflow_add-result-3
overflow_add-result-3 c =
    let N = c.requires.named.0 in
    omega (arith, nodes-small (layout_of c.args.layout) N.least N.most c.args.n N.few, c.requires.nodes_value, c.inner-2.ensures.1)

pub returns : goal.returns
returns c =
    omega (
      arith,
      (first (goal.at.returns c).After-inner-2).1,
      c.inner.ensures.0,
      c.inner-2.ensures.0,
      c.node-2.ensures.0,
      c.requires.nodes_value,
    )
