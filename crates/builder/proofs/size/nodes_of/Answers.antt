-- A leaf, or inner nodes over the last level.
use Rattle.std.proofs.Common.{◌∙◌, arith}
use Rattle.builder.proofs.Levels.{fits}
use Rattle.builder.proofs.Reach.{before, nodes-leaf, nodes-over, over-few}
use Rattle.builder.proofs.size.nodes_of.Goals as goal

pub returns-then-v-eq0 : goal.returns-then-v-eq0
returns-then-v-eq0 c =
    let (N, p, K) = c.requires in
    c.leaf.ensures.0 ∙ nodes-leaf _ _ N p K c.if-v-eq0.true

pub overflow_sub-n : goal.overflow_sub-n
overflow_sub-n c =
    let (N, p, K) = c.requires in
    omega (arith, (fits _ _ N p K).power-low.1)

pub size_over-requires : goal.size_over-requires
size_over-requires c =
    let (N, p, K) = c.requires in
    let (some, few, higher) = over-few _ _ N p K _ (before _ c.if-v-eq0.false) in
    (record { least = N.least; most = N.most; few = omega (arith, N.few) }, some, omega (arith, few, N.few), omega (arith, higher, N.few))

pub returns : goal.returns
returns c =
    let (N, p, K) = c.requires in
    rw (← nodes-over _ _ N p K _ (before _ c.if-v-eq0.false), ← (fits _ _ N p K).last) c.size_over.ensures
