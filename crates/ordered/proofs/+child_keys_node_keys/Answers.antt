-- A child is absent, a leaf or an inner node in its place, with its keys in order, and an inner node's children are passed one after the other.
use Rattle.std.proofs.Common.{◌≡◌, ℕ, ◌+◌, ◌*◌, refl, sym, ap, ◌∙◌, arith, Some}
use Rattle.std.proofs.lemmas.Option.{IfSome_then}
use Rattle.format.specs.Layout.{leaf_size}
use Rattle.quick.specs.Sizes.{numbered}
use Rattle.quick.proofs.Numbered.{leaf-is, child-is}
use Rattle.ordered.proofs.Order.{absent-keys, leaf-answer, inner-keys, KeysSoFar, more-keys, first-there, below-keys, last-there}
use Rattle.ordered.proofs.+child_keys_node_keys.Goals as goal

pub child_keys-returns-then-number_at-eq1 : goal.child_keys-returns-then-number_at-eq1
child_keys-returns-then-number_at-eq1 g t c =
    rw c.in_ok-before.was (absent-keys _ _ _ _ _ c.args.depth _ (sym c.number_at.ensures.0 ∙ c.if-number_at-eq1.true))

pub child_keys-returns-then-archive-p-eq0 : goal.child_keys-returns-then-archive-p-eq0
child_keys-returns-then-archive-p-eq0 g t c =
    let a = c.args in
    let L = numbered g.row.W g.row.E in
    let at = c.in_ok-p.ensures in
    let ends : c.in_ok-p.p + (16 + 16 * g.row.E) ≡ c.in_ok-p.p + leaf_size L = omega (arith, leaf-is L) in
    IfSome_then c.leaf_keys.result c.leaf_keys.ensures
    (leaf-answer L _ a.start a.end a.field a.before at.0 at.1 at.3 a.depth c.requires.5 c.if-archive-p-eq0.true (omega (arith, ends, c.if-end-p.false)))

pub child_keys-returns : goal.child_keys-returns
child_keys-returns g t c =
    let at = c.in_ok-p.ensures in
    inner-keys _ _ _ _ _ _ at.0 at.1 at.3 c.args.depth c.requires.5 c.if-archive-p-ne1.false
    (ap (λ (n : ℕ). c.in_ok-p.p + n) c.inner_of.ensures.0) c.if-end-next.false (c.node_keys-below.ensures (omega arith))

pub node_keys-overflow_add-entries : goal.node_keys-overflow_add-entries
node_keys-overflow_add-entries g t c =
    let a = c.args in
    let field = child-is g.row.W g.row.E a.at c.loop-i.i c.requires.0.wide in
    let child = c.in-Some.passed in
    let w : KeysSoFar (numbered g.row.W g.row.E) a.archive.now a.depth a.at a.start a.before (c.loop-i.i + 1) child.next
    (c.loop-i.entries + child.entries) (Some c.in-Some-next_key.greatest) =
    more-keys _ _ _ _ _ _ c.loop-i.invariant.4 (rw field at c.in-Some.ensures) c.in-Some-next_key.ensures (omega arith) in
    let few = w.passed.few in
    let low = w.passed.low in
    omega arith

pub node_keys-loop-i-preserved : goal.node_keys-loop-i-preserved
node_keys-loop-i-preserved g t c =
    let a = c.args in
    let field = child-is g.row.W g.row.E a.at c.loop-i.i c.requires.0.wide in
    let child = c.in-Some.passed in
    let w : KeysSoFar (numbered g.row.W g.row.E) a.archive.now a.depth a.at a.start a.before (c.loop-i.i + 1) child.next
    (c.loop-i.entries + child.entries) (Some c.in-Some-next_key.greatest) =
    more-keys _ _ _ _ _ _ c.loop-i.invariant.4 (rw field at c.in-Some.ensures) c.in-Some-next_key.ensures (omega arith) in
    (omega arith, w.passed.low, w.passed.few, refl, w)

pub node_keys-unwrap-requires : goal.node_keys-unwrap-requires
node_keys-unwrap-requires g t c = last-there _ _ _ _ _ _ c.loop-i.invariant.4 (omega arith)

pub node_keys-returns : goal.node_keys-returns
node_keys-returns g t c =
    λ some. below-keys _ _ _ _ _ _ c.loop-i.invariant.4 (omega arith) c.unwrap.ensures
    (first-there _ _ _ _ c.number_at.ensures.0 (omega arith))
