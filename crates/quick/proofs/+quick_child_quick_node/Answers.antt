-- A child is absent, a leaf or an inner node in its place, and an inner node's children are passed one after the other.
use Rattle.std.proofs.Common.{◌≡◌, ℕ, ◌+◌, ◌*◌, refl, sym, ap, ◌∙◌, arith}
use Rattle.format.specs.Layout.{leaf_size}
use Rattle.quick.specs.Sizes.{numbered}
use Rattle.quick.proofs.Passing.{absent-child, leaf-child, inner-child, SoFar, one-passed}
use Rattle.quick.proofs.Numbered.{leaf-is, child-is}
use Rattle.quick.proofs.+quick_child_quick_node.Goals as goal

pub quick_child-returns-then-number_at-eq1 : goal.quick_child-returns-then-number_at-eq1
quick_child-returns-then-number_at-eq1 g t c = absent-child _ _ _ _ _ c.args.depth (sym c.number_at.ensures.0 ∙ c.if-number_at-eq1.true)

pub quick_child-returns-then-archive-p-eq0 : goal.quick_child-returns-then-archive-p-eq0
quick_child-returns-then-archive-p-eq0 g t c =
    let L = numbered g.row.W g.row.E in
    let p = c.in_ok-p.p in
    let at = c.in_ok-p.ensures in
    let ends : p + (8 + 16 * g.row.E) + 8 ≡ p + leaf_size L = omega (arith, leaf-is L) in
    leaf-child _ _ _ _ _ at.0 at.1 at.3 c.args.depth c.requires.5 c.if-archive-p-eq0.true ends c.if-end-after.false
    c.number_at-entries.ensures.0 c.if-entries.false

pub quick_child-returns : goal.quick_child-returns
quick_child-returns g t c =
    let at = c.in_ok-p.ensures in
    inner-child _ _ _ _ _ at.0 at.1 at.3 (omega arith)
    (ap (λ (n : ℕ). c.in_ok-p.p + n) c.inner_of.ensures.0) c.if-end-next.false c.args.depth c.requires.5 c.in_ok-entries.ensures

pub quick_node-overflow_add-total : goal.quick_node-overflow_add-total
quick_node-overflow_add-total g t c =
    let a = c.args in
    let field = child-is g.row.W g.row.E a.at c.loop-i.i c.requires.0.wide in
    let child = c.in_ok-child.child in
    let w : SoFar (numbered g.row.W g.row.E) a.archive.now a.depth a.at a.start (c.loop-i.i + 1) child.next (c.loop-i.total + child.entries) =
    one-passed _ _ _ _ _ c.loop-i.invariant.4 (rw field at c.in_ok-child.ensures) (omega arith) in
    let few = w.few in
    let low = w.low in
    omega arith

pub quick_node-loop-i-preserved : goal.quick_node-loop-i-preserved
quick_node-loop-i-preserved g t c =
    let a = c.args in
    let field = child-is g.row.W g.row.E a.at c.loop-i.i c.requires.0.wide in
    let child = c.in_ok-child.child in
    let w : SoFar (numbered g.row.W g.row.E) a.archive.now a.depth a.at a.start (c.loop-i.i + 1) child.next (c.loop-i.total + child.entries) =
    one-passed _ _ _ _ _ c.loop-i.invariant.4 (rw field at c.in_ok-child.ensures) (omega arith) in
    (omega arith, w.low, w.few, refl, w)
