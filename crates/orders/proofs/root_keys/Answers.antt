-- The root is an inner node in its place, and what is passed below it is certified.
use Rattle.std.proofs.Common.{◌≡◌, true, ℕ, ◌-◌, ◌%◌, ◌≤◌, List, length, refl, sym, ap, subst, ◌∙◌, arith, None}
use Rattle.format.specs.declared.Layout.{Layout as NamedLayout}
use Rattle.format.specs.Layout.{layout_of, entries_in_range, nested, pointer, record_size, record_align}
use Rattle.format.specs.Bytes.{le_at}
use Rattle.format.specs.Check.{root, recorded}
use Rattle.format.proofs.Laws.Numbers.Widths.{in-range}
use Rattle.numbers.specs.Numbers.{InnerBack}
use Rattle.ordered.specs.Order.{KeysBelow}
use Rattle.ordered.proofs.Order.{certified-below}
use Rattle.orders.proofs.root_keys.Goals as goal

-- The record's place.
place : (l : NamedLayout) (s : List ℕ) (n : ℕ) → n ≡ record_size (layout_of l) → length s - n ≡ root (layout_of l) s
unfolding root
place l s n e = ap (λ (n : ℕ). length s - n) e

pub returns : goal.returns
unfolding nested recorded
returns c =
    let l = c.args.layout in
    let L = layout_of l in
    let s = c.args.archive.now in
    let f = length s - c.record-record.result in
    let p = c.in_ok-p.p in
    let left = c.args.depth - 3 in
    let count = c.uint_at-count.result in
    let last = c.node_at-root.result.last in
    let root_is : f ≡ root L s = place l s c.record-record.result c.record-record.ensures.0 in
    let even : root L s % record_align L ≡ 0 =
    subst (λ (g : ℕ). g % record_align L ≡ 0) root_is (subst (λ (w : ℕ). f % w ≡ 0) c.pointer-w.ensures.0 c.if-at-w-ne0.false) in
    let range : entries_in_range L ≡ true = in-range L c.requires.0 c.requires.1 in
    let room : record_size L ≤ length s = omega (arith, c.if-length-record.false, c.record-record.ensures.0) in
    let inner : InnerBack L s (root L s) p = subst (λ (g : ℕ). InnerBack L s g p) root_is c.in_ok-p.ensures in
    let below : KeysBelow L s left 0 p None count last =
    subst (λ (m : ℕ). KeysBelow L s left 0 p None m last) c.if-root-count.false (c.node_at-root.ensures (omega (arith, c.if-root-eq0.false))) in
    λ M same-depth short.
    let e : left ≡ nested M - 1 = omega arith in
    certified-below L s M (sym (c.uint_at-count.ensures.0 ∙ ap (le_at (pointer L) s) (omega (arith, root_is, c.pointer-w.ensures.0))))
    (omega (arith, below.below.all, c.requires.0))
    inner.to range short room even (omega (arith, c.requires.2)) inner.aligned inner.inner refl inner.room
    (subst (λ (d : ℕ). KeysBelow L s d 0 p None count last) e below)
