-- The leaves right before the node are passed one after the other: they are all its children.
use Rattle.std.proofs.Common.{◌≡◌, ℕ, suc, ◌+◌, ◌-◌, ◌*◌, ◌<◌, ◌≤◌, length, ap, subst, mul-suc, mul-le-mul, arith}
use Rattle.format.specs.Layout.{leaf_size}
use Rattle.format.specs.Readable.{LeadsTo}
use Rattle.quick.specs.Sizes.{width_for, numbered}
use Rattle.quick.proofs.Passing.{leaf-child, SoFar, none_passed, one-passed, all-passed}
use Rattle.quick.proofs.Numbered.{big, leaf-is, leads-by, child-is, field-near, fields_fit, leaves-even}
use Rattle.quick.proofs.quick_leaves.Goals as goal

pub loop-i-init : goal.loop-i-init
loop-i-init g c =
    let e = g.row.E in
    let all : (16 + 16 * e) * (e + 1 - 0) ≡ (16 + 16 * e) * (e + 1) = ap (λ (n : ℕ). (16 + 16 * e) * n) (omega arith) in (
      omega arith,
      omega arith,
      omega (arith, leaves-even e (e + 1), c.requires.1),
      c.args.start,
      omega arith,
      λ d some. none_passed _ _ _ _ _ c.requires.3,
    )

pub overflow_add-total : goal.overflow_add-total
overflow_add-total g c = let few = (c.loop-i.invariant.5 1 (omega arith)).few in omega arith

pub loop-i-preserved : goal.loop-i-preserved
loop-i-preserved g c =
    let w = g.row.W in
    let e = g.row.E in
    let a = c.args in
    let i = c.loop-i.i in
    let p = c.loop-i.p in
    let L = numbered w e in
    let leaf = 16 + 16 * e in
    let left : e + 1 - i ≡ suc (e - i) = omega arith in
    let step : leaf * (e + 1 - i) ≡ leaf * (e - i) + leaf = rw left (mul-suc leaf (e - i)) in
    let rest : leaf * (e + 1 - (i + 1)) ≡ leaf * (e - i) = ap (λ (n : ℕ). leaf * n) (omega arith) in
    let far : leaf * (e + 1 - i) ≤ 256 * 16 = mul-le-mul {n₁ = leaf} {m₁ = e + 1 - i} {n₂ = 256} {m₂ = 16} (omega arith) (omega arith) in
    let field = a.at + (8 + 16 * e) + w * i in
    let ones = c.ones.result in
    let held : field + w ≤ length a.archive.now = field-near _ _ _ i _ c.requires.0.wide c.requires.2 (omega arith) in
    let few : w * i ≤ 128 = fields_fit w i c.requires.0.wide (omega arith) in
    let near : field < p + 5000 = omega arith in
    let many : 0xffff ≤ ones = omega (arith, c.ones.ensures, big (width_for w)) in
    let is : field - 1 - (ones - c.number_at.result) ≡ p = omega (arith, c.if-number_at-ones.false) in
    let to : LeadsTo L a.archive.now field p =
    subst (LeadsTo L a.archive.now field) is (leads-by L _ _ _ _ c.number_at.ensures.0 c.number_at.ensures.1 c.ones.ensures
    (omega (arith, c.if-number_at-ones.false)) (omega (arith, c.if-number_at-ones.false))) in
    let ends : p + leaf ≡ p + leaf_size L = omega (arith, leaf-is L) in
    let same = child-is w e a.at i c.requires.0.wide in
    let passed : (d : ℕ) → 0 < d → SoFar L a.archive.now d a.at a.start (i + 1) (p + leaf) (c.loop-i.total + c.number_at-count.result) =
    λ d some. one-passed _ _ _ _ _ (c.loop-i.invariant.5 d some)
    (rw same at (leaf-child L a.archive.now _ a.at field to c.loop-i.invariant.4 c.loop-i.invariant.2 d some c.if-archive-p-ne0.false ends
    (omega arith) c.number_at-count.ensures.0 c.if-count.false)) (omega arith) in
    (omega arith, omega arith, omega (arith, c.loop-i.invariant.2), p + leaf, omega arith, passed)

pub returns : goal.returns
returns g c = λ d some. all-passed _ _ _ _ _ (c.loop-i.invariant.5 d some) (omega arith)
