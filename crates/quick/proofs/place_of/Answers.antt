-- The offset is negative, and leads as far back as the code goes.
use Rattle.std.proofs.Common.{◌≡◌, ℕ, suc, ◌+◌, ◌-◌, ◌^◌, ◌<◌, ◌≤◌, length, refl, subst, arith}
use Rattle.format.specs.Layout.{server, sign_bits, pointer}
use Rattle.format.specs.Bytes.{le_at}
use Rattle.format.specs.Readable.{LeadsTo}
use Rattle.quick.specs.Sizes.{width_for, numbered}
use Rattle.quick.proofs.Numbered.{big, more-bits, leads-by}
use Rattle.quick.proofs.place_of.Goals as goal
use Rattle.quick.proofs.place_of.Goals.{else-this-eq2-via-then-this-eq2+else-ones-back, else-this-eq2-via-else-this-eq2}

pub returns : goal.returns
unfolding server
returns g c =
    let a = c.args in
    let L = numbered g.row.W g.row.E in
    let ones = 2 ^ suc (sign_bits (width_for g.row.W)) - 1 in
    let x = le_at (pointer L) a.archive.now a.field in
    let back = c.ones.result - c.number_at.result in
    let all : back + x ≡ ones = omega (arith, c.ones.ensures, c.number_at.ensures.0, c.number_at.ensures.1) in
    let many : 0xffff ≤ ones = omega (arith, big (width_for g.row.W)) in
    let is : ones - x ≡ back = omega arith in
    let near : back < a.field - a.start = c.if-field-start.false in
    let short : length a.archive.now ≤ 1048576 = c.requires.3 in
    let negative : back < x =
    elim c.else-this-eq2.branch [
      | else-this-eq2-via-then-this-eq2+else-ones-back w ↦ omega (arith, w.ones-then-this-eq2.ensures, w.if-ones-back.false)
      | else-this-eq2-via-else-this-eq2 w ↦ omega (arith, more-bits (width_for g.row.W) g.row.W c.requires.0.wide w.if-this-eq2.false)
    ]
    in
    let to : LeadsTo L a.archive.now a.field (a.field - 1 - back) =
    subst (λ (b : ℕ). LeadsTo L a.archive.now a.field (a.field - 1 - b)) is
    (leads-by L _ _ x ones refl (omega arith) refl (omega arith) (omega arith)) in
    (to, omega arith, omega arith, c.if-p-ne0.false)
