-- `offsets::rel_ptr::from_isize` takes what fits 32 bits.
use mir.Facts.{to_z-of_z}
use Rattle.format.specs.declared.Refusal.TheVariants.{OffsetOverflow}
use Rattle.offsets.proofs.Offsets.{there-if-it-fits, converted}
use Rattle.offsets.proofs.rel_ptr.from_isize.Goals as goal

pub returns : goal.returns
returns c =
    let k = converted _ _ c.try_from.result (rw (to_z-of_z c.ranges.z) at c.try_from.ensures) in
    rw (c.ok_or.ensures.value, c.ok.ensures.value) (there-if-it-fits 31 c.args.z OffsetOverflow _ (λ p. p.sfits) (λ l. record { sfits = l }) k)
