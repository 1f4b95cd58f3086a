-- `offsets::rel_ptr::signed_offset` gives what fits 64 bits.
use Rattle.std.proofs.Math.IntN.{sub_ℕ}
use Rattle.format.specs.declared.Refusal.TheVariants.{IsizeOverflow}
use Rattle.format.specs.RelPtr.{signed_offset}
use Rattle.offsets.proofs.Offsets.{there-if-it-fits, difference}
use Rattle.offsets.proofs.rel_ptr.signed_offset.Goals as goal

pub returns : goal.returns
unfolding signed_offset
returns c =
    let k = rw (difference c.args.to c.args.from) at c.checked_signed_diff.ensures in
    rw c.ok_or.ensures.value (there-if-it-fits 63 (sub_ℕ c.args.to c.args.from) IsizeOverflow _ (λ p. p.sfits) (λ l. record { sfits = l }) k)
