-- The bits of x or y are the definition's, by each packing.
use Rattle.std.proofs.Common.{sym, ap, ◌∙◌}
use mir.Facts.{to_z-of_z}
use Rattle.format.specs.declared.Packing.{Packing}
use Rattle.format.specs.Key.{bits_of}
use Rattle.perimetry.proofs.Shifted.{byte-is}
use Rattle.perimetry.proofs.degrees.bits_of.Goals as goal

pub returns-in-TwosComplement : goal.returns-in-TwosComplement
unfolding bits_of
returns-in-TwosComplement c =
    c.bits8.ensures ∙ rw (to_z-of_z c.ranges.degrees) (sym (ap (λ (P : Packing). bits_of P c.args.degrees) c.in-TwosComplement.is))

pub returns-in-Plus128 : goal.returns-in-Plus128
returns-in-Plus128 c = byte-is c.ranges.degrees ∙ sym (ap (λ (P : Packing). bits_of P c.args.degrees) c.in-Plus128.is)
