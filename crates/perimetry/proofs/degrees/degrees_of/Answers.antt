-- The degrees of x or y are the definition's, by each packing.
use mathlib.Core.Path.{◌∙◌, sym, ap}
use borrow.Author.Rules.{sfits_of}
use mir.Syntax.{w8}
use mir.Facts.{to_z-of_z}
use Rattle.format.specs.declared.Packing.{Packing}
use Rattle.format.specs.Key.{degrees_of}
use Rattle.perimetry.proofs.Shifted.{degrees-are}
use Rattle.perimetry.proofs.degrees.degrees_of.Goals as goal

pub returns-in-TwosComplement : goal.returns-in-TwosComplement
unfolding degrees_of
returns-in-TwosComplement c =
    to_z-of_z {w = w8} (sfits_of c.signed8.type_inv) ∙ c.signed8.ensures
    ∙ sym (ap (λ (P : Packing). degrees_of P c.args.bits) c.in-TwosComplement.is)

pub returns-in-Plus128 : goal.returns-in-Plus128
returns-in-Plus128 c =
    degrees-are c.args.bits c.ranges.bits.fits ∙ sym (ap (λ (P : Packing). degrees_of P c.args.bits) c.in-Plus128.is)
