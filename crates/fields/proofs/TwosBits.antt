-- std's two's complement is the format's, at every width. Assumes nothing.
use Rattle.std.proofs.Common.{◌≡◌, refl, ◌^◌}
use Rattle.std.specs.Prelude.{ℕ, ℤ, pos, negsuc, Bool, true, false}
use lib.Dec.{ltb}
use mir.Syntax.{Width}
use mir.Val.{Fits, hbits, sel, to_z, of_z}
use mir.ValLaws.{bits-suc}
use mir.Facts.{of_z-to_z}
use Rattle.format.specs.Signed.{twos, of_twos}

pub bits_are : (w : Width) (z : ℤ) → of_z w z ≡ twos (hbits w) z
unfolding twos
bits_are w (pos n) = refl
bits_are w (negsuc n) = rw bits-suc refl

chosen : (b : Bool) (x y : ℤ) → sel b x y ≡ elim b [ true ↦ x | false ↦ y ]
chosen true x y = refl
chosen false x y = refl

pub signed_is : (w : Width) (n : ℕ) → Fits w n → to_z w (of_z w (to_z w n)) ≡ of_twos (hbits w) n
unfolding of_twos
signed_is w n f = rw (of_z-to_z f, bits-suc) (chosen (ltb n (2 ^ hbits w)) _ _)
