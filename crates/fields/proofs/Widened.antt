-- A signed number of fewer bits, read as one of 64. Assumes nothing.
use mathlib.Core.Path.{◌≡◌, ◌∙◌}
use Prim.Native.Nat.{◌<◌}
use native.Mathlib.Nat.{lt_of_lt_of_le}
use native.Mathlib.Omega.{arith}
use borrow.Author.Rules.{sfits_of}
use lib.IntN.{ℤ}
use lib.Pow.{pow_mono}
use mir.Syntax.{Width, w64}
use mir.Val.{SFits, hbits, to_z, of_z}
use mir.Facts.{to_z-of_z}

module _ {w : Width} {z : ℤ} (s : hbits w < 63) (f : SFits w z) where
  widened-fits : SFits w64 (to_z w (of_z w z))
  widened-fits = rw (to_z-of_z f) (sfits_of (lt_of_lt_of_le f.sfits (pow_mono {i = hbits w} {j = 63} (omega arith))))

  pub widened : to_z w64 (of_z w64 (to_z w (of_z w z))) ≡ z
  widened = to_z-of_z widened-fits ∙ to_z-of_z f
