-- A signed number of 8 bits plus 128, and a byte less 128, by way of 64 bits. Assumes nothing.
use Prim.Native.Nat.{ℕ, ◌<◌}
use mathlib.Core.Path.{◌≡◌, sym, ap, subst, ◌∙◌}
use native.Mathlib.Omega.{arith}
use borrow.Author.Rules.{sfits_of}
use lib.Dec.{lit<}
use lib.IntN.{ℤ, nat_abs, ◌+ℤ◌, ◌-ℤ◌, pos}
use mir.Syntax.{w8, w64}
use mir.Val.{SFits, to_z, of_z}
use mir.Facts.{to_z_pos, to_z-of_z}
use Rattle.format.specs.declared.Packing.TheVariants.{Plus128}
use Rattle.format.specs.Key.{bits_of, degrees_of}
use Rattle.format.proofs.Laws.Numbers.Degrees.{plus-stored, bits-lt, degrees-fit}
use Rattle.fields.proofs.Widened.{widened}

-- ---- plus 128

module _ {z : ℤ} (f : SFits w8 z) where
  abbrev sum : ℤ
  sum = to_z w64 (of_z w64 (to_z w8 (of_z w8 z))) +ℤ to_z w64 128

  sum_is : sum ≡ pos (bits_of Plus128 z)
  sum_is = ap (λ (y : ℤ). y +ℤ pos 128) (widened (lit< tt) f) ∙ sym (plus-stored z f.sfits)

  pub sum_fits : SFits w64 sum
  sum_fits = subst (SFits w64) (sym sum_is) (sfits_of (omega (arith, bits-lt Plus128 z f.sfits)))

  wide_is : to_z w64 (of_z w64 sum) ≡ pos (bits_of Plus128 z)
  wide_is = to_z-of_z sum_fits ∙ sum_is

  pub byte-is : nat_abs (to_z w64 (of_z w64 sum)) ≡ bits_of Plus128 z
  byte-is = ap nat_abs wide_is

-- ---- less 128

module _ (n : ℕ) (h : n < 256) where
  abbrev difference : ℤ
  difference = to_z w64 n -ℤ to_z w64 128

  difference-is : difference ≡ degrees_of Plus128 n
  unfolding degrees_of
  difference-is = ap (λ (y : ℤ). y -ℤ pos 128) (to_z_pos w64 {n = n} (omega arith))

  fits_8 : SFits w8 (degrees_of Plus128 n)
  fits_8 = sfits_of (degrees-fit Plus128 n h)

  pub difference-fits : SFits w64 difference
  difference-fits = subst (SFits w64) (sym difference-is) (sfits_of (omega (arith, degrees-fit Plus128 n h)))

  narrow-is : to_z w64 (of_z w64 difference) ≡ degrees_of Plus128 n
  narrow-is = to_z-of_z difference-fits ∙ difference-is

  pub narrow-fits : SFits w8 (to_z w64 (of_z w64 difference))
  narrow-fits = subst (SFits w8) (sym narrow-is) fits_8

  pub degrees-are : to_z w8 (of_z w8 (to_z w64 (of_z w64 difference))) ≡ degrees_of Plus128 n
  degrees-are = to_z-of_z narrow-fits ∙ narrow-is
