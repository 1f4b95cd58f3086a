-- The offset of a child by the code's own numbers, at every width, and the fields of the lesser children. Assumes nothing.
use Rattle.std.specs.Prelude.{Option, Some, None}
use mathlib.Core.Path.{◌≡◌, refl, sym, ap, ◌∙◌}
use mathlib.Core.List.{List}
use Prim.Native.Nat.{ℕ, suc, ◌+◌, ◌-◌, ◌/◌, ◌%◌, ◌^◌, ◌<◌, ◌≤◌}
use native.Mathlib.Decide.{dec_lt}
use native.Mathlib.Omega.{arith}
use lib.Dec.{lit≤}
use lib.IntN.{ℤ, pos, negsuc}
use lib.ListN.{length, get_or, drop}
use lib.Seq.{drop-cons}
use lib.Signed.{mag}
use Rattle.format.specs.Layout.{Width, two, four, eight, Layout, bytes, sign_bits, pointer}
use Rattle.format.specs.declared.Position.{Position}
use Rattle.format.specs.Bytes.{le_bytes, put}
use Rattle.format.specs.Signed.{twos}
use Rattle.format.specs.RelPtr.{fit_signed, signed_offset}
use Rattle.format.specs.Tree.{emplaced, offset_bytes, lesser_bytes}
use Rattle.format.proofs.Laws.Build.BytesAt.{absent-fits}
use Rattle.format.proofs.Laws.Numbers.Bytes.{le_bytes-mod, length-le_bytes}
use Rattle.format.proofs.Laws.Numbers.RelPtr.{offset-ahead, offset-behind, fits_gives, fits_refused, stored-given, stored-15}
use Rattle.nodes.specs.declared.inline_vec.Slot.{Slot}
use Rattle.nodes.specs.Nodes.{child_at, lessers}
use Rattle.nodes.proofs.Runs.{put_then}

-- The farthest distance that fits is half of the width's largest number.
pub half : (w : Width) → ((2 ^ suc (sign_bits w) - 1) / 2 + 1 ≡ 2 ^ sign_bits w) × (1 < 2 ^ sign_bits w) × (2 ^ sign_bits w ≤ 2 ^ 63)
half two = (refl, lit≤ tt, lit≤ tt)
half four = (refl, lit≤ tt, lit≤ tt)
half eight = (refl, lit≤ tt, lit≤ tt)

low : (a x y : ℕ) → x % 256 ^ a ≡ y → le_bytes a x ≡ le_bytes a y
low a x y e = sym (le_bytes-mod a x) ∙ ap (le_bytes a) e

-- The low bytes of a negative offset do not depend on how many more there are.
low-bytes : (w : Width) (b : ℕ) → b < 2 ^ sign_bits w → le_bytes (bytes w) (0xffff_ffff_ffff_ffff - b) ≡ le_bytes (bytes w) (2 ^ suc (sign_bits w) - suc b)
low-bytes two b h = low 2 _ _ (omega arith)
low-bytes four b h = low 4 _ _ (omega arith)
low-bytes eight b h = low 8 _ _ (omega arith)

pub offset-none : (L : Layout) (f : ℕ) → f < 2 ^ 63 → le_bytes (pointer L) 1 ≡ offset_bytes L f None
unfolding twos
offset-none L f l = sym (ap (emplaced L) (absent-fits (sign_bits L.width) f (half L.width).1 (omega arith)))

-- The field at f, a child at q, and the width's largest number m.
module _ (L : Layout) (f q m : ℕ) (all : m ≡ 2 ^ suc (sign_bits L.width) - 1) where
  limit : m / 2 + 1 ≡ 2 ^ sign_bits L.width
  limit = rw all (half L.width).0

  abbrev At-q : Option Position
  At-q = Some (record { 0 = q })

  fits : (z : ℤ) → signed_offset f q ≡ fit_signed 63 15 z → mag z ≤ m / 2
      → le_bytes (pointer L) (twos (sign_bits L.width) z) ≡ offset_bytes L f At-q
  fits z e h =
      let near : mag z < 2 ^ sign_bits L.width = omega (arith, limit, h) in
      let given = e ∙ fits_gives 63 15 z (omega (arith, near, half L.width)) in
      rw (stored-given (sign_bits L.width) f q z given, fits_gives (sign_bits L.width) 16 z near)

  refused : (z : ℤ) → signed_offset f q ≡ fit_signed 63 15 z → m / 2 < mag z → le_bytes (pointer L) 0 ≡ offset_bytes L f At-q
  refused z e h = elim (dec_lt (mag z) (2 ^ 63)) [
    | yes l ↦ rw (
      stored-given (sign_bits L.width) f q z (e ∙ fits_gives 63 15 z l),
      fits_refused (sign_bits L.width) 16 z (omega (arith, limit, h)),
    )
    | no g ↦ rw (stored-15 (sign_bits L.width) f q 15 (e ∙ fits_refused 63 15 z (omega arith)))
  ]

  module _ (ahead : f ≤ q) where
    to : signed_offset f q ≡ fit_signed 63 15 (pos (q - f))
    to = offset-ahead f q ahead

    pub ahead-far : m / 2 < q - f → le_bytes (pointer L) 0 ≡ offset_bytes L f At-q
    ahead-far h = refused (pos (q - f)) to h

    pub ahead-near : q - f ≤ m / 2 → le_bytes (pointer L) (q - f) ≡ offset_bytes L f At-q
    unfolding twos
    ahead-near h = fits (pos (q - f)) to h

  module _ (behind : q < f) where
    back : signed_offset f q ≡ fit_signed 63 15 (negsuc (f - q - 1))
    back = offset-behind f q behind

    pub behind-far : m / 2 < f - q - 1 → le_bytes (pointer L) 0 ≡ offset_bytes L f At-q
    behind-far h = refused (negsuc (f - q - 1)) back h

    pub behind-near : f - q - 1 ≤ m / 2 → le_bytes (pointer L) (0xffff_ffff_ffff_ffff - (f - q - 1)) ≡ offset_bytes L f At-q
    unfolding twos
    behind-near h = low-bytes L.width (f - q - 1) (omega (arith, limit, h)) ∙ fits (negsuc (f - q - 1)) back h

-- ---- the fields of the lesser children

-- A field is written: what is left to write is what was left.
pub lesser-step : (L : Layout) (out : List ℕ) (ss : List Slot) (f e j v w : ℕ) (d : Slot) {o r : List ℕ} → e ≡ length ss → j < e → w ≡ pointer L
    → le_bytes (pointer L) v ≡ offset_bytes L f (child_at (get_or ss j d).lesser) → o ≡ put out f (le_bytes (pointer L) v)
    → put out f (lesser_bytes L f (e - j) (lessers (drop j ss))) ≡ r → put o (f + w) (lesser_bytes L (f + w) (e - (j + 1)) (lessers (drop (j + 1) ss))) ≡ r
lesser-step L out ss f e j v w d el h ew ev eo g =
    let b : e - j ≡ suc (e - suc j) = omega arith in
    let c : j + 1 ≡ suc j = omega arith in
    rw (c, ew, eo)
    (sym (put_then out f (pointer L) (le_bytes (pointer L) v) _ (length-le_bytes _ v)) ∙ rw (b, drop-cons ss j d (omega arith), ← ev) at g)
