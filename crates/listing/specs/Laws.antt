-- What follows from the definitions for an input that is too long. Assumes nothing.
use Rattle.std.specs.Prelude.{ℕ, ◌<◌, ◌≡◌, List, [], ◌∷◌, length, take}
use Rattle.std.proofs.Common.{sym, ap, ◌∙◌, arith, lt-ltb, take_all, length-take-le}
use Rattle.std.proofs.Math.Decide.{dec_lt}
use Rattle.text.specs.Decimal.{decimal}
use Rattle.listing.specs.Listing.{printed}

-- `refused 1` in ASCII, with its line's end.
pub too_long : (s : List ℕ) → 65536 < length s → printed s ≡ 114 ∷ 101 ∷ 102 ∷ 117 ∷ 115 ∷ 101 ∷ 100 ∷ 32 ∷ 49 ∷ 10 ∷ []
unfolding decimal printed
too_long s h = rw (lt-ltb 65536 (length s) h)

-- The text depends on the first 65,537 bytes only.
pub first-bytes : (s : List ℕ) → printed (take 65537 s) ≡ printed s
first-bytes s = go (dec_lt 65536 (length s))
  where
    go : Dec (65536 < length s) → printed (take 65537 s) ≡ printed s
    go (yes l) = too_long (take 65537 s) (omega (arith, length-take-le 65537 s (omega arith))) ∙ sym (too_long s l)
    go (no l) = ap printed (take_all 65537 s (omega arith))
