-- The checksum of bytes. Assumes nothing: these are definitions.
use Rattle.std.specs.Prelude.{ℕ, ◌+◌, ◌*◌, ◌%◌, List, [], ◌∷◌}

-- One digit more, in base 1,000,003 and modulo the largest prime below 2^32.
unfoldable pub step : ℕ → ℕ → ℕ
step r b = (r * 1000003 + b) % 4294967291

-- The remainder of a number that goes on with these digits, where r is what the digits before them give.
unfoldable pub checksum_from : ℕ → List ℕ → ℕ
checksum_from r [] = r
checksum_from r (b ∷ bs) = checksum_from (step r b) bs

abbrev pub checksum : List ℕ → ℕ
checksum bs = checksum_from 0 bs
