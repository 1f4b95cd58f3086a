-- Numbers as decimal digits in ASCII. Document 01, "Program `fieldlist`". Assumes nothing: these are definitions.
use Rattle.std.specs.Prelude.{ℕ, zero, suc, ◌+◌, ◌/◌, ◌%◌, cond, List, [], ◌∷◌, ◌++◌, ltb}

-- "decimal": n in ASCII digits with no zero in front, where n has at most f + 1 digits.
abbrev pub decimal_of : ℕ → ℕ → List ℕ
decimal_of zero n = (48 + n % 10) ∷ []
decimal_of (suc f) n = cond (ltb n 10) ((48 + n % 10) ∷ []) (decimal_of f (n / 10) ++ ((48 + n % 10) ∷ []))

-- A 64-bit number has at most 20 digits.
unfoldable pub decimal : ℕ → List ℕ
decimal n = decimal_of 19 n
