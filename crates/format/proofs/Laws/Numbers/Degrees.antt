-- Laws of x and y as bits: for both packings that bits and degrees undo each other, and which x stand between two others by their bits. Bits that are
-- plus 128 stand in the order of the degrees. Assumes nothing.
use Rattle.std.specs.Prelude.{ℕ, suc, ◌+◌, ◌-◌, ◌/◌, ◌%◌, ◌≤◌, ◌<◌, ◌≡◌, refl, Bool, true, false, cond, ◌&&◌, ◌||◌, ◌↔◌, leb, ltb, ℤ, pos, negsuc}
use Rattle.std.specs.Prelude.{nat_abs, ◌+ℤ◌, ◌<ℤ◌}
use Rattle.std.proofs.Common.{sym, ap, ap₂, ◌∙◌, arith, ltb→lt, lt→ltb, leb-true, le-leb, lt-ltb, le-ltb}
use Rattle.std.proofs.Math.Decide.{dec_lt}
use Rattle.std.specs.Int.Signed.{le_z, non_neg}
use Rattle.std.proofs.lemmas.Bool.{lt-leb}
use Rattle.format.specs.declared.Packing.{Packing}
use Rattle.format.specs.declared.Packing.TheVariants.{TwosComplement, Plus128}
use Rattle.format.specs.Signed.{twos}
use Rattle.format.specs.Key.{Degrees, bits_of, degrees_of}
use Rattle.format.specs.Column.{takes}
use Rattle.format.proofs.Laws.Numbers.Tests.{both_ways, second-fails}
use Rattle.format.proofs.Laws.Numbers.Signed.{twos-lt, of_twos-low, of_twos-high, of_twos-twos, twos-of_twos}

-- ---- plus 128, by the sign

plus-pos : (n : ℕ) → bits_of Plus128 (pos n) ≡ n + 128
unfolding bits_of
plus-pos n = refl

sum-neg : (n : ℕ) → n < 128 → negsuc n +ℤ pos 128 ≡ pos (128 - suc n)
sum-neg n h = ap (λ (c : Bool). cond c (negsuc (suc n - suc 128)) (pos (128 - suc n))) (le-ltb 128 (suc n) (omega arith))

plus-neg : (n : ℕ) → n < 128 → bits_of Plus128 (negsuc n) ≡ 128 - suc n
unfolding bits_of
plus-neg n h = ap nat_abs (sum-neg n h)

pub plus-stored : (z : ℤ) → Degrees z → pos (bits_of Plus128 z) ≡ z +ℤ pos 128
plus-stored (pos n) h = ap pos (plus-pos n)
plus-stored (negsuc n) h = ap pos (plus-neg n h) ∙ sym (sum-neg n h)

less-low : (n : ℕ) → n < 128 → degrees_of Plus128 n ≡ negsuc (128 - suc n)
unfolding degrees_of
less-low n h = ap (λ (c : Bool). cond c (negsuc (128 - suc n)) (pos (n - 128))) (lt-ltb n 128 h)

less-high : (n : ℕ) → 128 ≤ n → degrees_of Plus128 n ≡ pos (n - 128)
unfolding degrees_of
less-high n h = ap (λ (c : Bool). cond c (negsuc (128 - suc n)) (pos (n - 128))) (le-ltb n 128 h)

-- ---- bits and degrees undo each other

pub bits-lt : (P : Packing) (z : ℤ) → Degrees z → bits_of P z < 256
unfolding bits_of
bits-lt TwosComplement z h = twos-lt 7 z h
bits-lt Plus128 (pos n) h = omega arith
bits-lt Plus128 (negsuc n) h = omega (arith, plus-neg n h)

pub degrees-bits : (P : Packing) (z : ℤ) → Degrees z → degrees_of P (bits_of P z) ≡ z
unfolding bits_of degrees_of
degrees-bits TwosComplement z h = of_twos-twos 7 z h
degrees-bits Plus128 (pos n) h = less-high (n + 128) (omega arith) ∙ ap pos (omega arith)
degrees-bits Plus128 (negsuc n) h =
    ap (degrees_of Plus128) (plus-neg n h) ∙ less-low (128 - suc n) (omega arith) ∙ ap negsuc (omega arith)

pub bits-degrees : (P : Packing) (n : ℕ) → n < 256 → bits_of P (degrees_of P n) ≡ n
unfolding bits_of degrees_of
bits-degrees TwosComplement n h = twos-of_twos 7 n h
bits-degrees Plus128 n h = elim (dec_lt n 128) [ yes l ↦ low l | no l ↦ high (omega arith) ]
  where
    low : n < 128 → bits_of Plus128 (degrees_of Plus128 n) ≡ n
    low l = ap (bits_of Plus128) (less-low n l) ∙ plus-neg (128 - suc n) (omega arith) ∙ omega arith

    high : 128 ≤ n → bits_of Plus128 (degrees_of Plus128 n) ≡ n
    high l = ap (bits_of Plus128) (less-high n l) ∙ plus-pos (n - 128) ∙ omega arith

pub degrees-fit : (P : Packing) (n : ℕ) → n < 256 → Degrees (degrees_of P n)
unfolding degrees_of
degrees-fit TwosComplement n h = elim (dec_lt n 128) [ yes l ↦ rw (of_twos-low 7 n l) l | no l ↦ rw (of_twos-high 7 n (omega arith)) (omega arith) ]
degrees-fit Plus128 n h = elim (dec_lt n 128) [ yes l ↦ rw (less-low n l) (omega arith) | no l ↦ rw (less-high n (omega arith)) (omega arith) ]

-- ---- the order of the bits

same-order : (a b c d : ℕ) → (a ≤ b → c ≤ d) → (c ≤ d → a ≤ b) → leb a b ≡ leb c d
same-order a b c d f g = both_ways (leb a b) (leb c d) (λ t. le-leb c d (f (leb-true a b t)), λ t. le-leb a b (g (leb-true c d t)))

plus-order : (a b : ℤ) → Degrees a → Degrees b → leb (bits_of Plus128 a) (bits_of Plus128 b) ≡ le_z a b
plus-order (pos m) (pos n) ha hb =
    same-order (bits_of Plus128 (pos m)) (bits_of Plus128 (pos n)) m n (λ l. omega (arith, plus-pos m, plus-pos n)) (λ l. omega (arith, plus-pos m, plus-pos n))
plus-order (pos m) (negsuc n) ha hb = lt-leb (bits_of Plus128 (pos m)) (bits_of Plus128 (negsuc n)) (omega (arith, plus-pos m, plus-neg n hb))
plus-order (negsuc m) (pos n) ha hb = le-leb (bits_of Plus128 (negsuc m)) (bits_of Plus128 (pos n)) (omega (arith, plus-neg m ha, plus-pos n))
plus-order (negsuc m) (negsuc n) ha hb =
    let em = plus-neg m ha in
    let en = plus-neg n hb in
    same-order (bits_of Plus128 (negsuc m)) (bits_of Plus128 (negsuc n)) n m (λ l. omega arith) (λ l. omega arith)

-- The x whose bits are from those of a to those of b are the ones that a query from a to b takes.
pub bits-take : (P : Packing) (a b x : ℤ) → Degrees a → Degrees b → Degrees x
    → (leb (bits_of P a) (bits_of P x) && leb (bits_of P x) (bits_of P b)) ≡ takes P a b x
unfolding bits_of twos takes
bits-take Plus128 a b x ha hb hx = ap₂ ◌&&◌ (plus-order a x ha hx) (plus-order x b hx hb)
bits-take TwosComplement (pos m) (pos n) (pos k) ha hb hx = refl
bits-take TwosComplement (pos m) (pos n) (negsuc k) ha hb hx = second-fails (leb m (256 - suc k)) _ (lt-leb (256 - suc k) n (omega arith))
bits-take TwosComplement (pos m) (negsuc n) (pos k) ha hb hx =
    ap (λ (t : Bool). leb m k && t) (le-leb k _ (omega arith)) ∙ and-or (leb m k)
  where
    and-or : (t : Bool) → t && true ≡ (t || false)
    and-or true = refl
    and-or false = refl
bits-take TwosComplement (pos m) (negsuc n) (negsuc k) ha hb hx =
    ap₂ ◌&&◌ (le-leb m (256 - suc k) (omega arith)) (same-order (256 - suc k) (256 - suc n) n k (λ l. omega arith) (λ l. omega arith))
bits-take TwosComplement (negsuc m) (pos n) (pos k) ha hb hx = ap (λ (t : Bool). t && leb k n) (lt-leb _ k (omega arith))
bits-take TwosComplement (negsuc m) (pos n) (negsuc k) ha hb hx = second-fails (leb (256 - suc m) (256 - suc k)) _ (lt-leb (256 - suc k) n (omega arith))
bits-take TwosComplement (negsuc m) (negsuc n) (pos k) ha hb hx = ap (λ (t : Bool). t && leb k (256 - suc n)) (lt-leb _ k (omega arith))
bits-take TwosComplement (negsuc m) (negsuc n) (negsuc k) ha hb hx =
    ap₂ ◌&&◌ (same-order (256 - suc m) (256 - suc k) k m (λ l. omega arith) (λ l. omega arith))
    (same-order (256 - suc k) (256 - suc n) n k (λ l. omega arith) (λ l. omega arith))

-- The two packings of a number differ in the top bit alone.
pub top_bit : (z : ℤ) → Degrees z
    → (bits_of TwosComplement z % 128 ≡ bits_of Plus128 z % 128) × (bits_of TwosComplement z / 128 + bits_of Plus128 z / 128 ≡ 1)
unfolding bits_of twos
top_bit (pos n) h = (omega arith, omega arith)
top_bit (negsuc n) h = (omega (arith, plus-neg n h), omega (arith, plus-neg n h))

-- Bits that are plus 128 stand as the degrees do.
pub plus-below : (a b : ℤ) → Degrees a → Degrees b → (bits_of Plus128 a < bits_of Plus128 b) ↔ (a <ℤ b)
plus-below (pos m) (pos n) ha hb = (
  λ l. record { lt = lt→ltb m n (omega (arith, plus-pos m, plus-pos n)) },
  λ l. let w = ltb→lt m n l.lt in omega (arith, plus-pos m, plus-pos n),
)
plus-below (pos m) (negsuc n) ha hb = (λ l. absurd (omega (arith, plus-pos m, plus-neg n hb)), λ l. absurd l.lt)
plus-below (negsuc m) (pos n) ha hb = (λ l. record { lt = tt }, λ l. omega (arith, plus-neg m ha, plus-pos n))
plus-below (negsuc m) (negsuc n) ha hb = (
  λ l. record { lt = lt→ltb n m (omega (arith, plus-neg m ha, plus-neg n hb)) },
  λ l. let w = ltb→lt n m l.lt in omega (arith, plus-neg m ha, plus-neg n hb),
)

-- Bits in two's complement are below 128 exactly where the number is from 0 on.
pub twos-side : (n : ℕ) → n < 256 → non_neg (degrees_of TwosComplement n) ≡ ltb n 128
unfolding degrees_of
twos-side n h = elim (dec_lt n 128) [
  | yes l ↦ ap non_neg (of_twos-low 7 n l) ∙ sym (lt-ltb n 128 l)
  | no l ↦ ap non_neg (of_twos-high 7 n (omega arith)) ∙ sym (le-ltb n 128 (omega arith))
]
