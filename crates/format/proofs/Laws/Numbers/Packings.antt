-- The two packings side by side: they differ in the top bits of x and y alone, new keys of one eye stand left to right, and of old ones those with x
-- below 0 stand behind the others. Assumes nothing.
use Rattle.std.specs.Prelude.{ℕ, suc, ◌+◌, ◌-◌, ◌*◌, ◌/◌, ◌%◌, ◌^◌, ◌≤◌, ◌<◌, ◌≡◌, true, false, ◌⊎◌, ◌↔◌, ℤ, ◌<ℤ◌}
use Rattle.std.proofs.Common.{sym, ap, ap₂, subst, ◌∙◌, inl, inr, arith, shr-shr, ltb-true, ltb-false}
use Rattle.std.proofs.Math.Nat.{div-div-eq-div-mul}
use Rattle.std.proofs.Math.Decide.{dec_lt}
use Rattle.std.proofs.Math.Pow.{field, mod-mod-pow}
use Rattle.std.specs.Int.Signed.{non_neg}
use Rattle.format.specs.declared.Packing.TheVariants.{TwosComplement, Plus128}
use Rattle.format.specs.Refusal.{gives}
use Rattle.format.specs.Key.{Degrees, key_of, bits_of, degrees_of, pack_key, fields_of, bit}
use Rattle.format.specs.Column.{OfEye, Before}
use Rattle.format.proofs.Laws.Numbers.Degrees.{bits-lt, bits-degrees, degrees-fit, top_bit, plus-below, twos-side}
use Rattle.format.proofs.Laws.Numbers.Key.{pack-inv}

-- ---- bits of two numbers that agree in a field

bit-low : (d j k : ℕ) → bit j (k % 2 ^ (d + 1 + j)) ≡ bit j k
bit-low d j k = ap (λ (m : ℕ). m % 2) (field k (d + 1) j) ∙ mod-mod-pow (k / 2 ^ j) d 1

bit_high : (i j k : ℕ) → bit (i + j) k ≡ bit j (k / 2 ^ i)
bit_high i j k = ap (λ (m : ℕ). m % 2) (sym (shr-shr k i j))

module _ (k l : ℕ) where
  same_low : (w j : ℕ) → j < w → k % 2 ^ w ≡ l % 2 ^ w → bit j k ≡ bit j l
  same_low w j h e =
      let d = w - suc j in
      let ew : w ≡ d + 1 + j = omega arith in
      sym (bit-low d j k) ∙ ap (bit j) (subst (λ (v : ℕ). k % 2 ^ v ≡ l % 2 ^ v) ew e) ∙ bit-low d j l

  same_above : (m i : ℕ) → m ≤ i → bit (i - m) (k / 2 ^ m) ≡ bit (i - m) (l / 2 ^ m) → bit i k ≡ bit i l
  same_above m i h e =
      let ei : m + (i - m) ≡ i = omega arith in
      subst (λ (v : ℕ). bit v k ≡ bit v l) ei (bit_high m (i - m) k ∙ e ∙ sym (bit_high m (i - m) l))

-- ---- the packings of one point

-- The parts of a key below, between and above the top bits of x and y.
module _ (exam eye x y pres : ℕ) (hx : x < 256) (hy : y < 256) (hp : pres < 2 ^ 23) where
  bit-38 : bit 38 (key_of exam eye x y pres) ≡ x / 128
  bit-38 = omega arith

  bit-30 : bit 30 (key_of exam eye x y pres) ≡ y / 128
  bit-30 = omega arith

  below-30 : key_of exam eye x y pres % 2 ^ 30 ≡ y % 128 * 2 ^ 23 + pres
  below-30 = omega arith

  from-31 : key_of exam eye x y pres / 2 ^ 31 % 2 ^ 7 ≡ x % 128
  from-31 = omega arith

  from-39 : key_of exam eye x y pres / 2 ^ 39 ≡ exam * 2 + eye
  from-39 = omega arith

module _ (exam eye x y x' y' pres : ℕ) (hx : x < 256) (hy : y < 256) (hx' : x' < 256) (hy' : y' < 256) (hp : pres < 2 ^ 23) where
  abbrev old : ℕ
  old = key_of exam eye x y pres

  abbrev new : ℕ
  new = key_of exam eye x' y' pres

  module _ (ex : x % 128 ≡ x' % 128) (tx : x / 128 + x' / 128 ≡ 1) (ey : y % 128 ≡ y' % 128) (ty : y / 128 + y' / 128 ≡ 1) where
    differ-x : bit 38 old + bit 38 new ≡ 1
    differ-x = ap₂ ◌+◌ (bit-38 exam eye x y pres hx hy hp) (bit-38 exam eye x' y' pres hx' hy' hp) ∙ tx

    differ-y : bit 30 old + bit 30 new ≡ 1
    differ-y = ap₂ ◌+◌ (bit-30 exam eye x y pres hx hy hp) (bit-30 exam eye x' y' pres hx' hy' hp) ∙ ty

    same-below : old % 2 ^ 30 ≡ new % 2 ^ 30
    same-below =
        below-30 exam eye x y pres hx hy hp ∙ ap (λ (m : ℕ). m * 2 ^ 23 + pres) ey ∙ sym (below-30 exam eye x' y' pres hx' hy' hp)

    same-middle : old / 2 ^ 31 % 2 ^ 7 ≡ new / 2 ^ 31 % 2 ^ 7
    same-middle = from-31 exam eye x y pres hx hy hp ∙ ex ∙ sym (from-31 exam eye x' y' pres hx' hy' hp)

    same-high : old / 2 ^ 39 ≡ new / 2 ^ 39
    same-high = from-39 exam eye x y pres hx hy hp ∙ sym (from-39 exam eye x' y' pres hx' hy' hp)

    differ : (i : ℕ) → (bit i old ≡ bit i new) ↔ ((i ≡ 38 → ⊥) × (i ≡ 30 → ⊥))
    differ i = (λ e. (λ q. both 38 q e differ-x, λ q. both 30 q e differ-y), λ h. equal h (dec_lt i 30) (dec_lt 30 i) (dec_lt i 38) (dec_lt 38 i))
      where
        both : (m : ℕ) → i ≡ m → bit i old ≡ bit i new → bit m old + bit m new ≡ 1 → ⊥
        both m q e d = let w : bit m old ≡ bit m new = subst (λ (v : ℕ). bit v old ≡ bit v new) q e in omega arith

        equal : (i ≡ 38 → ⊥) × (i ≡ 30 → ⊥) → Dec (i < 30) → Dec (30 < i) → Dec (i < 38) → Dec (38 < i) → bit i old ≡ bit i new
        equal h (yes a) b c d = same_low old new 30 i a same-below
        equal h (no a) (no b) c d = absurd (h.1 (omega arith))
        equal h (no a) (yes b) (yes c) d =
            same_above old new 31 i b (same_low (old / 2 ^ 31) (new / 2 ^ 31) 7 (i - 31) (omega arith) same-middle)
        equal h (no a) (yes b) (no c) (no d) = absurd (h.0 (omega arith))
        equal h (no a) (yes b) (no c) (yes d) = same_above old new 39 i d (ap (bit (i - 39)) same-high)

-- The old key and the new one of a point have the same bits except 38, the top of x, and 30, the top of y, in which they differ.
pub top-bits : (exam eye : ℕ) (x y : ℤ) (pres k l : ℕ) → Degrees x → Degrees y → pack_key TwosComplement exam eye x y pres ≡ gives k
    → pack_key Plus128 exam eye x y pres ≡ gives l → (i : ℕ) → (bit i k ≡ bit i l) ↔ ((i ≡ 38 → ⊥) × (i ≡ 30 → ⊥))
top-bits exam eye x y pres k l hx hy ek el i =
    let (h₁, h₂, h₃, old) = pack-inv TwosComplement exam eye x y pres k ek in
    let (g₁, g₂, g₃, new) = pack-inv Plus128 exam eye x y pres l el in
    let (mx, tx) = top_bit x hx in
    let (my, ty) = top_bit y hy in
    rw (old, new) (differ exam eye (bits_of TwosComplement x) (bits_of TwosComplement y) (bits_of Plus128 x) (bits_of Plus128 y) pres
    (bits-lt TwosComplement x hx) (bits-lt TwosComplement y hy) (bits-lt Plus128 x hx) (bits-lt Plus128 y hy) h₃ mx tx my ty i)

-- ---- the order of the keys of one eye

-- Of two numbers made of fields, the first in which they differ decides.
abbrev BitsBefore : ℕ → ℕ → ℕ → ℕ → ℕ → ℕ → Type 0
BitsBefore x y p x' y' p' = (x < x') ⊎ ((x ≡ x') × ((y < y') ⊎ ((y ≡ y') × (p < p'))))

module _ (h x y p x' y' p' : ℕ) (hx : x < 256) (hy : y < 256) (hp : p < 2 ^ 23) (hx' : x' < 256) (hy' : y' < 256) (hp' : p' < 2 ^ 23) where
  bits-before : h * 2 ^ 39 + x * 2 ^ 31 + y * 2 ^ 23 + p < h * 2 ^ 39 + x' * 2 ^ 31 + y' * 2 ^ 23 + p' → BitsBefore x y p x' y' p'
  bits-before l = go (dec_lt x x') (dec_lt x' x) (dec_lt y y') (dec_lt y' y)
    where
      go : Dec (x < x') → Dec (x' < x) → Dec (y < y') → Dec (y' < y) → BitsBefore x y p x' y' p'
      go (yes a) b c d = inl a
      go (no a) (yes b) c d = absurd (omega arith)
      go (no a) (no b) (yes c) d = inr (omega arith, inl c)
      go (no a) (no b) (no c) (yes d) = absurd (omega arith)
      go (no a) (no b) (no c) (no d) = inr (omega arith, inr (omega arith, omega arith))

  before-bits : BitsBefore x y p x' y' p' → h * 2 ^ 39 + x * 2 ^ 31 + y * 2 ^ 23 + p < h * 2 ^ 39 + x' * 2 ^ 31 + y' * 2 ^ 23 + p'
  before-bits (inl a) = omega arith
  before-bits (inr (a, inl b)) = omega arith
  before-bits (inr (a, inr (b, c))) = omega arith

abbrev x-bits : ℕ → ℕ
x-bits k = k / 2 ^ 31 % 256

abbrev y-bits : ℕ → ℕ
y-bits k = k / 2 ^ 23 % 256

parts : (k : ℕ) → k ≡ k / 2 ^ 39 * 2 ^ 39 + x-bits k * 2 ^ 31 + y-bits k * 2 ^ 23 + k % 2 ^ 23
parts k = omega (arith, div-div-eq-div-mul k (2 ^ 23) 256, div-div-eq-div-mul k (2 ^ 31) 256)

abbrev KeysBefore : ℕ → ℕ → Type 0
KeysBefore k l = BitsBefore (x-bits k) (y-bits k) (k % 2 ^ 23) (x-bits l) (y-bits l) (l % 2 ^ 23)

one-eye : (exam eye k : ℕ) → k / 2 ^ 40 ≡ exam → k / 2 ^ 39 % 2 ≡ eye → k / 2 ^ 39 ≡ exam * 2 + eye
one-eye exam eye k e f = omega (arith, div-div-eq-div-mul k (2 ^ 39) 2)

module _ (exam eye k l : ℕ) (ok : (k / 2 ^ 40 ≡ exam) × (k / 2 ^ 39 % 2 ≡ eye)) (ol : (l / 2 ^ 40 ≡ exam) × (l / 2 ^ 39 % 2 ≡ eye)) where
  keys-before : (k < l) ↔ KeysBefore k l
  keys-before =
      let h = exam * 2 + eye in
      let ek : k ≡ h * 2 ^ 39 + x-bits k * 2 ^ 31 + y-bits k * 2 ^ 23 + k % 2 ^ 23 = rw (one-eye exam eye k ok.0 ok.1) at (parts k) in
      let el : l ≡ h * 2 ^ 39 + x-bits l * 2 ^ 31 + y-bits l * 2 ^ 23 + l % 2 ^ 23 = rw (one-eye exam eye l ol.0 ol.1) at (parts l) in (
        λ t. bits-before h (x-bits k) (y-bits k) (k % 2 ^ 23) (x-bits l) (y-bits l) (l % 2 ^ 23)
            (omega arith) (omega arith) (omega arith) (omega arith) (omega arith) (omega arith) (lt-of-eq ek el t),
        λ t. lt-of-eq (sym ek) (sym el) (before-bits h (x-bits k) (y-bits k) (k % 2 ^ 23) (x-bits l) (y-bits l) (l % 2 ^ 23)
            (omega arith) (omega arith) (omega arith) (omega arith) (omega arith) (omega arith) t),
      )
    where
      lt-of-eq : {a b c d : ℕ} → a ≡ c → b ≡ d → a < b → c < d
      lt-of-eq {a} {b} {c} {d} e f t = subst (λ (n : ℕ). n < d) e (subst (λ (n : ℕ). a < n) f t)

-- Bits that are plus 128, and their degrees, stand in one order and are equal together.
module _ (m n : ℕ) (hm : m < 256) (hn : n < 256) where
  degrees-below : (m < n) ↔ (degrees_of Plus128 m <ℤ degrees_of Plus128 n)
  degrees-below =
      let em = bits-degrees Plus128 m hm in
      let en = bits-degrees Plus128 n hn in
      let (f, g) = plus-below (degrees_of Plus128 m) (degrees_of Plus128 n) (degrees-fit Plus128 m hm) (degrees-fit Plus128 n hn) in
      (λ h. f (omega arith), λ h. let w = g h in omega arith)

  degrees-same : degrees_of Plus128 m ≡ degrees_of Plus128 n → m ≡ n
  degrees-same e = sym (bits-degrees Plus128 m hm) ∙ ap (bits_of Plus128) e ∙ bits-degrees Plus128 n hn

-- New keys of one examination and eye stand in the order of x, then y, then presentation.
pub left-to-right : (exam eye k l : ℕ) → OfEye exam eye (fields_of Plus128 k) → OfEye exam eye (fields_of Plus128 l)
    → (k < l) ↔ Before (fields_of Plus128 k) (fields_of Plus128 l)
left-to-right exam eye k l ok ol = (λ h. to ((keys-before exam eye k l ok ol).0 h), λ h. (keys-before exam eye k l ok ol).1 (from h))
  where
    of-x : (x-bits k < x-bits l) ↔ ((fields_of Plus128 k).x <ℤ (fields_of Plus128 l).x)
    of-x = degrees-below (x-bits k) (x-bits l) (omega arith) (omega arith)

    of-y : (y-bits k < y-bits l) ↔ ((fields_of Plus128 k).y <ℤ (fields_of Plus128 l).y)
    of-y = degrees-below (y-bits k) (y-bits l) (omega arith) (omega arith)

    to : KeysBefore k l → Before (fields_of Plus128 k) (fields_of Plus128 l)
    to (inl a) = inl (of-x.0 a)
    to (inr (a, inl b)) = inr (ap (degrees_of Plus128) a, inl (of-y.0 b))
    to (inr (a, inr (b, c))) = inr (ap (degrees_of Plus128) a, inr (ap (degrees_of Plus128) b, c))

    from : Before (fields_of Plus128 k) (fields_of Plus128 l) → KeysBefore k l
    from (inl a) = inl (of-x.1 a)
    from (inr (a, inl b)) = inr (degrees-same (x-bits k) (x-bits l) (omega arith) (omega arith) a, inl (of-y.1 b))
    from (inr (a, inr (b, c))) =
        inr (degrees-same (x-bits k) (x-bits l) (omega arith) (omega arith) a, inr (degrees-same (y-bits k) (y-bits l) (omega arith) (omega arith) b, c))

-- Old keys of one examination and eye: those with x below 0 stand behind those with x from 0 on.
pub below-0-behind : (exam eye k l : ℕ) → OfEye exam eye (fields_of TwosComplement k) → OfEye exam eye (fields_of TwosComplement l)
    → non_neg (fields_of TwosComplement k).x ≡ true → non_neg (fields_of TwosComplement l).x ≡ false → k < l
below-0-behind exam eye k l ok ol p q =
    let low = ltb-true (x-bits k) 128 (sym (twos-side (x-bits k) (omega arith)) ∙ p) in
    let high = ltb-false (x-bits l) 128 (sym (twos-side (x-bits l) (omega arith)) ∙ q) in
    (keys-before exam eye k l ok ol).1 (inl (omega arith))
