-- The height that document 01 gives is the one at which the levels fit the number of entries. Assumes nothing.
use Prim.Native.Nat.{ℕ, zero, suc, ◌+◌, ◌-◌, ◌*◌, ◌^◌, ◌/◌, ◌%◌, ◌≤◌, ◌<◌}
use Rattle.std.specs.Prelude.{◌≡◌, Bool}
use Rattle.std.proofs.Math.Path.{refl}
use Rattle.std.proofs.Common.{◌∙◌, div-add-mod', mod-lt, mul-le-mul_right, ltb-true, ltb-false}
use Rattle.std.proofs.Math.Bool.{true, false}
use native.Mathlib.Omega.{arith}
use Rattle.std.proofs.Math.Nat.{pow-succ', pow-zero, div-lt_self}
use Rattle.std.proofs.Math.Dec.{ltb}
use Rattle.format.specs.Layout.{Layout}
use Rattle.format.specs.Build.{log_from, height, last_level}
use Rattle.format.specs.Weight.{upper, room}
use Rattle.format.proofs.Laws.Build.Filling.{full}

pos-div : (n b : ℕ) → 0 < b → b ≤ n → 0 < n / b
pos-div n b h₀ h = by (n / b) (div-add-mod' n b)
  where
    m : n % b < b
    m = mod-lt n h₀

    by : (x : ℕ) → x * b + n % b ≡ n → 0 < x
    by zero e = absurd (omega (arith, m))
    by (suc x) e = omega arith

module _ (L : Layout) (some : 0 < L.entries) where
  -- n entries need more than h levels, and fit h + 1.
  record Level (h n : ℕ) : Type 0 where
    pub over : upper L h < n
    pub under : n ≤ upper L (suc h)

  level-up : (h n : ℕ) → Level h (n / suc L.entries) → Level (suc h) n
  level-up h n v =
      let B : ℕ = suc L.entries in
      let e = div-add-mod' n B in
      let m = mod-lt n {m = B} (omega arith) in
      let lo = mul-le-mul_right B v.over in
      let hi = mul-le-mul_right B v.under in
      record { over = omega arith; under = omega arith }

  level : (fuel n : ℕ) → 0 < n → n ≤ fuel → Level (log_from L fuel n) n
  unfolding log_from
  level zero n h₀ h₁ = absurd (omega arith)
  level (suc fuel) n h₀ h₁ = by (ltb n (suc L.entries)) refl (level fuel (n / suc L.entries))
    where
      by : (b : Bool) → ltb n (suc L.entries) ≡ b
          → (0 < n / suc L.entries → n / suc L.entries ≤ fuel → Level (log_from L fuel (n / suc L.entries)) (n / suc L.entries))
          → Level (log_from L (suc fuel) n) n
      by true eb rec = rw (eb, log_from) (record { over = h₀; under = omega (arith, ltb-true) })
      by false eb rec =
          rw (eb, log_from) (level-up (log_from L fuel (n / suc L.entries)) n
          (rec (pos-div n (suc L.entries) (omega arith) (ltb-false _ _ eb)) (omega (arith, div-lt_self {n = n} {k = suc L.entries} h₀ (omega arith)))))

  power : (h : ℕ) → suc L.entries ^ h ≡ suc (upper L h)
  power zero = pow-zero _
  power (suc h) = pow-succ' (suc L.entries) h ∙ rw (power h) (omega arith)

  -- The levels above the last one, and what the last one holds.
  pub record Fitting (n : ℕ) : Type 0 where
    pub above : ℕ
    pub height-is : height L n ≡ suc above
    pub last-is : upper L above + last_level L n ≡ n
    pub last-pos : 0 < last_level L n
    pub last-room : last_level L n ≤ room L above

  fit_of : (n h : ℕ) → height L n ≡ suc h → Level h n → Fitting n
  unfolding last_level
  fit_of n h e v =
      let u = full L h in
      let es : suc h - 1 ≡ h = omega arith in
      let el : last_level L n ≡ n - upper L h = rw (e, es, power h) (omega arith) in
      record { above = h; height-is = e; last-is = omega arith; last-pos = omega arith; last-room = omega arith }

  pub fitting : (n : ℕ) → 0 < n → Fitting n
  unfolding height
  fitting n h₀ = fit_of n (log_from L n n) refl (level n n h₀ (omega arith))

  -- It is 1 + floor (log n) to the base entries + 1.
  pub height-log : (n : ℕ) → 0 < n → (suc L.entries ^ (height L n - 1) ≤ n) × (n < suc L.entries ^ height L n)
  unfolding height
  height-log n h₀ =
      let h = log_from L n n in
      let v = level n n h₀ (omega arith) in
      let es : suc h - 1 ≡ h = omega arith in
      let lo : suc L.entries ^ h ≤ n = rw (power h) (omega (arith, v.over)) in
      let hi : n < suc L.entries ^ suc h = rw (power (suc h)) (omega (arith, v.under)) in
      (rw es lo, hi)
