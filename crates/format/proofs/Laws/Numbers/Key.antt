-- Laws of the key packings and of the column query's bounds: one for each way out, and that packing and unpacking undo each other. Assumes nothing.
use Rattle.std.specs.Prelude.{◌≡◌, ℕ, ◌-◌, ◌/◌, ◌%◌, ◌^◌, ◌≤◌, ◌<◌, ℤ, pos, ◌+ℤ◌}
use Rattle.std.proofs.Common.{ap, ap₂, ◌∙◌, arith}
use Rattle.std.proofs.Math.Nat.{div-div-eq-div-mul}
use Rattle.std.proofs.Math.Decide.{dec_lt}
use borrow.Author.Tests.{lt-ltb, le-ltb}
use Rattle.format.specs.declared.Packing.{Packing}
use Rattle.format.specs.declared.Packing.TheVariants.{Plus128}
use Rattle.std.specs.declared.ops.Bound.TheVariants.{Included}
use Rattle.format.specs.Refusal.{Answer, gives, refuses}
use Rattle.format.specs.Key.{Degrees, key_of, bits_of, degrees_of, pack_key, fields_of, column_bounds}
use Rattle.format.specs.declared.KeyFields.{KeyFields}
use Rattle.format.proofs.Laws.Numbers.Degrees.{plus-stored, bits-lt, degrees-bits, bits-degrees}

-- An answer that gives something is not refused.
not-both : {A : Type 0} {a : Answer A} {x : A} {r : ℕ} → a ≡ gives x → a ≡ refuses r → ⊥
not-both e f = let z : ◌≡◌ {A = ℕ} 0 1 = cc in omega arith

-- ---- packing

module _ (P : Packing) (exam eye : ℕ) (x y : ℤ) (pres : ℕ) where
  pub pack-no-exam : 2 ^ 24 ≤ exam → pack_key P exam eye x y pres ≡ refuses 18
  unfolding pack_key
  pack-no-exam h = rw (le-ltb exam (2 ^ 24) h)

  pub pack-no-eye : exam < 2 ^ 24 → 2 ≤ eye → pack_key P exam eye x y pres ≡ refuses 18
  unfolding pack_key
  pack-no-eye g h = rw (lt-ltb exam (2 ^ 24) g, le-ltb eye 2 h)

  pub pack-no-pres : exam < 2 ^ 24 → eye < 2 → 2 ^ 23 ≤ pres → pack_key P exam eye x y pres ≡ refuses 18
  unfolding pack_key
  pack-no-pres f g h = rw (lt-ltb exam (2 ^ 24) f, lt-ltb eye 2 g, le-ltb pres (2 ^ 23) h)

  pub pack-given : exam < 2 ^ 24 → eye < 2 → pres < 2 ^ 23 → pack_key P exam eye x y pres ≡ gives (key_of exam eye (bits_of P x) (bits_of P y) pres)
  unfolding pack_key
  pack-given f g h = rw (lt-ltb exam (2 ^ 24) f, lt-ltb eye 2 g, lt-ltb pres (2 ^ 23) h)

  -- Where a key is given, the fields fit, and it is theirs.
  pub pack-inv : (k : ℕ) → pack_key P exam eye x y pres ≡ gives k
      → (exam < 2 ^ 24) × (eye < 2) × (pres < 2 ^ 23) × (k ≡ key_of exam eye (bits_of P x) (bits_of P y) pres)
  pack-inv k e = go (dec_lt exam (2 ^ 24)) (dec_lt eye 2) (dec_lt pres (2 ^ 23))
    where
      go : Dec (exam < 2 ^ 24) → Dec (eye < 2) → Dec (pres < 2 ^ 23)
          → (exam < 2 ^ 24) × (eye < 2) × (pres < 2 ^ 23) × (k ≡ key_of exam eye (bits_of P x) (bits_of P y) pres)
      go (no h) b c = absurd (not-both e (pack-no-exam (omega arith)))
      go (yes g) (no h) c = absurd (not-both e (pack-no-eye g (omega arith)))
      go (yes f) (yes g) (no h) = absurd (not-both e (pack-no-pres f g (omega arith)))
      go (yes f) (yes g) (yes h) = let z = pack-given f g h in (f, g, h, cc)

-- ---- unpacking

fields-path : {a b c d e f : ℕ} {u v x y : ℤ} → a ≡ b → c ≡ d → u ≡ v → x ≡ y → e ≡ f
    → ◌≡◌ {A = KeyFields} (record { examination = a; eye = c; x = u; y = x; presentation = e })
    (record { examination = b; eye = d; x = v; y = y; presentation = f })
fields-path p q r s t = λ j. record { examination = p j; eye = q j; x = r j; y = s j; presentation = t j }

module _ (exam eye x y pres : ℕ) (h₁ : exam < 2 ^ 24) (h₂ : eye < 2) (h₃ : x < 256) (h₄ : y < 256) (h₅ : pres < 2 ^ 23) where
  exam-of : key_of exam eye x y pres / 2 ^ 40 ≡ exam
  exam-of = omega arith

  eye-of : key_of exam eye x y pres / 2 ^ 39 % 2 ≡ eye
  eye-of = omega arith

  x-of : key_of exam eye x y pres / 2 ^ 31 % 256 ≡ x
  x-of = omega arith

  y_of : key_of exam eye x y pres / 2 ^ 23 % 256 ≡ y
  y_of = omega arith

  pres-of : key_of exam eye x y pres % 2 ^ 23 ≡ pres
  pres-of = omega arith

-- The fields of a packed key are those that were packed.
pub unpack-pack : (P : Packing) (exam eye : ℕ) (x y : ℤ) (pres k : ℕ) → Degrees x → Degrees y → pack_key P exam eye x y pres ≡ gives k
    → fields_of P k ≡ record { examination = exam; eye = eye; x = x; y = y; presentation = pres }
unpack-pack P exam eye x y pres k hx hy e =
    let (h₁, h₂, h₃, ek) = pack-inv P exam eye x y pres k e in
    let bx = bits-lt P x hx in
    let by = bits-lt P y hy in
    rw ek (fields-path
    (exam-of exam eye (bits_of P x) (bits_of P y) pres h₁ h₂ bx by h₃)
    (eye-of exam eye (bits_of P x) (bits_of P y) pres h₁ h₂ bx by h₃)
    (ap (degrees_of P) (x-of exam eye (bits_of P x) (bits_of P y) pres h₁ h₂ bx by h₃) ∙ degrees-bits P x hx)
    (ap (degrees_of P) (y_of exam eye (bits_of P x) (bits_of P y) pres h₁ h₂ bx by h₃) ∙ degrees-bits P y hy)
    (pres-of exam eye (bits_of P x) (bits_of P y) pres h₁ h₂ bx by h₃))

-- "x plus 128 and y plus 128": the fields of a new key.
pub plus-fields : (exam eye : ℕ) (x y : ℤ) (pres k : ℕ) → Degrees x → Degrees y → pack_key Plus128 exam eye x y pres ≡ gives k
    → (pos (k / 2 ^ 31 % 256) ≡ x +ℤ pos 128) × (pos (k / 2 ^ 23 % 256) ≡ y +ℤ pos 128)
plus-fields exam eye x y pres k hx hy e =
    let (h₁, h₂, h₃, ek) = pack-inv Plus128 exam eye x y pres k e in
    let bx = bits-lt Plus128 x hx in
    let by = bits-lt Plus128 y hy in (
      rw ek (ap pos (x-of exam eye (bits_of Plus128 x) (bits_of Plus128 y) pres h₁ h₂ bx by h₃) ∙ plus-stored x hx),
      rw ek (ap pos (y_of exam eye (bits_of Plus128 x) (bits_of Plus128 y) pres h₁ h₂ bx by h₃) ∙ plus-stored y hy),
    )

-- Packing the fields of a key gives the key.
pub pack-unpack : (P : Packing) (k : ℕ) → k < 2 ^ 64 → let p = fields_of P k in pack_key P p.examination p.eye p.x p.y p.presentation ≡ gives k
pack-unpack P k h =
    let p = fields_of P k in
    pack-given P p.examination p.eye p.x p.y p.presentation (omega arith) (omega arith) (omega arith)
    ∙ ap₂ (λ (x y : ℕ). gives (key_of (k / 2 ^ 40) (k / 2 ^ 39 % 2) x y (k % 2 ^ 23))) (bits-degrees P (k / 2 ^ 31 % 256) (omega arith))
    (bits-degrees P (k / 2 ^ 23 % 256) (omega arith))
    ∙ ap gives (omega (arith, div-div-eq-div-mul k (2 ^ 23) 256, div-div-eq-div-mul k (2 ^ 31) 256, div-div-eq-div-mul k (2 ^ 39) 2))

-- ---- the bounds of a column query

module _ (P : Packing) (exam eye : ℕ) (a b : ℤ) where
  pub column-no-exam : 2 ^ 24 ≤ exam → column_bounds P exam eye a b ≡ refuses 18
  unfolding column_bounds
  column-no-exam h = rw (le-ltb exam (2 ^ 24) h)

  pub column-no-eye : exam < 2 ^ 24 → 2 ≤ eye → column_bounds P exam eye a b ≡ refuses 18
  unfolding column_bounds
  column-no-eye g h = rw (lt-ltb exam (2 ^ 24) g, le-ltb eye 2 h)

  pub column-given : (l u : ℕ) → exam < 2 ^ 24 → eye < 2 → l ≡ key_of exam eye (bits_of P a) 0 0 → u ≡ key_of exam eye (bits_of P b) (2 ^ 8 - 1) (2 ^ 23 - 1)
      → column_bounds P exam eye a b ≡ gives (record { lower = Included l; upper = Included u })
  unfolding column_bounds
  column-given l u g h e f = rw (lt-ltb exam (2 ^ 24) g, lt-ltb eye 2 h, e, f)
