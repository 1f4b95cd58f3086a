-- Which keys lie between the bounds of a column query, by their fields: for both packings, those of that examination and eye whose x the query takes.
-- Assumes nothing.
use Rattle.std.specs.Prelude.{ℕ, ◌-◌, ◌/◌, ◌%◌, ◌^◌, ◌≤◌, ◌<◌, ◌≡◌, Bool, true, ◌&&◌, ◌↔◌, leb, eqb, ℤ}
use Rattle.std.proofs.Common.{sym, ◌∙◌, arith, leb-true, le-leb, eqb-true, eq-eqb}
use Rattle.format.specs.declared.Entry.{Entry}
use Rattle.format.specs.declared.Packing.{Packing}
use Rattle.format.specs.Key.{Degrees, key_of, bits_of, fields_of}
use Rattle.format.specs.Column.{takes, OfEye, eye_with}
use Rattle.format.proofs.Laws.Numbers.Tests.{both_ways, and-true}
use Rattle.format.proofs.Laws.Numbers.Degrees.{bits-lt, bits-degrees, degrees-fit, bits-take}

module _ (exam eye a b k : ℕ) (h₁ : exam < 2 ^ 24) (h₂ : eye < 2) (h₃ : a < 256) (h₄ : b < 256) where
  -- The keys between the ends, by the bits of x.
  bits_in : key_of exam eye a 0 0 ≤ k → k ≤ key_of exam eye b (2 ^ 8 - 1) (2 ^ 23 - 1)
      → (k / 2 ^ 40 ≡ exam) × (k / 2 ^ 39 % 2 ≡ eye) × (a ≤ k / 2 ^ 31 % 256) × (k / 2 ^ 31 % 256 ≤ b)
  bits_in l u = (omega arith, omega arith, omega arith, omega arith)

  in-bits : k / 2 ^ 40 ≡ exam → k / 2 ^ 39 % 2 ≡ eye → a ≤ k / 2 ^ 31 % 256 → k / 2 ^ 31 % 256 ≤ b
      → (key_of exam eye a 0 0 ≤ k) × (k ≤ key_of exam eye b (2 ^ 8 - 1) (2 ^ 23 - 1))
  in-bits e f l u = (omega arith, omega arith)

-- What it is to be of an eye with an x that passes, test by test.
pub eye-passes : (P : Packing) (exam eye : ℕ) (t : ℤ → Bool) (e : Entry)
    → (eye_with P exam eye t e ≡ true) ↔ (OfEye exam eye (fields_of P e.key) × (t (fields_of P e.key).x ≡ true))
eye-passes P exam eye t e =
    let same = eqb (fields_of P e.key).examination exam in
    let side = eqb (fields_of P e.key).eye eye in
    let taken = t (fields_of P e.key).x in (
      λ t.
          let (p, rest) = (and-true same (side && taken)).0 t in
          let (q, x) = (and-true side taken).0 rest in
          ((eqb-true _ _ p, eqb-true _ _ q), x),
      λ h.
          let ((p, q), x) = h in
          (and-true same (side && taken)).1 (eq-eqb _ _ p, (and-true side taken).1 (eq-eqb _ _ q, x)),
    )

module _ (P : Packing) (exam eye : ℕ) (a b : ℤ) (h₁ : exam < 2 ^ 24) (h₂ : eye < 2) (ha : Degrees a) (hb : Degrees b) (e : Entry) where
  abbrev k : ℕ
  k = e.key

  abbrev low : ℕ
  low = key_of exam eye (bits_of P a) 0 0

  abbrev high : ℕ
  high = key_of exam eye (bits_of P b) (2 ^ 8 - 1) (2 ^ 23 - 1)

  abbrev bits : ℕ
  bits = k / 2 ^ 31 % 256

  -- The x of the key is taken exactly if its bits are from those of a to those of b.
  taken-bits : takes P a b (fields_of P k).x ≡ (leb (bits_of P a) bits && leb bits (bits_of P b))
  taken-bits =
      let there = bits-degrees P bits (omega arith) in
      sym (rw there at (bits-take P a b (fields_of P k).x ha hb (degrees-fit P bits (omega arith))))

  inside : (leb low k && leb k high) ≡ true → eye_with P exam eye (takes P a b) e ≡ true
  inside t =
      let (l, u) = (and-true (leb low k) (leb k high)).0 t in
      let (p, q, r, s) = bits_in exam eye (bits_of P a) (bits_of P b) k h₁ h₂ (bits-lt P a ha) (bits-lt P b hb) (leb-true low k l) (leb-true k high u) in
      let x = (and-true (leb (bits_of P a) bits) (leb bits (bits_of P b))).1 (le-leb _ _ r, le-leb _ _ s) in
      (eye-passes P exam eye (takes P a b) e).1 ((p, q), taken-bits ∙ x)

  between : eye_with P exam eye (takes P a b) e ≡ true → (leb low k && leb k high) ≡ true
  between t =
      let ((p, q), x) = (eye-passes P exam eye (takes P a b) e).0 t in
      let (r, s) = (and-true (leb (bits_of P a) bits) (leb bits (bits_of P b))).0 (sym taken-bits ∙ x) in
      let (l, u) = in-bits exam eye (bits_of P a) (bits_of P b) k h₁ h₂ (bits-lt P a ha) (bits-lt P b hb) p q (leb-true _ _ r) (leb-true _ _ s) in
      (and-true (leb low k) (leb k high)).1 (le-leb low k l, le-leb k high u)

  pub between-column : (leb low k && leb k high) ≡ eye_with P exam eye (takes P a b) e
  between-column = both_ways (leb low k && leb k high) (eye_with P exam eye (takes P a b) e) (inside, between)
