-- Document 02, N5, "Columns that cross the middle", as theorems. The words in quotes are its own. Assumes nothing.
use Rattle.std.specs.Prelude.{ℕ, ◌/◌, ◌%◌, ◌^◌, ◌<◌, ◌≡◌, true, false, ◌&&◌, ◌||◌, List, [], ◌↔◌, ℤ, pos, ◌+ℤ◌, length, ◌≤ℤ◌, ◌<ℤ◌}
use Rattle.std.proofs.Math.Path.{refl}
use Rattle.std.proofs.Common.{subst}
use Rattle.std.specs.Int.Signed.{le_z, non_neg}
use Rattle.format.specs.declared.Entry.{Entry}
use Rattle.format.specs.declared.Packing.{Packing}
use Rattle.format.specs.declared.Packing.TheVariants.{TwosComplement, Plus128}
use Rattle.format.specs.Layout.{Layout, Limits}
use Rattle.format.specs.Refusal.{gives}
use Rattle.format.specs.Key.{Degrees, pack_key, fields_of, bit}
use Rattle.format.specs.Check.{counted}
use Rattle.format.specs.Certify.{certify}
use Rattle.format.specs.Entries.{list}
use Rattle.format.specs.Lookup.{In}
use Rattle.format.specs.Range.{select}
use Rattle.format.specs.Column.{takes, OfEye, eye_with, Before, column}
use Rattle.format.specs.Written.{written, keys_after, values_after}
use Rattle.format.specs.Calls.{column_call, column_keys, column_values}
use Rattle.format.proofs.Laws.Numbers.Key.{plus-fields, unpack-pack, pack-unpack}
use Rattle.format.proofs.Laws.Numbers.Packings.{top-bits, left-to-right, below-0-behind}
use Rattle.format.proofs.Laws.Range.Column.{column-exactly, column-none, old-one-side, old-around, old-across}
use Rattle.format.proofs.Laws.Calls.Certified.{column-certified, column-keys-certified, column-values-certified}

-- "because two's complement puts -3 above 3": of one eye, old keys with x below 0 are above those with x from 0 on, so where keys ascend they come later.
pub n5-old-order : (exam eye k l : ℕ) → OfEye exam eye (fields_of TwosComplement k) → OfEye exam eye (fields_of TwosComplement l)
    → non_neg (fields_of TwosComplement k).x ≡ true → non_neg (fields_of TwosComplement l).x ≡ false → k < l
n5-old-order exam eye k l ok ol p q = below-0-behind exam eye k l ok ol p q

-- "Clinicians always mean columns left to right": new keys of one examination and eye stand in the order of x, then y, then presentation.
pub n5-left-to-right : (exam eye k l : ℕ) → OfEye exam eye (fields_of Plus128 k) → OfEye exam eye (fields_of Plus128 l)
    → (k < l) ↔ Before (fields_of Plus128 k) (fields_of Plus128 l)
n5-left-to-right exam eye k l ok ol = left-to-right exam eye k l ok ol

-- "New examinations store x plus 128 and y plus 128 in their fields."
pub record Stored (k : ℕ) (x y : ℤ) : Type 0 where
  pub x-field : pos (k / 2 ^ 31 % 256) ≡ x +ℤ pos 128
  pub y-field : pos (k / 2 ^ 23 % 256) ≡ y +ℤ pos 128

pub n5-stored : (exam eye : ℕ) (x y : ℤ) (presentation k : ℕ) → Degrees x → Degrees y → pack_key Plus128 exam eye x y presentation ≡ gives k → Stored k x y
n5-stored exam eye x y presentation k hx hy e =
    let (ex, ey) = plus-fields exam eye x y presentation k hx hy e in
    record { x-field = ex; y-field = ey }

-- The two keys of a point differ in bit 38, the top one of x, in bit 30, the top one of y, and in no other.
pub n5-top-bits : (exam eye : ℕ) (x y : ℤ) (presentation k l : ℕ) → Degrees x → Degrees y → pack_key TwosComplement exam eye x y presentation ≡ gives k
    → pack_key Plus128 exam eye x y presentation ≡ gives l → (i : ℕ) → (bit i k ≡ bit i l) ↔ ((i ≡ 38 → ⊥) × (i ≡ 30 → ⊥))
n5-top-bits exam eye x y presentation k l hx hy ek el = top-bits exam eye x y presentation k l hx hy ek el

-- By either packing unpacking undoes packing, and packing unpacking.
pub n5-unpack-pack : (P : Packing) (exam eye : ℕ) (x y : ℤ) (presentation k : ℕ) → Degrees x → Degrees y → pack_key P exam eye x y presentation ≡ gives k
    → fields_of P k ≡ record { examination = exam; eye = eye; x = x; y = y; presentation = presentation }
n5-unpack-pack P exam eye x y presentation k hx hy e = unpack-pack P exam eye x y presentation k hx hy e

pub n5-pack-unpack : (P : Packing) (k : ℕ) → k < 2 ^ 64 → let f = fields_of P k in pack_key P f.examination f.eye f.x f.y f.presentation ≡ gives k
n5-pack-unpack P k l = pack-unpack P k l

-- The query, at the layout and under the limits that the caller names.
module _ (L : Layout) (M : Limits) where
  -- A column query that is not refused: on certified bytes, of an examination and an eye that fit their fields. a and b have 8 bits.
  pub record Asked (s : List ℕ) (exam eye : ℕ) (a b : ℤ) : Type 0 where
    pub count : ℕ
    pub certified : counted (certify L M s) ≡ gives count
    pub exam-fits : exam < 2 ^ 24
    pub eye-fits : eye < 2
    pub a-fits : Degrees a
    pub b-fits : Degrees b

  -- It answers the entries es: how many are written, how many match, and what the lent lists hold afterwards.
  pub record Answers (s : List ℕ) (P : Packing) (exam eye : ℕ) (a b : ℤ) (es : List Entry) : Type 0 where
    pub answer : (ks vs : List ℕ) → column_call L M s P exam eye a b ks vs ≡ gives (record { written = written es ks vs; matching = length es })
    pub keys : (ks vs : List ℕ) → column_keys L M s P exam eye a b ks vs ≡ keys_after es ks vs
    pub values : (ks vs : List ℕ) → column_values L M s P exam eye a b ks vs ≡ values_after es ks vs

  answers : (s : List ℕ) (P : Packing) (exam eye : ℕ) (a b : ℤ) → Asked s exam eye a b → (es : List Entry) → column L M s P exam eye a b ≡ es
      → Answers s P exam eye a b es
  answers s P exam eye a b q es e =
      subst (Answers s P exam eye a b) e (record {
        answer = λ ks vs.
            column-certified L M s P exam eye a b ks vs q.count q.certified q.exam-fits q.eye-fits q.a-fits q.b-fits;
        keys = λ ks vs.
            column-keys-certified L M s P exam eye a b ks vs q.count q.certified q.exam-fits q.eye-fits q.a-fits q.b-fits;
        values = λ ks vs.
            column-values-certified L M s P exam eye a b ks vs q.count q.certified q.exam-fits q.eye-fits q.a-fits q.b-fits;
      })

  -- "A span from x = -3 to 3 comes back empty": by the old packing, from below 0 to 0 or above, every column is missing.
  pub n5-old-across : (s : List ℕ) (exam eye : ℕ) (a b : ℤ) → Asked s exam eye a b → non_neg a ≡ false → non_neg b ≡ true
      → Answers s TwosComplement exam eye a b []
  n5-old-across s exam eye a b q p r = answers s TwosComplement exam eye a b q [] (old-across L M s exam eye a b p r)

  -- "The column query on new keys answers exactly the entries of that examination and eye with x from a to b": a selection from the list by the fields of
  -- each key,
  pub n5-column : (s : List ℕ) (exam eye : ℕ) (a b : ℤ) → Asked s exam eye a b
      → Answers s Plus128 exam eye a b (select (eye_with Plus128 exam eye (λ (x : ℤ). le_z a x && le_z x b)) (list L M s))
  unfolding takes
  n5-column s exam eye a b q = answers s Plus128 exam eye a b q (column L M s Plus128 exam eye a b) refl

  -- and the same of one entry, in both directions.
  pub n5-column-exactly : (s : List ℕ) (exam eye : ℕ) (a b : ℤ) (e : Entry) → let f = fields_of Plus128 e.key in
      In e (select (eye_with Plus128 exam eye (λ (x : ℤ). le_z a x && le_z x b)) (list L M s))
      ↔ (In e (list L M s) × (OfEye exam eye f × ((a ≤ℤ f.x) × (f.x ≤ℤ b))))
  unfolding takes
  n5-column-exactly s exam eye a b e = column-exactly L M s exam eye a b e

  -- "and none if a is above b"
  pub n5-none : (s : List ℕ) (exam eye : ℕ) (a b : ℤ) → Asked s exam eye a b → b <ℤ a → Answers s Plus128 exam eye a b []
  n5-none s exam eye a b q l = answers s Plus128 exam eye a b q [] (column-none L M s exam eye a b l)

  -- "The old packing and its query remain for old archives." With a and b on one side of 0 it answers the entries with x from a to b,
  pub n5-old-one-side : (s : List ℕ) (exam eye : ℕ) (a b : ℤ) → Asked s exam eye a b → non_neg a ≡ non_neg b
      → Answers s TwosComplement exam eye a b (select (eye_with TwosComplement exam eye (λ (x : ℤ). le_z a x && le_z x b)) (list L M s))
  n5-old-one-side s exam eye a b q o = answers s TwosComplement exam eye a b q _ (old-one-side L M s exam eye a b o)

  -- and from 0 or above to below 0 those with x from a on and those with x up to b.
  pub n5-old-around : (s : List ℕ) (exam eye : ℕ) (a b : ℤ) → Asked s exam eye a b → non_neg a ≡ true → non_neg b ≡ false
      → Answers s TwosComplement exam eye a b (select (eye_with TwosComplement exam eye (λ (x : ℤ). le_z a x || le_z x b)) (list L M s))
  n5-old-around s exam eye a b q p r = answers s TwosComplement exam eye a b q _ (old-around L M s exam eye a b p r)
