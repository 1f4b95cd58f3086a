-- What the code's tests of an offset tell, and where an offset leads by its bits. Assumes nothing.
use Rattle.std.specs.Prelude.{◌≡◌, refl, Bool, true, false, ℕ, zero, suc, ◌+◌, ◌-◌, ◌^◌, ◌≤◌, ◌<◌, ltb, ℤ, pos, ◌+ℤ◌, ◌-ℤ◌, Option, Some, None, SomeIff, Result, Ok, Err, ok_or}
use Rattle.std.specs.Result.{OkIff, result_ok}
use Rattle.std.proofs.Common.{ap, sym, ◌∙◌, arith, le-ltb}
use Rattle.std.proofs.Math.IntN.{sub_ℕ}
use native.Mathlib.Nat.{pow-suc}
use borrow.Author.Tests.{ltb-true, ltb-false}
use lib.Signed.{mag}
use Rattle.format.specs.declared.Refusal.{Refusal}
use Rattle.format.specs.Refusal.{gives, refuses, number, answer_of}
use Rattle.format.specs.Signed.{of_twos}
use Rattle.format.specs.RelPtr.{fit_signed, at, below, position}
use Rattle.format.proofs.Laws.Numbers.Signed.{of_twos-low, of_twos-high}
use Rattle.format.proofs.Laws.Numbers.RelPtr.{leads-on, leads-back, leads-below, fits_gives, fits_refused}

-- A number that is there exactly if it fits h + 1 bits, or else the refusal.
pub there-if-it-fits : {P : Type 0} (h : ℕ) (z : ℤ) (why : Refusal) (o : Option ℤ) → (P → mag z < 2 ^ h) → (mag z < 2 ^ h → P) → SomeIff o P z
    → answer_of (ok_or o why) ≡ fit_signed h (number why) z
there-if-it-fits h z why (Some x) f g k = ap gives k.1 ∙ sym (fits_gives h (number why) z (f k.0))
there-if-it-fits h z why None f g k = by (ltb (mag z) (2 ^ h)) refl where
  by : (b : Bool) → ltb (mag z) (2 ^ h) ≡ b → refuses (number why) ≡ fit_signed h (number why) z
  by true l = absurd (k (g (ltb-true (mag z) (2 ^ h) l)))
  by false l = sym (fits_refused h (number why) z (ltb-false (mag z) (2 ^ h) l))

-- A conversion's number is there exactly if its condition holds.
pub converted : {T E : Type 0} (P : Type 0) (v : T) (r : Result T E) → OkIff r P v → SomeIff (result_ok r) P v
converted P v (Ok x) k = k
converted P v (Err e) k = k

pub difference : (a b : ℕ) → pos a -ℤ pos b ≡ sub_ℕ a b
difference a zero = rw (le-ltb a zero (omega arith)) (ap pos (omega arith))
difference a (suc b) = refl

-- ---- where the offset of the bits b leads from p, by what b lacks of the bits of -1

rest : (t b : ℕ) → t - suc b ≡ t - 1 - b
rest t b = omega arith

less_one : (p x : ℕ) → p - x - 1 ≡ p - 1 - x
less_one p x = omega arith

module _ (h p b : ℕ) (l : b < 2 ^ suc h) where
  pub leads-ahead : b ≤ 2 ^ suc h - 1 - b → position (pos p +ℤ of_twos h b) ≡ at (p + b)
  leads-ahead g = let e = pow-suc 2 h in leads-on p b (of_twos h b) (of_twos-low h b (omega arith))

  module _ (g : 2 ^ suc h - 1 - b < b) where
    high : 2 ^ h ≤ b
    high = let e = pow-suc 2 h in omega arith

    pub leads-before : p ≤ 2 ^ suc h - 1 - b → position (pos p +ℤ of_twos h b) ≡ below
    leads-before k = leads-below p (2 ^ suc h - suc b) (of_twos h b) (of_twos-high h b high) (omega arith)

    pub leads-behind : 2 ^ suc h - 1 - b < p → position (pos p +ℤ of_twos h b) ≡ at (p - 1 - (2 ^ suc h - 1 - b))
    leads-behind k =
        leads-back p (2 ^ suc h - suc b) (of_twos h b) (of_twos-high h b high) (omega arith)
        ∙ ap (λ (x : ℕ). at (p - x - 1)) (rest (2 ^ suc h) b) ∙ ap at (less_one p (2 ^ suc h - 1 - b))
