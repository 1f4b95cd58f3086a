-- Laws of the digits. Assumes nothing.
use Rattle.std.proofs.Common.{◌≡◌, ℕ, zero, suc, ◌+◌, ◌/◌, ◌%◌, ◌^◌, ◌<◌, ◌≤◌, [], ◌∷◌, length, ap, ◌∙◌, ⊎_elim, arith, length-append}
use Rattle.std.proofs.lemmas.Fmt.{decimal_digit, decimal_step}
use Rattle.std.proofs.str.Laws.{order}
use Rattle.std.specs.Fmt.{decimal as printed}
use borrow.Author.Tests.{le-ltb, lt-ltb}
use Rattle.text.specs.Decimal.{decimal_of, decimal}

-- What std prints of a number.
printed_is : (f n : ℕ) → n < 10 ^ suc f → n < 2 ^ 64 → printed n ≡ decimal_of f n
printed_is zero n h small = decimal_digit n (omega arith) ∙ ap (λ d. (48 + d) ∷ []) (omega arith)
printed_is (suc f) n h small = ⊎_elim
    (λ l. rw (lt-ltb n 10 l) (decimal_digit n l ∙ ap (λ d. (48 + d) ∷ []) (omega arith)))
    (λ l. rw (le-ltb n 10 l, decimal_step n l small, printed_is f (n / 10) (omega arith) (omega arith)))
    (order n 10)

pub decimal_is : (n : ℕ) → n < 2 ^ 64 → printed n ≡ decimal n
unfolding decimal
decimal_is n small = printed_is 19 n (omega arith) small

few_digits : (f n : ℕ) → length (decimal_of f n) ≤ suc f
few_digits zero n = omega arith
few_digits (suc f) n = ⊎_elim
    (λ l. rw (lt-ltb n 10 l) (omega arith))
    (λ l. rw (le-ltb n 10 l) (omega (arith, length-append (decimal_of f (n / 10)) ((48 + n % 10) ∷ []), few_digits f (n / 10))))
    (order n 10)

pub length_decimal : (n : ℕ) → length (decimal n) ≤ 20
unfolding decimal
length_decimal n = few_digits 19 n
