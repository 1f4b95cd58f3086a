-- Laws of tests that answer true or false. Assumes nothing.
use Rattle.std.specs.Prelude.{◌≡◌, refl, Bool, true, false, ◌&&◌, ◌↔◌}
use Rattle.std.proofs.Common.{sym, true≢false}

-- Two tests that pass together and fail together are one.
pub same_test : (x y : Bool) → (x ≡ true → y ≡ true) → (x ≡ false → y ≡ false) → x ≡ y
same_test true y t f = sym (t refl)
same_test false y t f = sym (f refl)

-- Two tests each of which passes where the other does.
pub both_ways : (x y : Bool) → (x ≡ true) ↔ (y ≡ true) → x ≡ y
both_ways true y h = sym (h.0 refl)
both_ways false true h = h.1 refl
both_ways false false h = refl

pub and-true : (x y : Bool) → (x && y ≡ true) ↔ ((x ≡ true) × (y ≡ true))
and-true true y = (λ t. (refl, t), λ t. t.1)
and-true false y = (λ t. absurd (true≢false (sym t)), λ t. t.0)

pub second-fails : (x y : Bool) → y ≡ false → x && y ≡ false
second-fails true y e = e
second-fails false y e = refl

pub second-passes : (x y : Bool) → y ≡ true → x && y ≡ x
second-passes true y e = e
second-passes false y e = refl

pub not-passed : (x : Bool) → (x ≡ true → ⊥) → x ≡ false
not-passed true h = absurd (h refl)
not-passed false h = refl
