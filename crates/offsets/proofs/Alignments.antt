-- What the code's tests of an alignment tell, and the two ways in which the step is refused. Assumes nothing.
use mathlib.Core.Path.{◌≡◌, refl}
use mathlib.Core.Bool.{true, false}
use mathlib.Core.Logic.{◌≢◌, ◌⊎◌, inl, inr, ⊎_elim}
use Prim.Native.Nat.{ℕ, zero, suc, ◌+◌, ◌-◌, ◌^◌, ◌≤◌, ◌<◌}
use native.Mathlib.Omega.{arith}
use borrow.Author.Tests.{le-ltb, ne_eqb}
use Rattle.format.specs.Refusal.{refuses}
use Rattle.format.specs.Align.{is_alignment, zeros_to, align_step}

-- The match tests 1 and 2 as a range, then the four other alignments.
pub is-small : (a : ℕ) → 1 ≤ a → a < 3 → is_alignment a ≡ true
unfolding is_alignment
is-small zero h l = absurd (omega arith)
is-small (suc zero) h l = refl
is-small (suc (suc zero)) h l = refl
is-small (suc (suc (suc a))) h l = absurd (omega arith)

pub is-larger : (a : ℕ) → (a ≡ 4) ⊎ ((a ≡ 8) ⊎ ((a ≡ 16) ⊎ (a ≡ 32))) → is_alignment a ≡ true
unfolding is_alignment
is-larger a k = ⊎_elim (λ (e : a ≡ 4). rw e) (⊎_elim (λ (e : a ≡ 8). rw e) (⊎_elim (λ (e : a ≡ 16). rw e) (λ (e : a ≡ 32). rw e))) k

pub is_none : (a : ℕ) → a ≢ 1 → a ≢ 2 → ((a ≡ 4) ⊎ ((a ≡ 8) ⊎ ((a ≡ 16) ⊎ (a ≡ 32))) → ⊥) → is_alignment a ≡ false
unfolding is_alignment
is_none a h₁ h₂ h =
    rw (
      ne_eqb a 1 h₁,
      ne_eqb a 2 h₂,
      ne_eqb a 4 (λ e. h (inl e)),
      ne_eqb a 8 (λ e. h (inr (inl e))),
      ne_eqb a 16 (λ e. h (inr (inr (inl e)))),
      ne_eqb a 32 (λ e. h (inr (inr (inr e)))),
    )

pub step_past : (p a : ℕ) → is_alignment a ≡ true → 0xffff_ffff_ffff_ffff - p < zeros_to a p → align_step p a ≡ refuses 17
unfolding align_step
step_past p a e l = rw (e, le-ltb (p + zeros_to a p) (2 ^ 64) (omega arith))

pub step-refused : (p a : ℕ) → is_alignment a ≡ false → align_step p a ≡ refuses 17
unfolding align_step
step-refused p a e = rw e
