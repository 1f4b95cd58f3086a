-- The test of a place and of the depth, case by case, and what it is in the definitions' own tests. Assumes nothing.
use Rattle.std.specs.Prelude.{Result, Ok, Err}
use mathlib.Core.Path.{◌≡◌, refl, sym, ◌∙◌, ap}
use mathlib.Core.Bool.{Bool, true, false}
use Prim.Native.Nat.{ℕ, ◌+◌, ◌%◌, ◌<◌, ◌≤◌}
use lib.Dec.{leb, ltb, eqb}
use borrow.Author.Tests.{leb-true, ltb-true, eqb-true, le-leb, lt-leb, lt-ltb, le-ltb, eq-eqb, ne_eqb}
use Rattle.format.specs.Check.{Checked, accepted, guard}
use Rattle.format.specs.declared.Refusal.{Refusal}
use Rattle.format.specs.declared.Refusal.TheVariants.{InvalidSubtreePointer, UnalignedPointer, ExceededMaximumSubtreeDepth}
use Rattle.format.proofs.Laws.Check.Sound.{guard-inv}
use Rattle.subtrees.specs.Subtree.{placed, shallow, opened, Held}
use Rattle.subtrees.specs.Answers.{ptr_of}

module _ (start end p size align : ℕ) where
  pub placed-low : p < start → placed start end p size align ≡ Err InvalidSubtreePointer
  unfolding placed
  placed-low h = rw (lt-leb _ _ h, placed)

  pub placed-high : start ≤ p → end < p + size → placed start end p size align ≡ Err InvalidSubtreePointer
  unfolding placed
  placed-high l h = rw (le-leb _ _ l, lt-leb _ _ h, placed)

  pub placed-odd : start ≤ p → p + size ≤ end → (p % align ≡ 0 → ⊥) → placed start end p size align ≡ Err UnalignedPointer
  unfolding placed
  placed-odd l h o = rw (le-leb _ _ l, le-leb _ _ h, ne_eqb _ _ o, placed)

  pub placed-in : start ≤ p → p + size ≤ end → p % align ≡ 0 → placed start end p size align ≡ Ok tt
  unfolding placed
  placed-in l h o = rw (le-leb _ _ l, le-leb _ _ h, eq-eqb _ _ o, placed)

  -- What follows a place, by the definitions' tests.
  pub placed-guards : (a : Checked)
      → ptr_of (placed start end p size align) a ≡ guard (leb start p) 2 (guard (leb (p + size) end) 2 (guard (eqb (p % align) 0) 3 a))
  unfolding placed
  placed-guards a = go (leb start p) (leb (p + size) end) (eqb (p % align) 0) refl refl refl
    where
      go : (x y z : Bool) → leb start p ≡ x → leb (p + size) end ≡ y → eqb (p % align) 0 ≡ z
          → ptr_of (placed start end p size align) a ≡ guard (leb start p) 2 (guard (leb (p + size) end) 2 (guard (eqb (p % align) 0) 3 a))
      go true true true ex ey ez = rw (ex, ey, ez, placed)
      go true true false ex ey ez = rw (ex, ey, ez, placed)
      go true false z ex ey ez = rw (ex, ey, placed)
      go false y z ex ey ez = rw (ex, placed)

  -- What a place is that something is accepted after.
  after : (a : Checked) → ptr_of (placed start end p size align) a ≡ accepted 0 0 → Held start end p size align × (a ≡ accepted 0 0)
  after a e =
      let (l, e₁) = guard-inv (leb start p) _ _ (sym (placed-guards a) ∙ e) in
      let (h, e₂) = guard-inv (leb (p + size) end) _ _ e₁ in
      let (o, e₃) = guard-inv (eqb (p % align) 0) _ _ e₂ in
      (record { low = leb-true _ _ l; high = leb-true _ _ h; even = eqb-true _ _ o }, e₃)

  pub held : placed start end p size align ≡ Ok tt → Held start end p size align
  held e = (after (accepted 0 0) (ap (λ (x : Result (Unit {0}) Refusal). ptr_of x (accepted 0 0)) e)).0

  module _ (depth : ℕ) where
    pub opened-refused : (r : Refusal) → placed start end p size align ≡ Err r → opened start end depth p size align ≡ Err r
    unfolding opened
    opened-refused r e = rw (e, opened)

    pub opened-deep : placed start end p size align ≡ Ok tt → depth ≤ 1 → opened start end depth p size align ≡ Err ExceededMaximumSubtreeDepth
    unfolding opened
    opened-deep e d = rw (e, opened) (rw (le-ltb 1 depth d, shallow))

    pub opened_in : placed start end p size align ≡ Ok tt → 1 < depth → opened start end depth p size align ≡ Ok tt
    unfolding opened
    opened_in e d = rw (e, opened) (rw (lt-ltb 1 depth d, shallow))

    pub opened-guards : (a : Checked) → ptr_of (opened start end depth p size align) a ≡ ptr_of (placed start end p size align) (guard (ltb 1 depth) 5 a)
    unfolding opened
    opened-guards a = go (placed start end p size align) (ltb 1 depth) refl refl
      where
        go : (x : Result (Unit {0}) Refusal) (y : Bool) → placed start end p size align ≡ x → ltb 1 depth ≡ y
            → ptr_of (opened start end depth p size align) a ≡ ptr_of (placed start end p size align) (guard (ltb 1 depth) 5 a)
        go (Ok u) true ex ey = rw (ex, opened) (rw (ey, shallow))
        go (Ok u) false ex ey = rw (ex, opened) (rw (ey, shallow))
        go (Err r) y ex ey = rw (ex, opened)

    pub opened-held : opened start end depth p size align ≡ Ok tt → Held start end p size align × (1 < depth)
    opened-held e =
        let (h, f) = after (guard (ltb 1 depth) 5 (accepted 0 0)) (sym (opened-guards (accepted 0 0)) ∙ ap (λ (x : Result (Unit {0}) Refusal). ptr_of x (accepted 0 0)) e) in
        (h, ltb-true 1 depth (guard-inv (ltb 1 depth) _ _ f).0)

-- A place's answer, where its size is read, and then where it is inside.
module _ {o : Result (Unit {0}) Refusal} (start end p align : ℕ) {m n : ℕ} where
  pub placed-sized : o ≡ placed start end p m align → m ≡ n → o ≡ placed start end p n align
  placed-sized e k = e ∙ ap (λ (x : ℕ). placed start end p x align) k

  pub placed-inside : o ≡ placed start end p m align → m ≡ n → o ≡ Ok tt → placed start end p n align ≡ Ok tt
  placed-inside e k is = sym (placed-sized e k) ∙ is

module _ {o : Result (Unit {0}) Refusal} (start end depth p align : ℕ) {m n : ℕ} where
  pub opened-sized : o ≡ opened start end depth p m align → m ≡ n → o ≡ opened start end depth p n align
  opened-sized e k = e ∙ ap (λ (x : ℕ). opened start end depth p x align) k

  pub opened-inside : o ≡ opened start end depth p m align → m ≡ n → o ≡ Ok tt → opened start end depth p n align ≡ Ok tt
  opened-inside e k is = sym (opened-sized e k) ∙ is
