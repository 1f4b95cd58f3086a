-- Where a field leads that leads back, in the numbers of the code, and what the code reads of a child. Assumes nothing.
use Rattle.std.specs.Prelude.{Some, None}
use mathlib.Core.Path.{◌≡◌, sym, ap, ◌∙◌}
use mathlib.Core.Bool.{false}
use mathlib.Core.List.{List}
use Prim.Native.Nat.{ℕ, suc, ◌+◌, ◌-◌, ◌^◌, ◌≤◌, ◌<◌}
use native.Mathlib.Decide.{dec_lt}
use native.Mathlib.Omega.{arith}
use lib.IntN.{pos, ◌+ℤ◌}
use borrow.Author.Tests.{eq-eqb, ne_eqb}
use Rattle.format.specs.Layout.{Layout, pointer, sign_bits}
use Rattle.format.specs.Bytes.{le_at}
use Rattle.format.specs.Signed.{of_twos}
use Rattle.format.specs.RelPtr.{at, below, position, target, absent}
use Rattle.format.specs.Node.{child}
use Rattle.format.specs.Readable.{child_at, Down, InnerNode}
use Rattle.format.proofs.Laws.Numbers.Signed.{of_twos-low, of_twos-high}
use Rattle.format.proofs.Laws.Numbers.RelPtr.{leads-on, leads-back, leads-below}
use Rattle.format.proofs.Laws.Read.Children.{child-absent, child-there}

below≢at : (q : ℕ) → below ≡ at q → ⊥
below≢at q e = let z : ◌≡◌ {A = ℕ} 0 1 = cc in omega arith

-- From f an offset of h + 1 bits with the bits n leads back to q.
record Behind (h f n q : ℕ) : Type 0 where
  inside : 2 ^ suc h ≤ f + n
  is : q ≡ f + n - 2 ^ suc h

behind : (h f n q : ℕ) → position (pos f +ℤ of_twos h n) ≡ at q → q < f → n < 2 ^ suc h → Behind h f n q
behind h f n q e b l = go (dec_lt n (2 ^ h)) (dec_lt (2 ^ suc h - suc n) f)
  where
    go : Dec (n < 2 ^ h) → Dec (2 ^ suc h - suc n < f) → Behind h f n q
    go (yes k) d = let z : f + n ≡ q = cc (e, leads-on f n (of_twos h n) (of_twos-low h n k)) in absurd (omega (arith, b, z))
    go (no k) (yes d) =
        let z : f - (2 ^ suc h - suc n) - 1 ≡ q = cc (e, leads-back f (2 ^ suc h - suc n) (of_twos h n) (of_twos-high h n (omega (arith, k))) d) in
        record { inside = omega (arith, d, l); is = omega (arith, d, l, z) }
    go (no k) (no d) = absurd (below≢at q (sym (leads-below f (2 ^ suc h - suc n) (of_twos h n) (of_twos-high h n (omega (arith, k))) (omega (arith, d))) ∙ e))

module _ (L : Layout) (s : List ℕ) where
  -- x is what the code reads at the field f, and o the bits of -1. What x lacks of them is the distance less one.
  module _ (f x o : ℕ) (d : Down L s f f) (e : x ≡ le_at (pointer L) s f) (l : x < 2 ^ suc (sign_bits L.width))
      (all : o ≡ 2 ^ suc (sign_bits L.width) - 1) where
    back : Behind (sign_bits L.width) f x d.node
    unfolding target
    back = behind (sign_bits L.width) f x d.node (rw (← e) at d.leads) d.lower l

    pub down-inside : o - x < f
    down-inside = let far = back.inside in omega arith

    pub down_is : target L s f ≡ at (f - 1 - (o - x))
    down_is = let far = back.inside in let to = back.is in d.leads ∙ ap at (omega arith)

  -- f is the field of child i of the inner node at p as the code computes it, and x what it reads there.
  module _ (p i f x : ℕ) (at_f : f ≡ child L p i) (e : x ≡ le_at (pointer L) s f) where
    pub field-absent : x ≡ 1 → None ≡ child_at L s (child L p i)
    unfolding absent
    field-absent h = rw (← at_f) (sym (child-absent L s f (eq-eqb _ _ (sym e ∙ h))))

    module _ (o : ℕ) (l : x < 2 ^ suc (sign_bits L.width)) (all : o ≡ 2 ^ suc (sign_bits L.width) - 1) (n : InnerNode L s p) (le : i ≤ L.entries)
        (h : x ≡ 1 → ⊥) where
      present : absent L s f ≡ false
      unfolding absent
      present = ne_eqb _ _ (λ z. h (e ∙ z))

      down : Down L s f f
      down =
          let d = n.back i le (rw (← at_f) present) in
          let low = d.lower in
          record { node = d.node; leads = ap (target L s) at_f ∙ d.leads; lower = omega arith }

      pub field-inside : o - x < f
      field-inside = down-inside f x o down e l all

      pub field-before : o - x ≤ f - 1
      field-before = let inside = field-inside in omega arith

      pub field-there : Some (record { 0 = f - 1 - (o - x) }) ≡ child_at L s (child L p i)
      field-there = rw (← at_f) (sym (child-there L s f _ present (down_is f x o down e l all)))
