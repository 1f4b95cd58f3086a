-- Where a reader goes through an inner node's children: what it has so far, followed by what the next child gives. Assumes nothing.
use Rattle.std.specs.Prelude.{Option, Some, None}
use Prim.Native.Nat.{ℕ}
use mathlib.Core.Path.{◌≡◌, sym, ap, ◌∙◌}
use mathlib.Core.List.{List}
use mathlib.Core.Logic.{◌⊎◌, ⊎_elim}
use Rattle.format.specs.declared.Position.{Position}
use Rattle.format.specs.Layout.{Layout}
use Rattle.format.specs.Node.{child}
use Rattle.format.specs.Readable.{child_at}
use Rattle.format.proofs.Laws.Read.Children.{on_child, on-at, on-absent}

-- The node at q gives `give q`, which `add` adds to a state; `none` is nothing to add.
module _ (L : Layout) (s : List ℕ) {A S : Type 0} (add : A → S → S) (none : A) (stays : (o : S) → add none o ≡ o) (give : ℕ → A) where
  -- r is what was read of child i of the node at p, o the state before it and o₁ after it.
  module _ (p i : ℕ) (r : Option Position) (o o₁ : S) (read : r ≡ child_at L s (child L p i)) where
    child-added : (q : Position) → r ≡ Some q → o₁ ≡ add (give q.0) o → o₁ ≡ add (on_child none give (child_at L s (child L p i))) o
    child-added q k e = e ∙ ap (λ (x : A). add x o) (sym (on-at none give (child_at L s (child L p i)) q (sym read ∙ k)))

    child-none : r ≡ None → o₁ ≡ o → o₁ ≡ add (on_child none give (child_at L s (child L p i))) o
    child-none k e = e ∙ sym (stays o) ∙ ap (λ (x : A). add x o) (sym (on-absent none give (child_at L s (child L p i)) (sym read ∙ k)))

    -- Where both arms of the test for a child meet.
    pub next-child : ((q : Position) × (r ≡ Some q) × (o₁ ≡ add (give q.0) o)) ⊎ ((r ≡ None) × (o₁ ≡ o))
        → o₁ ≡ add (on_child none give (child_at L s (child L p i))) o
    next-child came = ⊎_elim (λ w. child-added w.0 w.1 w.2) (λ w. child-none w.0 w.1) came
