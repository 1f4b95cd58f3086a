-- The definitions of the check, case by case, by the answers of the code's tests. Assumes nothing.
use Rattle.std.specs.Prelude.{Ok, Err}
use mathlib.Core.Path.{◌≡◌, refl, sym, ◌∙◌, ap}
use mathlib.Core.Bool.{true, false}
use mathlib.Core.List.{List}
use Prim.Native.Nat.{ℕ, zero, suc, ◌+◌, ◌-◌, ◌<◌, ◌≤◌}
use native.Mathlib.Omega.{arith}
use native.Mathlib.Nat.{add-zero}
use lib.ListN.{get_or}
use lib.Dec.{leb, ltb}
use borrow.Author.Tests.{le-leb, lt-leb, lt-ltb, eq-eqb}
use Rattle.format.specs.Layout.{Layout, head_size, leaf_size, inner_size, node_align}
use Rattle.format.specs.Refusal.{number}
use Rattle.format.specs.RelPtr.{at, below, target, absent}
use Rattle.format.specs.Node.{Kind, leaf, inner, other, kind_of, kind, child, leaf_count}
use Rattle.format.specs.Check.{Checked, accepted, refused, guard}
use Rattle.format.specs.Check.{check_child, check_children, check_body, enter, check_at, check_node}
use Rattle.subtrees.specs.Entered.{entered}
use Rattle.subtrees.proofs.NodeAt.{node_at}
use Rattle.format.specs.declared.Refusal.{Refusal}
use Rattle.subtrees.specs.Subtree.{placed, opened, Held}
use Rattle.subtrees.specs.Answers.{ptr_of}
use Rattle.subtrees.proofs.Places.{placed-guards, opened-guards}

kind-other : (x : ℕ) → (x ≡ 0 → ⊥) → (x ≡ 1 → ⊥) → kind_of x ≡ other
kind-other zero a b = absurd (a refl)
kind-other (suc zero) a b = absurd (b refl)
kind-other (suc (suc x)) a b = refl

module _ (L : Layout) (s : List ℕ) where
  -- ---- the node that a field leads to

  module _ (d start end f : ℕ) where
    pub node-below : target L s f ≡ below → refused 2 ≡ check_node L s d end start f
    unfolding check_node check_at
    node-below e = go d
      where
        go : (d : ℕ) → refused 2 ≡ check_node L s d end start f
        go zero = rw e
        go (suc d) = rw e

    module _ (p : ℕ) (t : target L s f ≡ at p) where
      node-placed : check_node L s d end start f
          ≡ ptr_of (placed start end p (head_size L) node_align) (enter L s end start p (kind L s p) (entered L s d start p (kind L s p)))
      unfolding check_at
      node-placed = node_at L s d start end f p t ∙ sym (placed-guards start end p (head_size L) node_align _)

      pub node-refused : {r : Refusal} → Err r ≡ placed start end p (head_size L) node_align → refused (number r) ≡ check_node L s d end start f
      node-refused e = rw (node-placed, ← e)

      module _ (e : placed start end p (head_size L) node_align ≡ Ok tt) where
        pub node-leaf : get_or s p 0 ≡ 0 → enter L s end start p leaf (entered L s d start p leaf) ≡ check_node L s d end start f
        unfolding kind
        node-leaf z = rw (node-placed, e, z)

        pub node-inner : get_or s p 0 ≡ 1 → enter L s end start p inner (entered L s d start p inner) ≡ check_node L s d end start f
        unfolding kind
        node-inner z = rw (node-placed, e, z)

        pub node-other : (get_or s p 0 ≡ 0 → ⊥) → (get_or s p 0 ≡ 1 → ⊥) → refused 4 ≡ check_node L s d end start f
        unfolding kind enter
        node-other y z = rw (node-placed, e, kind-other (get_or s p 0) y z)

  -- ---- a node whose first bytes are in their place

  entered-guards : (d start p : ℕ) (k : Kind) → entered L s (d - 1) start p k ≡ guard (ltb 1 d) 5 (check_body L s (check_node L s (d - 1 - 1)) start p k)
  unfolding entered
  entered-guards zero start p k = refl
  entered-guards (suc zero) start p k = refl
  entered-guards (suc (suc d)) start p k =
      let e₁ : suc (suc d) - 1 ≡ suc d = omega arith in
      let e₂ : suc d - 1 ≡ d = omega arith in
      rw (e₁, e₂, lt-ltb 1 (suc (suc d)) (omega arith))

  module _ (d start end p : ℕ) (h : Held start end p (head_size L) node_align) where
    sized : (size : ℕ) (k : Kind) → guard (leb (p + size) end) 2 (entered L s (d - 1) start p k)
        ≡ ptr_of (opened start end d p size node_align) (check_body L s (check_node L s (d - 1 - 1)) start p k)
    sized size k =
        rw (
          opened-guards start end p size node_align d,
          placed-guards start end p size node_align,
          le-leb _ _ h.low,
          eq-eqb _ _ h.even,
          entered-guards d start p k,
        )

    enter-leaf : enter L s end start p leaf (entered L s (d - 1) start p leaf)
        ≡ ptr_of (opened start end d p (leaf_size L) node_align) (check_body L s (check_node L s (d - 1 - 1)) start p leaf)
    unfolding enter
    enter-leaf = sized (leaf_size L) leaf

    enter-inner : enter L s end start p inner (entered L s (d - 1) start p inner)
        ≡ ptr_of (opened start end d p (inner_size L) node_align) (check_body L s (check_node L s (d - 1 - 1)) start p inner)
    unfolding enter
    enter-inner = sized (inner_size L) inner

    module _ {r : Refusal} where
      pub leaf-refused : Err r ≡ opened start end d p (leaf_size L) node_align → refused (number r) ≡ enter L s end start p leaf (entered L s (d - 1) start p leaf)
      leaf-refused e = rw (enter-leaf, ← e)

      pub inner-refused : Err r ≡ opened start end d p (inner_size L) node_align
          → refused (number r) ≡ enter L s end start p inner (entered L s (d - 1) start p inner)
      inner-refused e = rw (enter-inner, ← e)

    -- n is the count that the code reads of a leaf.
    module _ (e : opened start end d p (leaf_size L) node_align ≡ Ok tt) (n : ℕ) (read : n ≡ leaf_count L s p) where
      pub leaf-long : L.entries < n → refused 6 ≡ enter L s end start p leaf (entered L s (d - 1) start p leaf)
      unfolding check_body
      leaf-long l = rw (enter-leaf, e, ← read, lt-leb _ _ l)

      pub leaf-entries : {t : ℕ} → n ≤ L.entries → t ≡ p + leaf_size L → accepted n t ≡ enter L s end start p leaf (entered L s (d - 1) start p leaf)
      unfolding check_body
      leaf-entries l k = rw (k, enter-leaf, e, ← read, le-leb _ _ l)

    module _ (e : opened start end d p (inner_size L) node_align ≡ Ok tt) where
      pub inner-child-refused : {r : ℕ} → check_children L s (check_node L s (d - 1 - 1) p) p L.entries 0 start L.entries ≡ refused r
          → refused r ≡ enter L s end start p inner (entered L s (d - 1) start p inner)
      unfolding check_body
      inner-child-refused c = rw (enter-inner, e, c)

      pub inner-entries : {n from t : ℕ} → check_children L s (check_node L s (d - 1 - 1) p) p L.entries 0 start L.entries ≡ accepted n from
          → t ≡ p + inner_size L → accepted n t ≡ enter L s end start p inner (entered L s (d - 1) start p inner)
      unfolding check_body
      inner-entries c k = rw (k, enter-inner, e, c)

  -- ---- the children

  module _ (visit : ℕ → ℕ → Checked) (p k i start total : ℕ) where
    gone : absent L s (child L p i) ≡ true → check_child L s visit start (child L p i) ≡ accepted 0 start
    unfolding check_child
    gone h = rw (h, check_child)

    pub children-absent : absent L s (child L p i) ≡ true → check_children L s visit p (suc k) i start total ≡ check_children L s visit p k (suc i) start total
    unfolding check_children
    children-absent h = rw (gone h) (ap (λ (x : ℕ). check_children L s visit p k (suc i) start x) (add-zero total))

    pub last-absent : absent L s (child L p i) ≡ true → check_children L s visit p zero i start total ≡ accepted total start
    unfolding check_children
    last-absent h = rw (gone h) (ap (λ (x : ℕ). accepted x start) (add-zero total))

    module _ (h : absent L s (child L p i) ≡ false) where
      visited : (a : Checked) → visit start (child L p i) ≡ a → check_child L s visit start (child L p i) ≡ a
      unfolding check_child
      visited a e = rw (h, check_child) e

      pub children-refused : (r : ℕ) → visit start (child L p i) ≡ refused r → check_children L s visit p (suc k) i start total ≡ refused r
      unfolding check_children
      children-refused r e = rw (visited (refused r) e)

      pub children-entries : (m t : ℕ) → visit start (child L p i) ≡ accepted m t
          → check_children L s visit p (suc k) i start total ≡ check_children L s visit p k (suc i) t (total + m)
      unfolding check_children
      children-entries m t e = rw (visited (accepted m t) e)

      pub last-refused : (r : ℕ) → visit start (child L p i) ≡ refused r → check_children L s visit p zero i start total ≡ refused r
      unfolding check_children
      last-refused r e = rw (visited (refused r) e)

      pub last-entries : (m t : ℕ) → visit start (child L p i) ≡ accepted m t → check_children L s visit p zero i start total ≡ accepted (total + m) t
      unfolding check_children
      last-entries m t e = rw (visited (accepted m t) e)
