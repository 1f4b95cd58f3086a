-- The check accepts exactly the nodes of the relation, and the list does not depend on the fuel from the depth on. Assumes nothing.
use Prim.Native.Nat.{ℕ, zero, suc, ◌+◌, ◌≤◌}
use Rattle.std.specs.Prelude.{◌≡◌, Bool, true, ◌↔◌, List}
use Rattle.std.proofs.Math.Path.{refl, ap}
use Rattle.std.proofs.Common.{sym, ◌∙◌, le-leb, eq-eqb}
use native.Mathlib.Omega.{arith}
use Rattle.format.specs.declared.Entry.{Entry}
use Rattle.format.specs.Layout.{Layout, head_size}
use Rattle.format.specs.RelPtr.{at, target}
use Rattle.format.specs.Node.{Kind, leaf, inner, other, kind, size_at}
use Rattle.format.specs.Check.{Checked, accepted, guard, check_child, check_children, check_body, enter, check_at, check_node}
use Rattle.format.specs.Entries.{list_child, list_children, list_body, list_at}
use Rattle.format.specs.Reachable.{Inside}
use Rattle.format.specs.NodeRelation.{ChildOk, gone, there, ChildrenOk, last, more, NodeOk, leaf_ok, inner_ok, Holds, Valid, LeadsToNode}
use Rattle.format.proofs.Laws.Check.Sound.{sound}

pub pass : {b : Bool} → b ≡ true → (r : ℕ) (a : Checked) → guard b r a ≡ a
pass e r a = rw e

module _ (L : Layout) (s : List ℕ) where
  enter-passes : (lo hi p : ℕ) (a : Checked) → Inside L s lo hi p → (k : Kind) → kind L s p ≡ k → (k ≡ other → ⊥) → enter L s hi lo p k a ≡ a
  unfolding enter
  enter-passes lo hi p a i leaf ek no_other = pass (le-leb _ _ (rw ek at i.high)) 2 a
  enter-passes lo hi p a i inner ek no_other = pass (le-leb _ _ (rw ek at i.high)) 2 a
  enter-passes lo hi p a i other ek no_other = absurd (no_other refl)

  at-passes : (lo hi p : ℕ) (a : Checked) → Inside L s lo hi p → (k : Kind) → kind L s p ≡ k → (k ≡ other → ⊥) → check_at L s hi lo (at p) a ≡ a
  unfolding check_at
  at-passes lo hi p a i k ek no_other =
      pass (le-leb _ _ i.low) _ _ ∙ pass (le-leb _ _ (head k ek no_other)) _ _ ∙ pass (eq-eqb _ _ i.aligned) _ _
      ∙ rw ek (enter-passes lo hi p a i k ek no_other)
    where
      head : (k : Kind) → kind L s p ≡ k → (k ≡ other → ⊥) → p + head_size L ≤ hi
      head leaf ek no_other = let h = rw ek at i.high in omega arith
      head inner ek no_other = let h = rw ek at i.high in omega arith
      head other ek no_other = absurd (no_other refl)

  module _ (N : ℕ → ℕ → ℕ → ℕ → Type 0) (check : ℕ → ℕ → ℕ → Checked)
      (ih : (lo hi f p n : ℕ) → target L s f ≡ at p → N lo hi p n → check hi lo f ≡ accepted n (p + size_at L s p)) where
    child-accepted : {lo hi f stop n : ℕ} → ChildOk L s N lo hi f stop n → check_child L s (check hi) lo f ≡ accepted n stop
    unfolding check_child
    child-accepted (gone ea es en) = rw (ea, check_child) (cc)
    child-accepted (there ea q el nd es) = rw (ea, check_child) (rw es (ih _ _ _ q _ el nd))

    children-accepted : {p k i lo m : ℕ} → ChildrenOk L s N p k i lo m → (n : ℕ)
        → (stop : ℕ) × (check_children L s (check p) p k i lo n ≡ accepted (n + m) stop)
    unfolding check_children
    children-accepted (last {stop = t} c) n = (t, rw (child-accepted c))
    children-accepted {m = m} (more {stop = t} {a = a} {b = b} c ks en) n =
        let (t', e) = children-accepted ks (n + a) in
        let en' : n + a + b ≡ n + m = omega arith in
        (t', rw (child-accepted c) (e ∙ ap (λ (x : ℕ). accepted x t') en'))

    node-accepted : {lo hi p n : ℕ} → NodeOk L s N lo hi p n → check_body L s check lo p (kind L s p) ≡ accepted n (p + size_at L s p)
    unfolding check_body
    node-accepted (leaf_ok ek i l e) = rw ek (pass (le-leb _ _ l) _ _ ∙ cc)
    node-accepted (inner_ok ek i m ks e) = let (t, ea) = children-accepted ks L.entries in rw ek (rw (ea, e))

    node-kind : {lo hi p n : ℕ} → NodeOk L s N lo hi p n → kind L s p ≡ other → ⊥
    node-kind (leaf_ok ek i l e) eo = let z : ◌≡◌ {A = ℕ} 0 1 = cc in omega arith
    node-kind (inner_ok ek i m ks e) eo = let z : ◌≡◌ {A = ℕ} 0 1 = cc in omega arith

    node-inside : {lo hi p n : ℕ} → NodeOk L s N lo hi p n → Inside L s lo hi p
    node-inside (leaf_ok ek i l e) = i
    node-inside (inner_ok ek i m ks e) = i

  holds-accepted : (d lo hi f p n : ℕ) → target L s f ≡ at p → Holds L s d lo hi p n → check_node L s d hi lo f ≡ accepted n (p + size_at L s p)
  unfolding check_node
  holds-accepted zero lo hi f p n el v = absurd v
  holds-accepted (suc d) lo hi f p n el v =
      rw el (at-passes lo hi p _ (node-inside (Holds L s d) (check_node L s d) (holds-accepted d) v) (kind L s p) refl
      (node-kind (Holds L s d) (check_node L s d) (holds-accepted d) v)
      ∙ node-accepted (Holds L s d) (check_node L s d) (holds-accepted d) v)

  pub complete : {d lo hi p n : ℕ} → Valid L s d lo hi p n → (f : ℕ) → target L s f ≡ at p → check_node L s d hi lo f ≡ accepted n (p + size_at L s p)
  complete {d} v f el = holds-accepted d _ _ _ _ _ el v.holds

  -- The check accepts exactly when the node relation holds where the field leads.
  pub accepts-exactly : (d hi lo f n t : ℕ) → (check_node L s d hi lo f ≡ accepted n t) ↔ LeadsToNode L s (Holds L s d) lo hi f n t
  accepts-exactly d hi lo f n t =
      (sound L s d hi lo f n t, λ l. holds-accepted d lo hi f l.pos n l.leads l.node ∙ ap (accepted n) (sym l.next))

  -- ---- the list does not depend on the fuel

  module _ (N : ℕ → ℕ → ℕ → ℕ → Type 0) (give give' : ℕ → List Entry)
      (ih : (lo hi p n : ℕ) → N lo hi p n → give p ≡ give' p) where
    child-same : {lo hi f stop n : ℕ} → ChildOk L s N lo hi f stop n → list_child L s give f ≡ list_child L s give' f
    unfolding list_child
    child-same (gone ea es en) = rw (ea, list_child)
    child-same (there ea q el nd es) = rw (ea, el, list_child) (ih _ _ _ _ nd)

    children-same : {p k i lo n : ℕ} → ChildrenOk L s N p k i lo n → list_children L s give p k i ≡ list_children L s give' p k i
    unfolding list_children
    children-same (last c) = child-same c
    children-same (more c ks en) = rw (child-same c, children-same ks)

    node-same : {lo hi p n : ℕ} → NodeOk L s N lo hi p n → list_body L s give p (kind L s p) ≡ list_body L s give' p (kind L s p)
    unfolding list_body
    node-same (leaf_ok ek i l e) = rw ek
    node-same (inner_ok ek i m ks e) = rw ek (children-same ks)

  pub holds_same : (d fuel : ℕ) → d ≤ fuel → (lo hi p n : ℕ) → Holds L s d lo hi p n → list_at L s fuel p ≡ list_at L s d p
  unfolding list_at
  holds_same zero fuel h lo hi p n v = absurd v
  holds_same (suc d) zero h lo hi p n v = absurd (omega arith)
  holds_same (suc d) (suc fuel) h lo hi p n v = node-same (Holds L s d) (list_at L s fuel) (list_at L s d) (holds_same d fuel (omega arith)) v

  -- From the depth on, more fuel gives the same list.
  pub same-list : {d lo hi p n : ℕ} → Valid L s d lo hi p n → (fuel : ℕ) → d ≤ fuel → list_at L s fuel p ≡ list_at L s d p
  same-list {d} v fuel h = holds_same d fuel h _ _ _ _ v.holds
