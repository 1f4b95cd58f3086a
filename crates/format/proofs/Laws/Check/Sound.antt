-- Where the check accepts, the node relation holds: each accepting computation is taken apart test by test. Assumes nothing.
use Prim.Native.Nat.{ℕ, zero, suc, ◌+◌, ◌%◌}
use Rattle.std.specs.Prelude.{◌≡◌, Bool, List}
use Rattle.std.proofs.Math.Path.{refl, ap}
use Rattle.std.proofs.Math.Bool.{true, false}
use Rattle.std.proofs.Common.{arith}
use Rattle.std.proofs.Math.Dec.{leb, eqb}
use borrow.Author.Tests.{leb-true, eqb-true}
use Rattle.format.specs.Layout.{Layout, head_size, leaf_size, inner_size}
use Rattle.format.specs.RelPtr.{at, below, target, absent, Destination}
use Rattle.format.specs.Node.{Kind, leaf, inner, other, child, kind, size_at, leaf_count}
use Rattle.format.specs.Check.{Checked, accepted, refused, bind, guard, check_child, check_children, check_body, enter, check_at, place, check_node}
use Rattle.format.specs.Reachable.{Inside}
use Rattle.format.specs.NodeRelation.{ChildOk, gone, there, ChildrenOk, last, more, NodeOk, leaf_ok, inner_ok, Holds, LeadsToNode}

refused≢accepted : (r n t : ℕ) → refused r ≡ accepted n t → ⊥
refused≢accepted r n t e = let z : ◌≡◌ {A = ℕ} 0 1 = cc in omega arith

pub guard-inv : (b : Bool) (r : ℕ) (a : Checked) {n t : ℕ} → guard b r a ≡ accepted n t → (b ≡ true) × (a ≡ accepted n t)
guard-inv true r a e = (refl, e)
guard-inv false r a e = absurd (refused≢accepted _ _ _ e)

pub bind_inv : (a : Checked) (k : ℕ → ℕ → Checked) {n t : ℕ} → bind a k ≡ accepted n t → (m : ℕ) × (u : ℕ) × (a ≡ accepted m u) × (k m u ≡ accepted n t)
bind_inv (accepted m u) k e = (m, u, refl, e)
bind_inv (refused r) k e = absurd (refused≢accepted _ _ _ e)

module _ (L : Layout) (s : List ℕ) where
  module _ (N : ℕ → ℕ → ℕ → ℕ → Type 0) (check : ℕ → ℕ → Checked) (hi : ℕ)
      (ih : (lo f n t : ℕ) → check lo f ≡ accepted n t → LeadsToNode L s N lo hi f n t) where
    child-inv : (lo f n t : ℕ) → check_child L s check lo f ≡ accepted n t → ChildOk L s N lo hi f t n
    unfolding check_child
    child-inv lo f n t e = go (absent L s f) refl
      where
        go : (b : Bool) → absent L s f ≡ b → ChildOk L s N lo hi f t n
        go true ea = let e' : accepted 0 lo ≡ accepted n t = rw (ea, check_child) at e in gone ea (cc) (cc)
        go false ea = let e' : check lo f ≡ accepted n t = rw (ea, check_child) at e in
            let h = ih lo f n t e' in there ea h.pos h.leads h.node h.next

    children-inv : (k i lo n₀ n t : ℕ) → check_children L s check hi k i lo n₀ ≡ accepted n t → (m : ℕ) × ChildrenOk L s N hi k i lo m × (n ≡ n₀ + m)
    unfolding check_children
    children-inv zero i lo n₀ n t e =
        let (m, u, ec, er) = bind_inv (check_child L s check lo (child L hi i)) _ e in
        (m, last (child-inv lo _ m u ec), cc)
    children-inv (suc k) i lo n₀ n t e =
        let (m, u, ec, er) = bind_inv (check_child L s check lo (child L hi i)) _ e in
        let (m', ks, en) = children-inv k (suc i) u (n₀ + m) n t er in
        (m + m', more (child-inv lo _ m u ec) ks refl, omega arith)

  body-inv : (N : ℕ → ℕ → ℕ → ℕ → Type 0) (check : ℕ → ℕ → ℕ → Checked)
      (ih : (hi lo f n t : ℕ) → check hi lo f ≡ accepted n t → LeadsToNode L s N lo hi f n t)
      (lo hi p n t : ℕ) → Inside L s lo hi p → (k : Kind) → kind L s p ≡ k → check_body L s check lo p k ≡ accepted n t
      → NodeOk L s N lo hi p n × (t ≡ p + size_at L s p)
  unfolding check_body
  body-inv N check ih lo hi p n t ins leaf ek e =
      let (ec, ea) = guard-inv (leb (leaf_count L s p) L.entries) _ _ e in
      (leaf_ok ek ins (leb-true _ _ ec) (cc), rw ek (cc))
  body-inv N check ih lo hi p n t ins inner ek e =
      let (m, u, ec, er) = bind_inv (check_children L s (check p) p L.entries 0 lo L.entries) _ e in
      let (m', ks, en) = children-inv N (check p) p (ih p) L.entries 0 lo L.entries m u ec in
      (inner_ok ek ins m' ks (cc), rw ek (cc))
  body-inv N check ih lo hi p n t ins other ek e = absurd (refused≢accepted _ _ _ e)

  -- What an accepting test of a node's place says.
  record PlacePasses (lo hi : ℕ) (g : Destination) (a : Checked) (n t : ℕ) : Type 0 where
    pos : ℕ
    leads : g ≡ at pos
    inside : Inside L s lo hi pos
    opens : a ≡ accepted n t

  at-inv : (lo hi : ℕ) (g : Destination) (a : Checked) (n t : ℕ) → check_at L s hi lo g a ≡ accepted n t → PlacePasses lo hi g a n t
  unfolding check_at enter
  at-inv lo hi (at p) a n t e =
      let (el, e₁) = guard-inv (leb lo p) _ _ e in
      let (eh, e₂) = guard-inv (leb (p + head_size L) hi) _ _ e₁ in
      let (ea, e₃) = guard-inv (eqb (p % 8) 0) _ _ e₂ in
      go el ea (kind L s p) refl e₃
    where
      go : leb lo p ≡ true → eqb (p % 8) 0 ≡ true → (k : Kind) → kind L s p ≡ k → enter L s hi lo p k a ≡ accepted n t → PlacePasses lo hi (at p) a n t
      go el ea leaf ek e₃ =
          let (es, e₄) = guard-inv (leb (p + leaf_size L) hi) _ _ e₃ in
          record {
            pos = p;
            leads = refl;
            inside = record { low = leb-true _ _ el; high = rw ek (leb-true _ _ es); solid = rw ek (omega arith); aligned = eqb-true _ _ ea };
            opens = e₄;
          }
      go el ea inner ek e₃ =
          let (es, e₄) = guard-inv (leb (p + inner_size L) hi) _ _ e₃ in
          record {
            pos = p;
            leads = refl;
            inside = record { low = leb-true _ _ el; high = rw ek (leb-true _ _ es); solid = rw ek (omega arith); aligned = eqb-true _ _ ea };
            opens = e₄;
          }
      go el ea other ek e₃ = absurd (refused≢accepted _ _ _ e₃)
  at-inv lo hi below a n t e = absurd (refused≢accepted _ _ _ e)

  pub sound : (d hi lo f n t : ℕ) → check_node L s d hi lo f ≡ accepted n t → LeadsToNode L s (Holds L s d) lo hi f n t
  unfolding check_node
  sound zero hi lo f n t e = absurd (refused≢accepted _ _ _ (at-inv lo hi (target L s f) _ n t e).opens)
  sound (suc d) hi lo f n t e =
      let h = at-inv lo hi (target L s f) _ n t e in
      let eq : place L s (target L s f) ≡ h.pos = ap (place L s) h.leads in
      let b = body-inv (Holds L s d) (check_node L s d) (λ hi lo f n t. sound d hi lo f n t) lo hi h.pos n t h.inside (kind L s h.pos) refl
      (rw eq at h.opens) in
      record { pos = h.pos; leads = h.leads; node = b.0; next = b.1 }
