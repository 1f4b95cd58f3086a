-- Where the fields that are reachable from a node that holds lead: into the range before the node's end (`lands`), two of them to nodes that share
-- no byte (`apart`), and no two to one node (`once`). Assumes nothing.
use Prim.Native.Nat.{ℕ, zero, suc, ◌+◌, ◌≤◌}
use Rattle.std.specs.Prelude.{◌≡◌, refl, Bool, true, false, ◌≢◌, List}
use Rattle.std.proofs.Common.{subst, inl, inr, arith}
use Rattle.std.proofs.Math.Decide.{ℕ_discrete}
use Rattle.format.specs.Layout.{Layout}
use Rattle.format.specs.RelPtr.{at, target, absent}
use Rattle.format.specs.Node.{inner, child, kind, size_at}
use Rattle.format.specs.Reachable.{Below, From, here, down, Inside, Lands, Apart}
use Rattle.format.specs.NodeRelation.{ChildOk, gone, there, ChildrenOk, last, more, NodeOk, leaf_ok, inner_ok, Holds, Valid}

-- Child j is one of k + 1 children from child i on.
pub data Nth : ℕ → ℕ → ℕ → Type 0 where
  this : {k i : ℕ} → Nth k i i
  next : {k i j : ℕ} → Nth k (suc i) j → Nth (suc k) i j

pub nth : (k i j m : ℕ) → j ≡ i + m → m ≤ k → Nth k i j
nth k i j zero e h = let e' : i ≡ j = omega arith in subst (λ (x : ℕ). Nth k i x) e' this
nth zero i j (suc m) e h = absurd (omega arith)
nth (suc k) i j (suc m) e h = next (nth k (suc i) j m (omega arith) (omega arith))

-- Any child of a node.
pub nth_of : {k j : ℕ} → j ≤ k → Nth k 0 j
nth_of {k} {j} h = nth k 0 j j (omega arith) h

pub true≢false : {b : Bool} → b ≡ true → b ≡ false → ⊥
true≢false p q = let z : ◌≡◌ {A = ℕ} 0 1 = cc in omega arith

module _ (L : Layout) (s : List ℕ) where
  pub data First (g f : ℕ) : Type 0 where
    same : f ≡ g → First g f
    via : {h : ℕ} → Below L s g h → From L s h f → First g f

  pub first : {g f : ℕ} → From L s g f → First g f
  first here = same refl
  first {g} (down {h} {f} r b) = go (first r)
    where
      go : First g h → First g f
      go (same e) = via (subst (λ (x : ℕ). Below L s x f) e b) here
      go (via c r') = via c (down r' b)

  pub wider : {lo top lo' top' f : ℕ} → lo' ≤ lo → top ≤ top' → Lands L s lo top f → Lands L s lo' top' f
  wider hl ht l =
      record {
        pos = l.pos;
        leads = l.leads;
        inside = record { low = omega arith; high = omega arith; solid = l.inside.solid; aligned = l.inside.aligned };
      }

  inside_of : (N : ℕ → ℕ → ℕ → ℕ → Type 0) {lo hi p n : ℕ} → NodeOk L s N lo hi p n → Inside L s lo hi p
  inside_of N (leaf_ok ek i l e) = i
  inside_of N (inner_ok ek i m ks e) = i

  pub children-of : (N : ℕ → ℕ → ℕ → ℕ → Type 0) {lo hi p n : ℕ} → NodeOk L s N lo hi p n → kind L s p ≡ inner
      → (m : ℕ) × ChildrenOk L s N p L.entries 0 lo m
  children-of N (leaf_ok ek i l e) e' = let z : ◌≡◌ {A = ℕ} 0 1 = cc in absurd (omega arith)
  children-of N (inner_ok ek i m ks e) e' = (m, ks)

  -- f is reachable through a child that is there: one of k + 1 children of the node at p from child i on.
  pub record Through (p f k i : ℕ) : Type 0 where
    pub index : ℕ
    pub nth : Nth k i index
    pub present : absent L s (child L p index) ≡ false
    pub from : From L s (child L p index) f

  -- A field below g, where g leads to p, is reached through a child of p.
  pub through-below : {g h p f : ℕ} → target L s g ≡ at p → (b : Below L s g h) → From L s h f → (b.node ≡ p) × Through p f L.entries 0
  through-below {g} {h} {p} el b r =
      let e : b.node ≡ p = cc b.leads in
      let ei : h ≡ child L p b.index = rw (← e) b.is in
      (e, record { index = b.index; nth = nth_of b.bound; present = rw ei at b.present; from = rw ei at r })

  -- The two facts that the induction on the depth carries about nodes N one level down.
  record Known (N : ℕ → ℕ → ℕ → ℕ → Type 0) : Type 0 where
    placed : {lo hi p n : ℕ} → N lo hi p n → Inside L s lo hi p
    under : {lo hi p n g f : ℕ} → N lo hi p n → target L s g ≡ at p → From L s g f → Lands L s lo (p + size_at L s p) f

  module _ (N : ℕ → ℕ → ℕ → ℕ → Type 0) (K : Known N) where
    -- The next child's range starts no earlier and no later than the node.
    child-moves : {lo hi f stop n : ℕ} → ChildOk L s N lo hi f stop n → lo ≤ hi → (lo ≤ stop) × (stop ≤ hi)
    child-moves (gone ea es en) h = omega arith
    child-moves (there ea q el nd es) h = let i = K.placed nd in omega arith

    child-lands : {lo hi g stop n f : ℕ} → ChildOk L s N lo hi g stop n → absent L s g ≡ false → From L s g f → Lands L s lo stop f
    child-lands (gone ea es en) pr r = absurd (true≢false ea pr)
    child-lands (there ea q el nd es) pr r = rw es (K.under nd el r)

    children-land : {p k i j lo n f : ℕ} → ChildrenOk L s N p k i lo n → lo ≤ p → Nth k i j → absent L s (child L p j) ≡ false
        → From L s (child L p j) f → Lands L s lo p f
    children-land (last c) h this pr r = wider (omega arith) (child-moves c h).1 (child-lands c pr r)
    children-land (more c ks en) h this pr r = wider (omega arith) (child-moves c h).1 (child-lands c pr r)
    children-land (more c ks en) h (next x) pr r = let m = child-moves c h in wider m.0 (omega arith) (children-land ks m.1 x pr r)

    node-lands : {lo hi p n g f : ℕ} → NodeOk L s N lo hi p n → target L s g ≡ at p → From L s g f → Lands L s lo (p + size_at L s p) f
    node-lands {lo} {hi} {p} {n} {g} {f} nd el r = go (first r)
      where
        ins : Inside L s lo hi p
        ins = inside_of N nd

        go : First g f → Lands L s lo (p + size_at L s p) f
        go (same e) = record { pos = p; leads = rw e el; inside = record { low = ins.low; high = omega arith; solid = ins.solid; aligned = ins.aligned } }
        go (via b r') =
            let (e, u) = through-below el b r' in
            wider (omega arith) (omega arith) (children-land (children-of N nd (rw e at b.inside)).1 ins.low u.nth u.present u.from)

  known : (d : ℕ) → Known (Holds L s d)
  known zero = record { placed = λ v. absurd v; under = λ v el r. absurd v }
  known (suc d) = record { placed = inside_of (Holds L s d); under = node-lands (Holds L s d) (known d) }

  pub inside : {d lo hi p n : ℕ} → Valid L s d lo hi p n → Inside L s lo hi p
  inside {d} v = (known d).placed v.holds

  -- From a field that leads to a node that holds, every reachable field leads to an aligned node from the range's start up to that node's end.
  pub lands : {d lo hi p n g f : ℕ} → Valid L s d lo hi p n → target L s g ≡ at p → From L s g f → Lands L s lo (p + size_at L s p) f
  lands {d} v = (known d).under v.holds

  before : {lo mid hi f f' : ℕ} → Lands L s lo mid f → Lands L s mid hi f' → Apart L s f f'
  before l l' = record { pos = l.pos; pos' = l'.pos; leads = l.leads; leads' = l'.leads; apart = inl (omega arith) }

  after : {lo mid hi f f' : ℕ} → Lands L s mid hi f → Lands L s lo mid f' → Apart L s f f'
  after l l' = record { pos = l.pos; pos' = l'.pos; leads = l.leads; leads' = l'.leads; apart = inr (omega arith) }

  Separate : (N : ℕ → ℕ → ℕ → ℕ → Type 0) → Type 0
  Separate N = (lo hi p n g f f' : ℕ) → N lo hi p n → target L s g ≡ at p → From L s g f → From L s g f' → f ≢ f' → Apart L s f f'

  module _ (N : ℕ → ℕ → ℕ → ℕ → Type 0) (K : Known N) (S : Separate N) where
    child-apart : {lo hi g stop n f f' : ℕ} → ChildOk L s N lo hi g stop n → absent L s g ≡ false → From L s g f → From L s g f' → f ≢ f' → Apart L s f f'
    unfolding Separate
    child-apart (gone ea es en) pr r r' ne = absurd (true≢false ea pr)
    child-apart (there ea q el nd es) pr r r' ne = S _ _ _ _ _ _ _ nd el r r' ne

    children-apart : {p k i j j' lo n f f' : ℕ} → ChildrenOk L s N p k i lo n → lo ≤ p → Nth k i j → absent L s (child L p j) ≡ false → From L s (child L p j) f
        → Nth k i j' → absent L s (child L p j') ≡ false → From L s (child L p j') f' → f ≢ f' → Apart L s f f'
    children-apart (last c) h this pr r this pr' r' ne = child-apart c pr r r' ne
    children-apart (more c ks en) h this pr r this pr' r' ne = child-apart c pr r r' ne
    children-apart (more c ks en) h this pr r (next x') pr' r' ne = before (child-lands N K c pr r) (children-land N K ks (child-moves N K c h).1 x' pr' r')
    children-apart (more c ks en) h (next x) pr r this pr' r' ne = after (children-land N K ks (child-moves N K c h).1 x pr r) (child-lands N K c pr' r')
    children-apart (more c ks en) h (next x) pr r (next x') pr' r' ne = children-apart ks (child-moves N K c h).1 x pr r x' pr' r' ne

    node-apart : {lo hi p n g f f' : ℕ} → NodeOk L s N lo hi p n → target L s g ≡ at p → From L s g f → From L s g f' → f ≢ f' → Apart L s f f'
    node-apart {lo} {hi} {p} {n} {g} {f} {f'} nd el r r' ne = go (first r) (first r')
      where
        ins : Inside L s lo hi p
        ins = inside_of N nd

        self : {x : ℕ} → x ≡ g → Lands L s p (p + size_at L s p) x
        self e = record { pos = p; leads = rw e el; inside = record { low = omega arith; high = omega arith; solid = ins.solid; aligned = ins.aligned } }

        deep : {h x : ℕ} → Below L s g h → From L s h x → Lands L s lo p x
        deep b q =
            let (e, u) = through-below el b q in
            children-land N K (children-of N nd (rw e at b.inside)).1 ins.low u.nth u.present u.from

        go : First g f → First g f' → Apart L s f f'
        go (same e) (same e') = absurd (ne (cc))
        go (same e) (via b q) = after (self e) (deep b q)
        go (via b q) (same e) = before (deep b q) (self e)
        go (via b q) (via b' q') =
            let (e, u) = through-below el b q in
            let (e', u') = through-below el b' q' in
            children-apart (children-of N nd (rw e at b.inside)).1 ins.low u.nth u.present u.from u'.nth u'.present u'.from ne

  separate : (d : ℕ) → Separate (Holds L s d)
  unfolding Separate
  separate zero lo hi p n g f f' v el r r' ne = absurd v
  separate (suc d) lo hi p n g f f' v el r r' ne = node-apart (Holds L s d) (known d) (separate d) v el r r' ne

  -- Two different ones lead to nodes that share no byte.
  pub apart : {d lo hi p n g f f' : ℕ} → Valid L s d lo hi p n → target L s g ≡ at p → From L s g f → From L s g f' → f ≢ f' → Apart L s f f'
  unfolding Separate
  apart {d} v el r r' ne = separate d _ _ _ _ _ _ _ v.holds el r r' ne

  -- Two that lead to one node are one field.
  pub once : {d lo hi p n g f f' q : ℕ} → Valid L s d lo hi p n → target L s g ≡ at p → From L s g f → From L s g f' → target L s f ≡ at q
      → target L s f' ≡ at q → f ≡ f'
  once {d} {lo} {hi} {p} {n} {g} {f} {f'} {q} v el r r' ef ef' = elim (ℕ_discrete f f') [ yes e ↦ e | no ne ↦ absurd (clash (apart v el r r' ne)) ]
    where
      clash : Apart L s f f' → ⊥
      clash a =
          let e : a.pos ≡ q = cc a.leads in
          let e' : a.pos' ≡ q = cc a.leads' in
          let i = lands v el r in
          let e'' : i.pos ≡ q = cc i.leads in
          let big : 8 ≤ size_at L s q = rw e'' at i.inside.solid in
          elim a.apart [ inl h ↦ omega (arith, rw e at h) | inr h ↦ omega (arith, rw e' at h) ]
