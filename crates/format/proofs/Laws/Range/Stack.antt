-- What a stack of the range iterator has yet to give, where nodes are valid and not hollow: after the loop to the first entry, after a step of
-- `next`, and after the search for a bound. Assumes nothing.
use Prim.Native.Nat.{ℕ, zero, suc, ◌+◌, ◌-◌, ◌≤◌, ◌<◌}
use Rattle.std.specs.Prelude.{◌≡◌, Bool, ltb}
use Rattle.std.proofs.Math.Path.{refl, sym}
use Rattle.std.proofs.Common.{◌∙◌}
use Rattle.std.proofs.Math.Bool.{true, false}
use mathlib.Core.List.{List, [], ◌∷◌, ◌++◌, append_assoc}
use native.Mathlib.Omega.{arith}
use Rattle.std.proofs.Math.Nat.{sub-zero}
use borrow.Author.Tests.{ltb-true, ltb-false, eqb-false}
use Rattle.format.specs.declared.Entry.{Entry}
use Rattle.format.specs.Layout.{Layout}
use Rattle.format.specs.RelPtr.{at, target, absent}
use Rattle.format.specs.Node.{Kind, leaf, inner, other, child, kind, leaf_count, slot}
use Rattle.format.specs.Entries.{slots, list_child, list_children, list_body, list_at}
use Rattle.format.specs.Certify.{Ascending, hollow, any_child, any_children, any_body, hollow_at}
use Rattle.format.specs.RangeIter.{Frame, frame, along, along_child, leftmost_body, leftmost, seek_slots, seek_children, seek_body, seek, push, onward}
use Rattle.format.specs.NodeRelation.{ChildOk, gone, there, ChildrenOk, last, more, NodeOk, leaf_ok, inner_ok, Holds}
use Rattle.format.proofs.Laws.Certify.Ascend.{Split, split}
use Rattle.format.proofs.Laws.Certify.Certified.{or_left, or_right}
use Rattle.format.proofs.Laws.Check.Complete.{holds_same}
use Rattle.format.proofs.Laws.Range.List.{drop_to, Rises, drop-hit, drop-miss}
use Rattle.format.proofs.Laws.Check.Reach.{true≢false, children-of, Nth, this, next, nth_of}

module _ (L : Layout) (s : List ℕ) where
  -- The node at p, of kind c, has a slot i.
  abbrev HasSlot : ℕ → ℕ → Kind → Type 0
  HasSlot p i leaf = i < leaf_count L s p
  HasSlot p i inner = i < L.entries
  HasSlot p i other = ⊥

  -- A valid node, nested at most d deep, with no hollow node from it on.
  pub record Full (d p : ℕ) : Type 0 where
    pub lo : ℕ
    pub hi : ℕ
    pub n : ℕ
    pub holds : Holds L s d lo hi p n
    pub solid : hollow_at L s d p ≡ false

  child-full : (d : ℕ) {lo hi f stop n : ℕ} → ChildOk L s (Holds L s d) lo hi f stop n → any_child L s (hollow_at L s d) f ≡ false → absent L s f ≡ false
      → (q : ℕ) × (target L s f ≡ at q) × Full d q
  unfolding any_child
  child-full d (gone ea es en) e pr = absurd (true≢false ea pr)
  child-full d (there ea q el nd es) e pr = (q, el, record { holds = nd; solid = rw (ea, el, any_child) at e; lo = _; hi = _; n = _ })

  children-full : (d : ℕ) {p k i j lo n : ℕ} → ChildrenOk L s (Holds L s d) p k i lo n → any_children L s (hollow_at L s d) p k i ≡ false → Nth k i j
      → absent L s (child L p j) ≡ false → (q : ℕ) × (target L s (child L p j) ≡ at q) × Full d q
  unfolding any_children
  children-full d (last c) e this pr = child-full d c e pr
  children-full d (more c ks en) e this pr = child-full d c (or_left _ _ e) pr
  children-full d {p} {k} {i} (more c ks en) e (next x) pr = children-full d ks (or_right (any_child L s (hollow_at L s d) (child L p i)) _ e) x pr

  -- A child of a full inner node, unless absent, leads to a full node.
  full-child : (d p j : ℕ) → Full (suc d) p → kind L s p ≡ inner → j ≤ L.entries → absent L s (child L p j) ≡ false
      → (q : ℕ) × (target L s (child L p j) ≡ at q) × Full d q
  unfolding hollow_at any_body
  full-child d p j f ek h pr =
      children-full d (children-of L s (Holds L s d) f.holds ek).1 (rw ek at (or_right (hollow L s p (kind L s p)) _ f.solid)) (nth_of h) pr

  -- The first child of a full inner node is not absent.
  full-first : (d p : ℕ) → Full (suc d) p → kind L s p ≡ inner → absent L s (child L p 0) ≡ false
  unfolding hollow_at hollow
  full-first d p f ek = rw ek at (or_left (hollow L s p (kind L s p)) _ f.solid)

  -- A full node has a first slot.
  full-slot : (d p : ℕ) → 0 < L.entries → Full (suc d) p → HasSlot p 0 (kind L s p)
  unfolding hollow_at hollow
  full-slot d p pos f = by f.holds (or_left (hollow L s p (kind L s p)) _ f.solid)
    where
      by : {lo hi n : ℕ} → NodeOk L s (Holds L s d) lo hi p n → hollow L s p (kind L s p) ≡ false → HasSlot p 0 (kind L s p)
      by (leaf_ok ek i l en) e = rw ek (let ne = eqb-false (leaf_count L s p) 0 (rw ek at e) in omega arith)
      by (inner_ok ek i m ks en) e = rw ek pos

  -- Both loops to the first entry go on to an inner node's first child, unless that is absent.
  leftmost-inner : (tests : Bool) (go : ℕ → List Frame → List Frame) (q : ℕ) (st : List Frame) → absent L s (child L q 0) ≡ false
      → leftmost_body L s tests go q inner st ≡ along_child L s go (child L q 0) (frame q 0 ∷ st)
  unfolding leftmost_body along_child
  leftmost-inner true go q st ea = refl
  leftmost-inner false go q st ea = rw (ea, along_child)

  -- Lists are read with this fuel; the nodes that a stack stands on are nested at most as deep.
  module _ (fuel : ℕ) where
    -- What the node at p, of kind c, gives from child i on, or of a leaf from slot i on.
    unfoldable pub after : ℕ → ℕ → Kind → List Entry
    after p i leaf = slots L s p (leaf_count L s p - i) i
    after p i inner = list_children L s (list_at L s fuel) p (L.entries - i) i
    after p i other = []

    after-slots : (p n i : ℕ) → n + i ≡ leaf_count L s p → after p i leaf ≡ slots L s p n i
    unfolding after
    after-slots p n i h = let e : leaf_count L s p - i ≡ n = omega arith in rw e

    after-children : (p n i : ℕ) → n + i ≡ L.entries → after p i inner ≡ list_children L s (list_at L s fuel) p n i
    unfolding after
    after-children p n i h = let e : L.entries - i ≡ n = omega arith in rw e

    -- At a slot.
    after-leaf : (p i : ℕ) → i < leaf_count L s p → after p i leaf ≡ slot L s p i ∷ after p (suc i) leaf
    unfolding after slots
    after-leaf p i h = let e : leaf_count L s p - i ≡ suc (leaf_count L s p - suc i) = omega arith in rw e

    after-inner : (p i : ℕ) → i < L.entries → after p i inner ≡ list_child L s (list_at L s fuel) (child L p i) ++ slot L s p i ∷ after p (suc i) inner
    unfolding after list_children
    after-inner p i h = let e : L.entries - i ≡ suc (L.entries - suc i) = omega arith in rw e

    -- Past the last slot, and at the greater child.
    after_none : (p i : ℕ) → leaf_count L s p ≤ i → after p i leaf ≡ []
    unfolding after slots
    after_none p i h = let e : leaf_count L s p - i ≡ 0 = omega arith in rw e

    after_last : (p i : ℕ) → i ≡ L.entries → after p i inner ≡ list_child L s (list_at L s fuel) (child L p i)
    unfolding after list_children
    after_last p i h = let e : L.entries - i ≡ 0 = omega arith in rw e

    -- From the start, all that a full node gives.
    after-zero : (p : ℕ) (c : Kind) → after p 0 c ≡ list_body L s (list_at L s fuel) p c
    unfolding after list_body
    after-zero p leaf = rw sub-zero
    after-zero p inner = rw sub-zero
    after-zero p other = refl

    full_body : (d p : ℕ) → d ≤ fuel → Full d p → list_at L s fuel p ≡ list_body L s (list_at L s fuel) p (kind L s p)
    unfolding list_at
    full_body d p h f = holds_same L s d fuel h _ _ _ _ f.holds ∙ sym (holds_same L s d (suc fuel) (omega arith) _ _ _ _ f.holds)

    -- The stack stands on slots of full nodes, and has this list to give: its top slot, what follows that slot in its node, and what the frames below
    -- have to give.
    pub data Stack : List Frame → List Entry → Type 0 where
      bottom : Stack [] []
      upon : {p i : ℕ} {st : List Frame} {l : List Entry} (d : ℕ) → d < fuel → Full (suc d) p → HasSlot p i (kind L s p) → Stack st l
          → Stack (frame p i ∷ st) (slot L s p i ∷ (after p (suc i) (kind L s p) ++ l))

    push-slot : {p i : ℕ} {c : Kind} {st : List Frame} {l : List Entry} (d : ℕ) → d < fuel → Full (suc d) p → kind L s p ≡ c → HasSlot p i c → Stack st l
        → Stack (frame p i ∷ st) (slot L s p i ∷ (after p (suc i) c ++ l))
    push-slot {i = i} d h f ek t z = rw (← ek) (upon {i = i} d h f (rw ek t) z)

    push-leaf : {p i : ℕ} {st : List Frame} {l : List Entry} (d : ℕ) → d < fuel → Full (suc d) p → kind L s p ≡ leaf → i < leaf_count L s p → Stack st l
        → Stack (frame p i ∷ st) (after p i leaf ++ l)
    push-leaf {p} {i} d h f ek t z = rw (after-leaf p i t) (push-slot d h f ek t z)

    -- A child's field: `go` goes on from the nodes N, and `cut` is what it leaves of such a node's list.
    child-stack : (go : ℕ → List Frame → List Frame) (N : ℕ → Type 0) (cut : List Entry → List Entry) → cut [] ≡ []
        → ((q : ℕ) (st : List Frame) (l : List Entry) → N q → Stack st l → Stack (go q st) (cut (list_at L s fuel q) ++ l))
        → (f : ℕ) (st : List Frame) (l : List Entry) → (absent L s f ≡ false → (q : ℕ) × (target L s f ≡ at q) × N q) → Stack st l
        → Stack (along_child L s go f st) (cut (list_child L s (list_at L s fuel) f) ++ l)
    unfolding along_child along list_child
    child-stack go N cut ec ih f st l k z = by (absent L s f) refl
      where
        by : (b : Bool) → absent L s f ≡ b → Stack (along_child L s go f st) (cut (list_child L s (list_at L s fuel) f) ++ l)
        by true ea = rw (ea, along_child, list_child, ec) z
        by false ea = let (q, el, nd) = k ea in rw (ea, along_child, el, list_child) (ih q st l nd z)

    -- Child i of an inner node, with the slot after it on the stack.
    inner-stack : (d p i : ℕ) (st : List Frame) (l : List Entry) (go : ℕ → List Frame → List Frame)
        → ((q : ℕ) (st : List Frame) (l : List Entry) → Full d q → Stack st l → Stack (go q st) (list_at L s fuel q ++ l))
        → d < fuel → Full (suc d) p → kind L s p ≡ inner → i < L.entries → Stack st l
        → Stack (along_child L s go (child L p i) (frame p i ∷ st)) (after p i inner ++ l)
    inner-stack d p i st l go ih h f ek t z =
        rw (after-inner p i t, append_assoc) (child-stack go (Full d) (λ (x : List Entry). x) refl ih (child L p i) (frame p i ∷ st) _
        (λ pr. full-child d p i f ek (omega arith) pr) (push-slot d h f ek t z))

    module _ (pos : 0 < L.entries) where
      -- The loop to the first entry of a full node: the stack has that node's list to give first.
      pub leftmost-stack : (tests : Bool) (d c : ℕ) → d ≤ c → d ≤ fuel → (q : ℕ) (st : List Frame) (l : List Entry) → Full d q → Stack st l
          → Stack (leftmost L s tests c q st) (list_at L s fuel q ++ l)
      unfolding leftmost leftmost_body
      leftmost-stack tests zero c hc hf q st l f z = absurd f.holds
      leftmost-stack tests (suc d) zero hc hf q st l f z = absurd (omega arith)
      leftmost-stack tests (suc d) (suc c) hc hf q st l f z =
          rw (full_body (suc d) q hf f, ← (after-zero q (kind L s q)))
          (by (kind L s q) refl (full-slot d q pos f) (leftmost-stack tests d c (omega arith) (omega arith)))
        where
          by : (k : Kind) → kind L s q ≡ k → HasSlot q 0 k
              → ((q : ℕ) (st : List Frame) (l : List Entry) → Full d q → Stack st l → Stack (leftmost L s tests c q st) (list_at L s fuel q ++ l))
              → Stack (leftmost_body L s tests (leftmost L s tests c) q k st) (after q 0 k ++ l)
          by leaf ek t ih = push-leaf d hf f ek t z
          by inner ek t ih =
              rw (leftmost-inner tests (leftmost L s tests c) q st (full-first d q f ek)) (inner-stack d q 0 st l (leftmost L s tests c) ih hf f ek t z)
          by other ek t ih = absurd t

      -- `next` after slot i of the node at p: the stack has to give what follows the slot in the node, then what the frames below have to give.
      pub onward-stack : (d p i : ℕ) (st : List Frame) (l : List Entry) → d < fuel → Full (suc d) p → HasSlot p i (kind L s p) → Stack st l
          → Stack (onward L s fuel p i (kind L s p) st) (after p (suc i) (kind L s p) ++ l)
      unfolding onward
      onward-stack d p i st l h f t z = by (kind L s p) refl t
        where
          go : ℕ → List Frame → List Frame
          go = leftmost L s false fuel

          ih : (q : ℕ) (st : List Frame) (l : List Entry) → Full d q → Stack st l → Stack (leftmost L s false fuel q st) (list_at L s fuel q ++ l)
          ih = leftmost-stack false d fuel (omega arith) (omega arith)

          in_leaf : kind L s p ≡ leaf → (b : Bool) → ltb (suc i) (leaf_count L s p) ≡ b → Stack (onward L s fuel p i leaf st) (after p (suc i) leaf ++ l)
          in_leaf ek true eb = rw (eb, onward) (push-leaf d h f ek (ltb-true _ _ eb) z)
          in_leaf ek false eb = let o = ltb-false (suc i) (leaf_count L s p) eb in rw (eb, onward, after_none p (suc i) o) z

          in_inner : kind L s p ≡ inner → i < L.entries → (b : Bool) → ltb (suc i) L.entries ≡ b
              → Stack (onward L s fuel p i inner st) (after p (suc i) inner ++ l)
          in_inner ek t true eb = rw (eb, onward) (inner-stack d p (suc i) st l go ih h f ek (ltb-true _ _ eb) z)
          in_inner ek t false eb =
              let o = ltb-false (suc i) L.entries eb in
              rw (eb, onward, after_last p (suc i) (omega arith)) (child-stack go (Full d) (λ (x : List Entry). x) refl ih (child L p (suc i)) st l
              (λ pr. full-child d p (suc i) f ek (omega arith) pr) z)

          by : (k : Kind) → kind L s p ≡ k → HasSlot p i k → Stack (onward L s fuel p i k st) (after p (suc i) k ++ l)
          by leaf ek t = in_leaf ek (ltb (suc i) (leaf_count L s p)) refl
          by inner ek t = in_inner ek t (ltb (suc i) L.entries) refl
          by other ek t = absurd t

    -- A node to search: full, with keys that ascend.
    abbrev Ordered : ℕ → ℕ → Type 0
    Ordered d q = Full d q × Ascending (list_at L s fuel q)

    module _ (f : Entry → Bool) where
      slots-stack : (d p n i : ℕ) (st : List Frame) (l : List Entry) → d < fuel → Full (suc d) p → kind L s p ≡ leaf → n + i ≡ leaf_count L s p → Stack st l
          → Stack (seek_slots L s (push L s) f p n i st) (drop_to f (slots L s p n i) ++ l)
      unfolding seek_slots slots
      slots-stack d p zero i st l h x ek e z = z
      slots-stack d p (suc n) i st l h x ek e z = by (f (slot L s p i)) refl (slots-stack d p n (suc i) st l h x ek (omega arith) z)
        where
          by : (b : Bool) → f (slot L s p i) ≡ b → Stack (seek_slots L s (push L s) f p n (suc i) st) (drop_to f (slots L s p n (suc i)) ++ l)
              → Stack (seek_slots L s (push L s) f p (suc n) i st) (drop_to f (slots L s p (suc n) i) ++ l)
          by true eb r = rw (eb, seek_slots, drop_to, ← (after-slots p n (suc i) (omega arith))) (push-slot d h x ek (omega arith) z)
          by false eb r = rw (eb, seek_slots, drop_to) r

      seek-child : (d p i : ℕ) (go : ℕ → List Frame → List Frame) (st : List Frame) (l : List Entry)
          → ((q : ℕ) (st : List Frame) (l : List Entry) → Ordered d q → Stack st l → Stack (go q st) (drop_to f (list_at L s fuel q) ++ l))
          → Full (suc d) p → kind L s p ≡ inner → i ≤ L.entries → Ascending (list_child L s (list_at L s fuel) (child L p i)) → Stack st l
          → Stack (along_child L s go (child L p i) st) (drop_to f (list_child L s (list_at L s fuel) (child L p i)) ++ l)
      unfolding list_child
      seek-child d p i go st l ih x ek h a z =
          child-stack go (Ordered d) (drop_to f) refl ih (child L p i) st l
          (λ pr. let (q, el, y) = full-child d p i x ek h pr in (q, el, (y, rw (pr, el, list_child) at a))) z

      module _ (rises : Rises f) where
        children-stack : (d p n i : ℕ) (go : ℕ → List Frame → List Frame) (st : List Frame) (l : List Entry)
            → ((q : ℕ) (st : List Frame) (l : List Entry) → Ordered d q → Stack st l → Stack (go q st) (drop_to f (list_at L s fuel q) ++ l))
            → d < fuel → Full (suc d) p → kind L s p ≡ inner → n + i ≡ L.entries → Ascending (list_children L s (list_at L s fuel) p n i) → Stack st l
            → Stack (seek_children L s (push L s) f go p n i st) (drop_to f (list_children L s (list_at L s fuel) p n i) ++ l)
        unfolding seek_children list_children
        children-stack d p zero i go st l ih h x ek e a z = seek-child d p i go st l ih x ek (omega arith) a z
        children-stack d p (suc n) i go st l ih h x ek e a z = by (f y) refl (children-stack d p n (suc i) go st l ih h x ek (omega arith) sp.right z)
          where
            y : Entry
            y = slot L s p i

            u : List Entry
            u = list_child L s (list_at L s fuel) (child L p i)

            v : List Entry
            v = list_children L s (list_at L s fuel) p n (suc i)

            sp : Split u y v
            sp = split u y v a

            by : (b : Bool) → f y ≡ b → Stack (seek_children L s (push L s) f go p n (suc i) st) (drop_to f v ++ l)
                → Stack (seek_children L s (push L s) f go p (suc n) i st) (drop_to f (u ++ y ∷ v) ++ l)
            by true eb r =
                rw (eb, seek_children, drop-hit f u v y eb, append_assoc (drop_to f u) (y ∷ v) l, ← (after-children p n (suc i) (omega arith)))
                (seek-child d p i go (frame p i ∷ st) _ ih x ek (omega arith) sp.left (push-slot d h x ek (omega arith) z))
            by false eb r = rw (eb, seek_children, drop-miss f rises u v y eb sp.under) r

        -- The search for the first entry that passes a test that rises: the stack has to give the node's list from that entry on.
        pub seek-stack : (d c : ℕ) → d ≤ c → d ≤ fuel → (q : ℕ) (st : List Frame) (l : List Entry) → Ordered d q → Stack st l
            → Stack (seek L s (push L s) f c q st) (drop_to f (list_at L s fuel q) ++ l)
        unfolding seek seek_body list_body
        seek-stack zero c hc hf q st l x z = absurd x.0.holds
        seek-stack (suc d) zero hc hf q st l x z = absurd (omega arith)
        seek-stack (suc d) (suc c) hc hf q st l x z =
            rw (full_body (suc d) q hf x.0)
            (by (kind L s q) refl (rw (full_body (suc d) q hf x.0) at x.1) (seek-stack d c (omega arith) (omega arith)))
          where
            by : (k : Kind) → kind L s q ≡ k → Ascending (list_body L s (list_at L s fuel) q k)
                → ((q : ℕ) (st : List Frame) (l : List Entry) → Ordered d q → Stack st l
                → Stack (seek L s (push L s) f c q st) (drop_to f (list_at L s fuel q) ++ l))
                → Stack (seek_body L s (push L s) f (seek L s (push L s) f c) q k st) (drop_to f (list_body L s (list_at L s fuel) q k) ++ l)
            by leaf ek a ih = slots-stack d q (leaf_count L s q) 0 st l hf x.0 ek (omega arith) z
            by inner ek a ih = children-stack d q L.entries 0 (seek L s (push L s) f c) st l ih hf x.0 ek (omega arith) a z
            by other ek a ih = z
