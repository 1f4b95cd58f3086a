-- The lookup: what the scan of a node's slots keeps, what the loop down the tree keeps, and that a value that is found lies within the bytes. Assumes
-- nothing.
use Rattle.std.specs.Prelude.{Option, Some, None, Result, Ok, Err}
use mathlib.Core.Path.{◌≡◌, refl, sym, ap, ◌∙◌}
use Prim.Native.Nat.{ℕ, zero, suc, ◌+◌, ◌-◌, ◌*◌, ◌≤◌, ◌<◌}
use native.Mathlib.Omega.{arith}
use native.Mathlib.Numerals.{add-one}
use mathlib.Core.List.{List, []}
use lib.ListN.{length, take, drop, get_or}
use borrow.Author.Tests.{eq-eqb, ne_eqb, le-ltb, lt-ltb}
use Rattle.format.specs.declared.Entry.{Entry}
use Rattle.format.specs.declared.Position.{Position}
use Rattle.format.specs.Layout.{Layout, keys_from, head_size, Limits, nested}
use Rattle.format.specs.Bytes.{le_at}
use Rattle.format.specs.Node.{leaf, inner, child, leaf_count, slot}
use Rattle.format.specs.Lookup.{Order, less, equal, greater, order, lookup_slots, lookup_children, lookup_body, lookup_at, bytes_of}
use Rattle.format.specs.Readable.{LeadsTo, child_at, Node, leaf_g, inner_g, Good, LeafNode, InnerNode}
use Rattle.format.proofs.Laws.Read.Children.{on_child, on-at, on-absent, look-child, child-leads}
use Rattle.format.proofs.Laws.Read.Node.{kind-leaf, as-leaf, as-inner, lookup-node}
use Rattle.lookups.specs.Seek.{order_at, seek_at}
use Rattle.btree.proofs.Runs.{one_left}

-- ---- the scan of a node's slots

module _ (s : List ℕ) (p key : ℕ) where
  module _ (n i : ℕ) where
    at_less : order_at s p key i ≡ less → seek_at s p key (suc n) i ≡ Err i
    unfolding seek_at
    at_less e = rw (e, seek_at)

    at-equal : order_at s p key i ≡ equal → seek_at s p key (suc n) i ≡ Ok i
    unfolding seek_at
    at-equal e = rw (e, seek_at)

    at_greater : order_at s p key i ≡ greater → seek_at s p key (suc n) i ≡ seek_at s p key n (i + 1)
    unfolding seek_at
    at_greater e = rw (e, add-one i, seek_at)

  at-end : (i : ℕ) → seek_at s p key 0 i ≡ Err i
  unfolding seek_at
  at-end i = refl

  -- k is the key that the code reads in slot i.
  module _ (n i k : ℕ) (h : i < n) (e : k ≡ le_at 8 s (p + keys_from + 8 * i)) (q : seek_at s p key (n - i) i ≡ seek_at s p key n 0) where
    pub seek-less : key < k → Err i ≡ seek_at s p key n 0
    seek-less l = cc (one_left n i h, at_less (n - (i + 1)) i (rw (← e, lt-ltb key k l)), q)

    pub seek-equal : k ≤ key → key ≡ k → Ok i ≡ seek_at s p key n 0
    seek-equal l t = cc (one_left n i h, at-equal (n - (i + 1)) i (rw (← e, le-ltb key k l, eq-eqb key k t)), q)

    pub seek-greater : k ≤ key → (key ≡ k → ⊥) → seek_at s p key (n - (i + 1)) (i + 1) ≡ seek_at s p key n 0
    seek-greater l t = cc (one_left n i h, at_greater (n - (i + 1)) i (rw (← e, le-ltb key k l, ne_eqb key k t)), q)

  pub seek-end : (n i : ℕ) → i ≤ n → n ≤ i → seek_at s p key (n - i) i ≡ seek_at s p key n 0 → Err n ≡ seek_at s p key n 0
  seek-end n i l h q = let z : n - i ≡ 0 = omega arith in let w : i ≡ n = omega arith in cc (at-end i, q)

-- ---- the slot that the scan gives is one of the node's

-- A slot below n, or a place not past n.
abbrev Within : ℕ → Result ℕ ℕ → Type 0
Within n (Ok i) = i < n
Within n (Err i) = i ≤ n

module _ (s : List ℕ) (p key : ℕ) where
  scan-within : (n i m : ℕ) → n + i ≡ m → Within m (seek_at s p key n i)
  unfolding seek_at
  scan-within zero i m e = omega arith
  scan-within (suc n) i m e = go (order_at s p key i) (scan-within n (suc i) m (omega arith))
    where
      go : (o : Order) → Within m (seek_at s p key n (suc i)) → Within m (elim o [ less ↦ Err i | equal ↦ Ok i | greater ↦ seek_at s p key n (suc i) ])
      go less h = omega (arith, e)
      go equal h = omega (arith, e)
      go greater h = h

  seek-within : (n : ℕ) → Within n (seek_at s p key n 0)
  seek-within n = scan-within n 0 n (omega arith)

  -- r is what the scan gave.
  pub seek-slot : (n i : ℕ) (r : Result ℕ ℕ) → r ≡ seek_at s p key n 0 → r ≡ Ok i → i < n
  seek-slot n i r e k = rw (sym e ∙ k) at (seek-within n)

  pub seek-child : (n i : ℕ) (r : Result ℕ ℕ) → r ≡ seek_at s p key n 0 → r ≡ Err i → i ≤ n
  seek-child n i r e k = rw (sym e ∙ k) at (seek-within n)

  pub seek-all : (n e : ℕ) (r : Result ℕ ℕ) → r ≡ seek_at s p key n 0 → n ≡ e → r ≡ seek_at s p key e 0
  seek-all n e r q w = q ∙ ap (λ k. seek_at s p key k 0) w

-- ---- the lookup in a node, by the scan

module _ (L : Layout) (s : List ℕ) where
  unfoldable leaf_found : ℕ → Result ℕ ℕ → Option Entry
  leaf_found p (Ok i) = Some (slot L s p i)
  leaf_found p (Err i) = None

  unfoldable inner_found : (ℕ → Option Entry) → ℕ → Result ℕ ℕ → Option Entry
  inner_found g p (Ok i) = Some (slot L s p i)
  inner_found g p (Err i) = on_child None g (child_at L s (child L p i))

  slots-seek : (key p n i : ℕ) → lookup_slots L s key p n i ≡ leaf_found p (seek_at s p key n i)
  unfolding lookup_slots leaf_found seek_at slot
  slots-seek key p zero i = refl
  slots-seek key p (suc n) i = go (order key (slot L s p i)) refl (slots-seek key p n (suc i))
    where
      go : (o : Order) → order key (slot L s p i) ≡ o → lookup_slots L s key p n (suc i) ≡ leaf_found p (seek_at s p key n (suc i))
          → lookup_slots L s key p (suc n) i ≡ leaf_found p (seek_at s p key (suc n) i)
      go less w ih = rw (w, lookup_slots, seek_at)
      go equal w ih = rw (w, lookup_slots, seek_at)
      go greater w ih = rw (w, lookup_slots, seek_at) ih

  children-seek : (key : ℕ) (look : ℕ → Option Entry) (p n i : ℕ) → lookup_children L s key look p n i ≡ inner_found look p (seek_at s p key n i)
  unfolding lookup_children inner_found seek_at slot
  children-seek key look p zero i = look-child L s key look (child L p i)
  children-seek key look p (suc n) i = go (order key (slot L s p i)) refl (children-seek key look p n (suc i))
    where
      go : (o : Order) → order key (slot L s p i) ≡ o → lookup_children L s key look p n (suc i) ≡ inner_found look p (seek_at s p key n (suc i))
          → lookup_children L s key look p (suc n) i ≡ inner_found look p (seek_at s p key (suc n) i)
      go less w ih = rw (w, lookup_children, seek_at) (look-child L s key look (child L p i))
      go equal w ih = rw (w, lookup_children, seek_at)
      go greater w ih = rw (w, lookup_children, seek_at) ih

module _ (L : Layout) (M : Limits) (s : List ℕ) where
  lookup-leaf : (p key : ℕ) → Node L M s p → get_or s p 0 ≡ 0 → lookup_at L s key (nested M) p ≡ leaf_found L s p (seek_at s p key (leaf_count L s p) 0)
  unfolding lookup_body
  lookup-leaf p key v h = lookup-node L M s key p v ∙ rw (kind-leaf L s p h) (slots-seek L s key p (leaf_count L s p) 0)

  lookup-inner : (p key : ℕ) → Node L M s p → (get_or s p 0 ≡ 0 → ⊥)
      → lookup_at L s key (nested M) p ≡ inner_found L s (lookup_at L s key (nested M)) p (seek_at s p key L.entries 0)
  unfolding lookup_body
  lookup-inner p key v h = lookup-node L M s key p v ∙ rw (as-inner L M s v h).is (children-seek L s key (lookup_at L s key (nested M)) p L.entries 0)

  -- ---- the loop down the tree: r is what the scan of the node at p gave, and g what the lookup comes to

  module _ (p key : ℕ) (r : Result ℕ ℕ) (g : Option Entry) (v : Node L M s p) (t : lookup_at L s key (nested M) p ≡ g) where
    module _ (n : ℕ) (h : get_or s p 0 ≡ 0) (c : n ≡ leaf_count L s p) (q : r ≡ seek_at s p key n 0) where
      pub leaf-hit : (i : ℕ) (e : Entry) → r ≡ Ok i → e ≡ slot L s p i → Some e ≡ g
      unfolding leaf_found
      leaf-hit i e k f = cc (lookup-leaf p key v h, t, c, q)

      pub leaf-miss : (i : ℕ) → r ≡ Err i → None ≡ g
      unfolding leaf_found
      leaf-miss i k = cc (lookup-leaf p key v h, t, c, q)

    module _ (h : get_or s p 0 ≡ 0 → ⊥) (q : r ≡ seek_at s p key L.entries 0) where
      pub inner-hit : (i : ℕ) (e : Entry) → r ≡ Ok i → e ≡ slot L s p i → Some e ≡ g
      unfolding inner_found
      inner-hit i e k f = cc (lookup-inner p key v h, t, q)

      pub inner-miss : (i : ℕ) (c : Option Position) → r ≡ Err i → c ≡ child_at L s (child L p i) → c ≡ None → None ≡ g
      unfolding inner_found
      inner-miss i c k e a = cc (lookup-inner p key v h, on-absent None (lookup_at L s key (nested M)) (child_at L s (child L p i)) (sym e ∙ a), t, q)

      pub inner-down : (i : ℕ) (c : Option Position) (w : Position) → r ≡ Err i → c ≡ child_at L s (child L p i) → c ≡ Some w
          → lookup_at L s key (nested M) w.0 ≡ g
      unfolding inner_found
      inner-down i c w k e a = cc (lookup-inner p key v h, on-at None (lookup_at L s key (nested M)) (child_at L s (child L p i)) w (sym e ∙ a), t, q)

  -- ---- what the reads of a leaf ask: n is the count that the code reads

  pub leaf-count : {p : ℕ} (n : ℕ) → Node L M s p → get_or s p 0 ≡ 0 → n ≡ leaf_count L s p → n ≤ L.entries
  leaf-count n v h e = let c = (as-leaf L M s v h).count in omega arith

  pub leaf-slot : {p : ℕ} (key n i : ℕ) (r : Result ℕ ℕ) → Node L M s p → get_or s p 0 ≡ 0 → n ≡ leaf_count L s p → r ≡ seek_at s p key n 0
      → r ≡ Ok i → i < L.entries
  leaf-slot {p} key n i r v h e q k = let l = seek-slot s p key n i r q k in let c = leaf-count n v h e in omega arith

-- ---- the value that is found lies within the bytes

abbrev InRoom : List ℕ → Option Entry → Type 0
InRoom s (Some e) = e.position.0 + 8 ≤ length s
InRoom s None = Unit {0}

module _ (L : Layout) (s : List ℕ) where
  slot-room : (p i : ℕ) → p + head_size L ≤ length s → i < L.entries → InRoom s (Some (slot L s p i))
  unfolding slot
  slot-room p i h l = omega arith

  leaf_room : (p n : ℕ) (r : Result ℕ ℕ) → p + head_size L ≤ length s → n ≤ L.entries → Within n r → InRoom s (leaf_found L s p r)
  unfolding leaf_found
  leaf_room p n (Ok i) h m w = slot-room p i h (omega arith)
  leaf_room p n (Err i) h m w = tt

  child-room : (g : ℕ → Option Entry) (f : ℕ) → ((q : ℕ) → LeadsTo L s f q → InRoom s (g q)) → InRoom s (on_child None g (child_at L s f))
  unfolding on_child
  child-room g f e = go (child_at L s f) refl
    where
      go : (c : Option Position) → child_at L s f ≡ c → InRoom s (on_child None g (child_at L s f))
      go (Some q) ec = rw ec (e q.0 (child-leads L s f q ec))
      go None ec = rw ec tt

  inner_room : (g : ℕ → Option Entry) (p : ℕ) (r : Result ℕ ℕ) → p + head_size L ≤ length s → Within L.entries r
      → ((j q : ℕ) → j ≤ L.entries → LeadsTo L s (child L p j) q → InRoom s (g q)) → InRoom s (inner_found L s g p r)
  unfolding inner_found
  inner_room g p (Ok i) h w e = slot-room p i h w
  inner_room g p (Err i) h w e = child-room g (child L p i) (λ q l. e i q w l)

  leaf-part : (key : ℕ) (look : ℕ → Option Entry) (p : ℕ) → LeafNode L s p → InRoom s (lookup_body L s key look p leaf)
  unfolding lookup_body
  leaf-part key look p n =
      let r = n.room in
      rw (slots-seek L s key p (leaf_count L s p) 0) (leaf_room p (leaf_count L s p) _ (omega arith) n.count (seek-within s p key (leaf_count L s p)))

  inner-part : (key : ℕ) (look : ℕ → Option Entry) (p : ℕ) → InnerNode L s p → ((j q : ℕ) → j ≤ L.entries → LeadsTo L s (child L p j) q → InRoom s (look q))
      → InRoom s (lookup_body L s key look p inner)
  unfolding lookup_body
  inner-part key look p n ih =
      let r = n.room in
      rw (children-seek L s key look p L.entries 0) (inner_room look p _ (omega arith) (seek-within s p key L.entries) ih)

  -- By the depth d that the node needs, where the lookup is given m.
  good-room : (key d m : ℕ) → d ≤ m → (p : ℕ) → Good L s d p → InRoom s (lookup_at L s key m p)
  unfolding lookup_at
  good-room key zero m le p v = absurd v
  good-room key (suc d) zero le p v = absurd (omega arith)
  good-room key (suc d) (suc m) le p (leaf_g n) = rw n.is (leaf-part key (lookup_at L s key m) p n)
  good-room key (suc d) (suc m) le p (inner_g n v) =
      rw n.is (inner-part key (lookup_at L s key m) p n (λ j q l x. good-room key d m (omega arith) q (v j q l x)))

pub same_place : {a b : ℕ × ℕ} → b.0 ≡ a.0 → b.1 ≡ a.1 → b ≡ a
same_place {a} {b} e f = ap (λ (x : ℕ). (x, b.1)) e ∙ ap (λ (y : ℕ). (a.0, y)) f

module _ (L : Layout) (M : Limits) (s : List ℕ) (p key : ℕ) (r : Option Entry) (q : r ≡ lookup_at L s key (nested M) p) where
  pub found-room : (e : Entry) → Node L M s p → r ≡ Some e → e.position.0 + 8 ≤ length s
  found-room e v k = rw (sym q ∙ k) at (good-room L s key v.level (nested M) v.fits p v.good)

  -- ---- the part of the bytes that is handed back: its content, and where it stands

  pub bytes-eight : (e : Entry) → r ≡ Some e → take 8 (drop e.position.0 s) ≡ bytes_of s (lookup_at L s key (nested M) p)
  unfolding bytes_of
  bytes-eight e k = rw (← q, k) refl

  pub bytes-some : (e : Entry) → r ≡ Some e → take (e.position.0 + 8 - e.position.0) (drop e.position.0 s) ≡ bytes_of s (lookup_at L s key (nested M) p)
  bytes-some e k = let z : e.position.0 + 8 - e.position.0 ≡ 8 = omega arith in rw z (bytes-eight e k)

  pub bytes-none : r ≡ None → [] ≡ bytes_of s (lookup_at L s key (nested M) p)
  unfolding bytes_of
  bytes-none k = rw (← q, k) refl
