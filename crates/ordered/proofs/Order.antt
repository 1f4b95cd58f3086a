-- The order of the keys and the hollow nodes, as the quick way of certification goes along. Assumes nothing.
use mathlib.Core.Path.{◌≡◌, refl, sym, ap, ◌∙◌}
use mathlib.Core.Bool.{true, false}
use mathlib.Core.List.{List, [], ◌∷◌, ◌++◌, append_assoc, append-nil}
use Prim.Native.Nat.{ℕ, zero, suc, ◌+◌, ◌-◌, ◌%◌, ◌<◌, ◌≤◌}
use native.Mathlib.Nat.{add-zero, zero-add}
use native.Mathlib.Numerals.{add-one}
use native.Mathlib.Omega.{arith}
use lib.ListN.{get_or, length}
use borrow.Author.Tests.{le-leb, lt-ltb, eq-eqb, ne_eqb}
use Rattle.std.specs.Prelude.{Option, Some, None, IfSome, IsSome, IsSomeAnd}
use Rattle.format.specs.declared.Entry.{Entry}
use Rattle.format.specs.Layout.{Layout, entries_in_range, Limits, nested, pointer, head_size, leaf_size, inner_size, record_size, record_align}
use Rattle.format.specs.Refusal.{gives}
use Rattle.format.specs.Bytes.{le_at}
use Rattle.format.specs.RelPtr.{absent}
use Rattle.format.specs.Node.{kind, child, leaf_count, slot}
use Rattle.format.specs.Check.{accepted, counted, root, recorded, check_root, check_archive}
use Rattle.format.specs.Entries.{slots, list_child, list_children, list_body, list_at, list}
use Rattle.format.specs.Certify.{ascends_from, ascends, hollow, any_child, any_children, any_body, hollow_at, hollow_of, certify}
use Rattle.format.specs.Readable.{LeadsTo}
use Rattle.format.specs.NodeRelation.{ChildOk, Holds}
use Rattle.format.proofs.Laws.Read.Node.{kind-leaf}
use Rattle.quick.specs.Quick.{Root}
use Rattle.quick.proofs.Passing.{kind-inner, absent-child, leaf-child, inner-child, SoFar, one-passed, all-passed, root-passes}
use Rattle.ordered.specs.Order.{ascends_after, Leads, key_in, Rise, LeafKeys, KeysPass, ChildKeys, KeysBelow}
use Rattle.ordered.specs.declared.Passed.{Passed}

-- ---- keys

-- One key above the one before.
one-above : (k : ℕ) (e : Entry) (rest : List Entry) → k < e.key → ascends_from k (e ∷ rest) ≡ ascends_from e.key rest
one-above k e rest h = rw (lt-ltb k e.key h, ascends_from)

module _ (L : Layout) (s : List ℕ) where
  slot-key : (p i : ℕ) → (slot L s p i).key ≡ key_in s p i
  unfolding slot
  slot-key p i = refl

  -- n slots after slot i.
  slots-lead : (p n i : ℕ) → ((j : ℕ) → j < n → key_in s p (i + j) < key_in s p (suc (i + j))) → (rest : List Entry)
      → ascends_from (key_in s p i) (slots L s p n (suc i) ++ rest) ≡ ascends_from (key_in s p (i + n)) rest
  unfolding slots
  slots-lead p zero i each rest = ap (λ (k : ℕ). ascends_from (key_in s p k) rest) (omega arith)
  slots-lead p (suc n) i each rest =
      one-above (key_in s p i) (slot L s p (suc i)) (slots L s p n (suc (suc i)) ++ rest) (rw (slot-key p (suc i)) each_first)
      ∙ rw (slot-key p (suc i)) (slots-lead p n (suc i) each-later rest ∙ ap (λ (k : ℕ). ascends_from (key_in s p k) rest) (omega arith))
    where
      each_first : key_in s p i < key_in s p (suc i)
      each_first = rw (add-zero i) at (each 0 (omega arith))

      each-later : (j : ℕ) → j < n → key_in s p (suc i + j) < key_in s p (suc (suc i + j))
      each-later j h = let e : i + suc j ≡ suc i + j = omega arith in rw e at (each (suc j) (omega arith))

  leaf-leads : (p n : ℕ) (before : Option ℕ) → 0 < n → Rise s p n before → Leads before (slots L s p n 0) (key_in s p (n - 1))
  unfolding slots
  leaf-leads p zero before h r rest = absurd (omega arith)
  leaf-leads p (suc n) before h r rest = go before r.first
    where
      later : ascends_from (key_in s p 0) (slots L s p n 1 ++ rest) ≡ ascends_from (key_in s p (suc n - 1)) rest
      later =
          slots-lead p n 0 (λ j l. rw (zero-add j, ← add-one j) (r.each j (omega arith))) rest
          ∙ ap (λ (i : ℕ). ascends_from (key_in s p i) rest) (omega arith)

      go : (b : Option ℕ) → IfSome b (λ k. k < key_in s p 0) → ascends_after b (slots L s p (suc n) 0 ++ rest) ≡ ascends_from (key_in s p (suc n - 1)) rest
      go (Some k) above = one-above k (slot L s p 0) (slots L s p n 1 ++ rest) (rw (slot-key p 0) above) ∙ rw (slot-key p 0) later
      go None above = rw (slot-key p 0) later

  -- ---- a child

  solid-node : (d p : ℕ) → hollow L s p (kind L s p) ≡ false → any_body L s (hollow_at L s d) p (kind L s p) ≡ false → hollow_at L s (suc d) p ≡ false
  unfolding hollow_at
  solid-node d p h a = rw (h, hollow_at) a

  module _ (start end f : ℕ) where
    pub absent-keys : (d k : ℕ) → le_at (pointer L) s f ≡ 1 → KeysPass L s d start end f (Some k) 0 start k
    unfolding list_child any_child absent
    absent-keys d k o =
        let a = eq-eqb (le_at (pointer L) s f) 1 o in
        record { ok = absent-child L s start end f d o; keys = λ rest. rw (a, list_child); solid = rw (a, any_child) }

    module _ (before : Option ℕ) {p : ℕ} (to : LeadsTo L s f p) (low : start ≤ p) (even : p % 8 ≡ 0) where
      -- A node's list and whether one from it on is hollow, as the child's.
      node-keys : {d n t last : ℕ} → ChildOk L s (Holds L s d) start end f t n → Leads before (list_at L s d p) last → hollow_at L s d p ≡ false
          → KeysPass L s d start end f before n t last
      unfolding list_child any_child
      node-keys ok keys solid =
          record { ok = ok; keys = λ rest. rw (to.present, to.leads, list_child) (keys rest); solid = rw (to.present, to.leads, any_child) solid }

      leaf-keys : (d : ℕ) {n t : ℕ} → 0 < d → get_or s p 0 ≡ 0 → t ≡ p + leaf_size L → t ≤ end → n ≡ leaf_count L s p → 0 < n → n ≤ L.entries
          → Rise s p n before → KeysPass L s d start end f before n t (key_in s p (n - 1))
      unfolding list_at list_body hollow any_body
      leaf-keys zero h z e high en some-n few r = absurd (omega arith)
      leaf-keys (suc d) {n = n} h z e high en some-n few r =
          let i = kind-leaf L s p z in
          node-keys {d = suc d} (leaf-child L s start end f to low even (suc d) h z e high en few)
          (rw i (rw (← en) (leaf-leads p n before some-n r)))
          (solid-node d p (rw i (ne_eqb (leaf_count L s p) 0 (λ o. omega (arith, en, o)))) (rw i))

      -- As the code hands a leaf's answer on.
      pub leaf-answer : (d : ℕ) → 0 < d → get_or s p 0 ≡ 0 → p + leaf_size L ≤ end → (c : Passed) → LeafKeys L s p before c
          → ChildKeys L s d start end f before c
      leaf-answer d h z high c (et, en, some-n, few, r, el) = rw el (leaf-keys d h z et (omega arith) en some-n few r)

      pub inner-keys : (d : ℕ) {n t last : ℕ} → 0 < d → get_or s p 0 ≡ 1 → t ≡ p + inner_size L → t ≤ end → KeysBelow L s (d - 1) start p before n last
          → KeysPass L s d start end f before n t last
      unfolding list_at list_body hollow any_body
      inner-keys zero h z e high w = absurd (omega arith)
      inner-keys (suc d) {n = n} {t = t} {last = last} h z e high w = go (rw (less d) at w)
        where
          less : (d : ℕ) → suc d - 1 ≡ d
          less d = omega arith

          go : KeysBelow L s d start p before n last → KeysPass L s (suc d) start end f before n t last
          go v =
              let i = kind-inner L s p z in
              node-keys {d = suc d} (inner-child L s start end f to low even z e high (suc d) h w.below)
              (rw i v.keys) (solid-node d p (rw i v.first) (rw i v.solid))

  -- ---- an inner node's children

  -- x is what the code reads of the first child's field.
  pub first-there : (p x : ℕ) → x ≡ le_at (pointer L) s (p + head_size L) → (x ≡ 1 → ⊥) → absent L s (child L p 0) ≡ false
  unfolding absent
  first-there p x e h = ne_eqb (le_at (pointer L) s (child L p 0)) 1 (λ z. h (e ∙ ap (le_at (pointer L) s) (omega arith) ∙ z))

  module _ (d p start : ℕ) (before : Option ℕ) where
    abbrev all-keys : List Entry
    all-keys = list_children L s (list_at L s d) p L.entries 0

    -- The first i children and the slots after them are passed.
    pub record KeysSoFar (i from total : ℕ) (last : Option ℕ) : Type 0 where
      pub passed : SoFar L s d p start i from total
      pub order : i ≤ L.entries → (rest : List Entry) → ascends_after before (all-keys ++ rest)
          ≡ ascends_after last (list_children L s (list_at L s d) p (L.entries - i) i ++ rest)
      pub ordered : L.entries < i → IsSomeAnd last (Leads before all-keys)
      pub any : i ≤ L.entries → any_children L s (hollow_at L s d) p L.entries 0 ≡ any_children L s (hollow_at L s d) p (L.entries - i) i
      pub solid : L.entries < i → any_children L s (hollow_at L s d) p L.entries 0 ≡ false

    module _ {i from total n t k₁ k₂ : ℕ} {last : Option ℕ} (w : KeysSoFar i from total last) (c : KeysPass L s d from p (child L p i) last n t k₁)
        (slot_next : (i < L.entries → (k₂ ≡ key_in s p i) × (k₁ < k₂)) × (L.entries ≤ i → k₂ ≡ k₁)) (h : i ≤ L.entries) where
      more-order : i + 1 ≤ L.entries → (rest : List Entry) → ascends_after before (all-keys ++ rest)
          ≡ ascends_from k₂ (list_children L s (list_at L s d) p (L.entries - (i + 1)) (i + 1) ++ rest)
      unfolding list_children
      more-order l rest =
          let left : L.entries - i ≡ suc (L.entries - (i + 1)) = omega arith in
          let key = slot_next.0 (omega arith) in
          w.order h rest
          ∙ rw (left, add-one i)
          (ap (ascends_after last)
          (append_assoc (list_child L s (list_at L s d) (child L p i)) (slot L s p i ∷ list_children L s (list_at L s d) p (L.entries - suc i) (suc i)) rest)
          ∙ c.keys (slot L s p i ∷ (list_children L s (list_at L s d) p (L.entries - suc i) (suc i) ++ rest))
          ∙ one-above k₁ (slot L s p i) (list_children L s (list_at L s d) p (L.entries - suc i) (suc i) ++ rest) (rw (slot-key p i, ← key.0) key.1)
          ∙ rw (slot-key p i, ← key.0))

      more-ordered : L.entries < i + 1 → Leads before all-keys k₂
      unfolding list_children
      more-ordered l rest =
          let left : L.entries - i ≡ 0 = omega arith in
          w.order h rest ∙ rw left (c.keys rest ∙ ap (λ (x : ℕ). ascends_from x rest) (sym (slot_next.1 (omega arith))))

      more-any : i + 1 ≤ L.entries → any_children L s (hollow_at L s d) p L.entries 0
          ≡ any_children L s (hollow_at L s d) p (L.entries - (i + 1)) (i + 1)
      unfolding any_children
      more-any l =
          let left : L.entries - i ≡ suc (L.entries - (i + 1)) = omega arith in
          w.any h ∙ rw (left, add-one i) (rw (c.solid, any_children))

      more-solid : L.entries < i + 1 → any_children L s (hollow_at L s d) p L.entries 0 ≡ false
      unfolding any_children
      more-solid l = let left : L.entries - i ≡ 0 = omega arith in w.any h ∙ rw left c.solid

      pub more-keys : KeysSoFar (i + 1) t (total + n) (Some k₂)
      more-keys = record {
        passed = one-passed L s d p start w.passed c.ok h;
        order = more-order;
        ordered = more-ordered;
        any = more-any;
        solid = more-solid;
      }

    pub last-there : {i from total : ℕ} {last : Option ℕ} → KeysSoFar i from total last → L.entries < i → IsSome last
    last-there {last = Some k} w h = refl
    last-there {last = None} w h = absurd (w.ordered h)

    pub below-keys : {i from total k : ℕ} {last : Option ℕ} → KeysSoFar i from total last → L.entries < i → last ≡ Some k → absent L s (child L p 0) ≡ false
        → KeysBelow L s d start p before total k
    below-keys w h e a = record { below = all-passed L s d p start w.passed h; keys = rw e at w.ordered h; solid = w.solid h; first = a }

  -- ---- the whole archive

  module _ (M : Limits) {n p : ℕ} (en : recorded L s ≡ n) (some : 0 < n) (to : LeadsTo L s (root L s) p) where
    list-ascends : (last : ℕ) → Leads None (list_child L s (list_at L s (nested M)) (root L s)) last → ascends (list L M s) ≡ true
    unfolding list list_child
    list-ascends last keys = go n en some
      where
        all : ascends (list_child L s (list_at L s (nested M)) (root L s)) ≡ true
        all = ap ascends (sym (append-nil (list_child L s (list_at L s (nested M)) (root L s)))) ∙ keys []

        go : (n : ℕ) → recorded L s ≡ n → 0 < n → ascends (list L M s) ≡ true
        go zero e h = absurd (omega arith)
        go (suc n) e h = rw (e, to.leads) (rw (to.present, to.leads, list_child) at all)

    list-solid : any_child L s (hollow_at L s (nested M)) (root L s) ≡ false → hollow_of L M s (recorded L s) ≡ false
    unfolding any_child
    list-solid solid = go n en some
      where
        go : (n : ℕ) → recorded L s ≡ n → 0 < n → hollow_of L M s (recorded L s) ≡ false
        go zero e h = absurd (omega arith)
        go (suc n) e h = rw (e, to.leads) (rw (to.present, to.leads, any_child) at solid)

    root-accepts : (w : Root L s (nested M) (root L s) n) → check_root L M s (recorded L s) ≡ accepted n w.next
    unfolding check_root
    root-accepts w = go n en some refl
      where
        go : (m : ℕ) → recorded L s ≡ m → 0 < m → n ≡ m → check_root L M s (recorded L s) ≡ accepted n w.next
        go zero e h o = absurd (omega arith)
        go (suc m) e h o = rw (e, w.is, eq-eqb n (suc m) o)

    certified : entries_in_range L ≡ true → length s ≤ M.longest → record_size L ≤ length s → root L s % record_align L ≡ 0 → 1 < M.depth
        → Root L s (nested M) (root L s) n → (last : ℕ) → Leads None (list_child L s (list_at L s (nested M)) (root L s)) last
        → any_child L s (hollow_at L s (nested M)) (root L s) ≡ false → counted (certify L M s) ≡ gives n
    unfolding certify check_archive
    certified range small room even deep w last keys solid =
        rw (range, le-leb _ _ small, le-leb _ _ room, eq-eqb _ _ even, lt-ltb _ _ deep, root-accepts w, list-solid solid, list-ascends last keys)

    -- The same by the keys below the root, an inner node that ends at t.
    pub certified-below : {t last : ℕ} → entries_in_range L ≡ true → length s ≤ M.longest → record_size L ≤ length s → root L s % record_align L ≡ 0
        → 2 < M.depth → p % 8 ≡ 0 → get_or s p 0 ≡ 1 → t ≡ p + inner_size L → t ≤ root L s → KeysBelow L s (nested M - 1) 0 p None n last
        → counted (certify L M s) ≡ gives n
    unfolding nested
    certified-below range small room even deep aligned z e high w =
        let pass = inner-keys 0 (root L s) (root L s) None to (omega arith) aligned (nested M) (omega arith) z e high w in
        certified range small room even (omega arith) (root-passes L s (nested M) (root L s) to aligned z e high (omega arith) w.below) _
        pass.keys pass.solid
