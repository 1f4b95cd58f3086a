-- A range over a node: the tests of a slot's key, what is left of an inner node, and that the number matching fits. Assumes nothing.
use Rattle.std.specs.Prelude.{Option, Some}
use mathlib.Core.Path.{◌≡◌, refl, sym, ◌∙◌, subst}
use mathlib.Core.List.{List, [], ◌∷◌, ◌++◌, append-nil}
use Prim.Native.Nat.{ℕ, suc, ◌+◌, ◌-◌, ◌^◌, ◌≤◌, ◌<◌}
use native.Mathlib.Decide.{dec_lt}
use native.Mathlib.Nat.{pow-le-pow_left}
use native.Mathlib.Omega.{arith}
use lib.ListN.{length, get_or}
use Rattle.format.specs.declared.Entry.{Entry}
use Rattle.format.specs.Range.{from_to}
use Rattle.format.specs.declared.Position.{Position}
use Rattle.format.specs.Layout.{Layout, Limits, server, nested}
use Rattle.format.specs.Bytes.{le_at}
use Rattle.format.specs.Node.{child, key_at, leaf_count, slot}
use Rattle.format.specs.Entries.{slots, list_children, list_at}
use Rattle.format.specs.Certify.{Ascending}
use Rattle.format.specs.Range.{held, select}
use Rattle.format.specs.Readable.{child_at, Node}
use Rattle.format.specs.Written.{Out, out, put, walked}
use Rattle.format.proofs.Laws.Certify.Ascend.{Split, split}
use Rattle.format.proofs.Laws.Range.List.{select-few}
use Rattle.format.proofs.Laws.Read.Children.{on_child, on-at}
use Rattle.format.proofs.Laws.Read.Written.{none-walked, runs_none}
use Rattle.btree.proofs.Runs.{left, some_left, none_left, all_left, slots-more, children-more, children-last, entries-leaf, entries-inner}
use Rattle.ranges.specs.Taken.{range_step, ranged}
use Rattle.ranges.proofs.Bounds.{node-few}
use Rattle.ranges.proofs.EntryByEntry.{put-taken, step_in, step-low, part-fits}

-- The entries ascend, and with those that match among them n stays below a bound.
abbrev pub Fits : ℕ → ℕ → ℕ → ℕ → List Entry → Type 0
Fits least greatest top n es = Ascending es × (n + length (select (held (from_to least greatest)) es) < top)

-- A key below the least is that of one of n slots: where no slot follows child i, k is the greatest of all keys.
pub slot-there : {n i k least : ℕ} → (n ≤ i → k + 1 ≡ 2 ^ 64) → k < least → least < 2 ^ 64 → i < n
slot-there {n} {i} {k} {least} f h l = go (dec_lt i n)
  where
    go : Dec (i < n) → i < n
    go (yes w) = w
    go (no w) = let e = f (omega arith) in absurd (omega arith)

module _ (L : Layout) (s : List ℕ) where
  -- ---- a slot's key, which the code reads as k, against the ends of the range

  module _ (p i k : ℕ) (e : k ≡ le_at 8 s (key_at L p i)) where
    pub slot-key : (slot L s p i).key ≡ k
    unfolding slot
    slot-key = sym e

    module _ (least greatest : ℕ) where
      pub slot-taken : least ≤ k → k ≤ greatest → (ks vs : List ℕ) (n : ℕ) {ks' vs' : List ℕ} {m : ℕ}
          → out ks' vs' m ≡ put (slot L s p i) (out ks vs n) → out ks' vs' (n + 1) ≡ range_step least greatest (slot L s p i) (out ks vs n)
      slot-taken h l ks vs n w =
          let e = slot L s p i in
          put-taken e ks vs n w ∙ sym (step_in least greatest e (out ks vs n) (omega (arith, slot-key)) (omega (arith, slot-key)))

      pub slot-passed : k < least → (o : Out) → o ≡ range_step least greatest (slot L s p i) o
      slot-passed h o = sym (step-low least greatest (slot L s p i) o (omega (arith, slot-key)))

  -- ---- a leaf: the code reads its count as n

  module _ (p n m : ℕ) (e : n ≡ m) where
    slots-all : slots L s p (n - 0) 0 ≡ slots L s p m 0
    slots-all = let z : n - 0 ≡ m = omega arith in rw z

    pub slots-run : (least greatest : ℕ) (o : Out) → ranged least greatest (slots L s p (n - 0) 0) o ≡ ranged least greatest (slots L s p m 0) o
    slots-run least greatest o = rw slots-all

  pub slots-rest : (p n i : ℕ) → i < n → Ascending (slots L s p (n - i) i) → Ascending (slots L s p (n - (i + 1)) (i + 1))
  slots-rest p n i h a = (rw (slots-more L s p n i h) at a).1

  -- ---- an inner node

  module _ (M : Limits) where
    -- What the node at p gives from child i on.
    abbrev pub rest : ℕ → ℕ → List Entry
    rest p i = left [] (list_children L s (list_at L s (nested M)) p) L.entries i

    -- What child i gives.
    abbrev pub at-child : ℕ → ℕ → List Entry
    at-child p i = on_child [] (list_at L s (nested M)) (child_at L s (child L p i))

    pub rest_all : {p : ℕ} → Node L M s p → (get_or s p 0 ≡ 0 → ⊥) → rest p 0 ≡ list_at L s (nested M) p
    rest_all {p} v h = all_left [] _ L.entries ∙ sym (entries-inner L s M p v h)

    rest-none : (p i : ℕ) → L.entries < i → rest p i ≡ []
    rest-none p i h = none_left [] (list_children L s (list_at L s (nested M)) p) L.entries i h

    module _ (p i : ℕ) where
      pub rest_more : i < L.entries → rest p i ≡ at-child p i ++ (slot L s p i ∷ rest p (i + 1))
      rest_more h =
          let all = list_children L s (list_at L s (nested M)) p in
          cc (
            some_left [] all L.entries i (omega arith),
            children-more L s (list_at L s (nested M)) p L.entries i h,
            some_left [] all L.entries (i + 1) (omega arith),
          )

      pub rest-done : (least greatest : ℕ) (o : Out) → L.entries < i → o ≡ ranged least greatest (rest p i) o
      rest-done least greatest o h = rw (rest-none p i h) (sym (runs_none (range_step least greatest) o))

      rest-last : i ≤ L.entries → L.entries ≤ i → rest p i ≡ at-child p i
      rest-last h k = some_left [] _ L.entries i h ∙ children-last L s (list_at L s (nested M)) p L.entries i k

      parts : i < L.entries → Ascending (rest p i) → Split (at-child p i) (slot L s p i) (rest p (i + 1))
      parts h a = split (at-child p i) (slot L s p i) (rest p (i + 1)) (rw (rest_more h) at a)

      pub rest-ascends : Ascending (rest p i) → Ascending (rest p (i + 1))
      rest-ascends a = go (dec_lt i L.entries)
        where
          go : Dec (i < L.entries) → Ascending (rest p (i + 1))
          go (yes h) = (parts h a).right
          go (no h) = rw (rest-none p (i + 1) (omega arith)) tt

      -- ---- the number matching stays below a bound that holds for the whole node

      module _ (least greatest top : ℕ) (o o₀ : Out) (es₀ : List Entry) (h : i ≤ L.entries) (a : Ascending (rest p i))
          (e : ranged least greatest (rest p i) o ≡ ranged least greatest es₀ o₀)
          (f : o₀.at + length (select (held (from_to least greatest)) es₀) < top) where
        part : Dec (i < L.entries) → Fits least greatest top o.at (at-child p i)
        part (yes k) = ((parts k a).left, part-fits least greatest (at-child p i) (slot L s p i ∷ rest p (i + 1)) es₀ o o₀ top (rw (rest_more k) at e) f)
        part (no k) =
            let z = rest-last h (omega arith) in
            (rw z at a, part-fits least greatest (at-child p i) [] es₀ o o₀ top (rw (append-nil (at-child p i), ← z) e) f)

        -- r is what was read of the child.
        pub child_fits : {r : Option Position} {q : Position} → r ≡ child_at L s (child L p i) → r ≡ Some q
            → Fits least greatest top o.at (list_at L s (nested M) q.0)
        child_fits c k =
            subst (Fits least greatest top o.at) (on-at [] (list_at L s (nested M)) (child_at L s (child L p i)) _ (sym c ∙ k)) (part (dec_lt i L.entries))

    pub leaf-fits : (least greatest top n p : ℕ) → Node L M s p → get_or s p 0 ≡ 0 → Fits least greatest top n (list_at L s (nested M) p)
        → Fits least greatest top n (slots L s p (leaf_count L s p) 0)
    leaf-fits least greatest top n p v h f = subst (Fits least greatest top n) (entries-leaf L s M p v h) f

-- ---- from the front of both lists

pub none_written : (es : List Entry) (ks vs : List ℕ) → es ≡ [] → (out ks vs 0 ≡ walked es ks vs) × (0 ≡ length es)
none_written es ks vs e = rw e (sym (none-walked ks vs), refl)

-- No node that the readers may read has 16 ^ 14 entries.
pub node-fits : (least greatest : ℕ) (L : Layout) (s : List ℕ) {p : ℕ} → L.entries ≤ 15 → Node L server s p
    → 0 + length (select (held (from_to least greatest)) (list_at L s (nested server) p)) < 2 ^ 64
unfolding nested server
node-fits least greatest L s {p} l v =
    let most : suc L.entries ^ 14 ≤ 16 ^ 14 = pow-le-pow_left {m = 16} (omega arith) 14 in
    omega (arith, node-few L s server v, select-few (held (from_to least greatest)) (list_at L s (nested server) p))
