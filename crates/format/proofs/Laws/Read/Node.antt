-- An accepted archive gives what the readers require of a node, its list, lookup and hollow nodes go one level at a time, and positions fall from node
-- to child. Assumes nothing.
use Prim.Native.Nat.{ℕ, zero, suc, ◌+◌, ◌≤◌, ◌<◌}
use Rattle.std.specs.Prelude.{◌≡◌, refl, false, List, length, Option, Some}
use Rattle.std.proofs.Common.{sym, ◌∙◌, subst, arith}
use Rattle.std.proofs.Math.ListN.{get_or}
use Rattle.format.specs.declared.Position.{Position}
use Rattle.format.specs.Layout.{Layout, leaf_size, inner_size, Limits, Within, nested}
use Rattle.format.specs.RelPtr.{at, target, absent}
use Rattle.format.specs.Node.{Kind, leaf, inner, kind_of, child, kind}
use Rattle.format.specs.Check.{root}
use Rattle.format.specs.Entries.{list_body, list_at}
use Rattle.format.specs.Certify.{hollow_at}
use Rattle.format.specs.Lookup.{lookup_body, lookup_at}
use Rattle.format.specs.Accepted.{Rooted, Archive}
use Rattle.format.specs.Readable.{LeadsTo, Down, LeafNode, InnerNode, NodeGood, leaf_g, inner_g, Good, Node, child_at}
use Rattle.format.specs.NodeRelation.{ChildOk, gone, there, ChildrenOk, last, more, NodeOk, leaf_ok, inner_ok, Holds}
use Rattle.format.proofs.Laws.Numbers.Limits.{nested-within}
use Rattle.format.proofs.Laws.Read.Children.{child-leads, Agree, list_ext, look-ext, hollow_body, any-ext}
use Rattle.format.proofs.Laws.Check.Reach.{true≢false, inside, Nth, this, next, nth_of}

leaf-byte : (x : ℕ) → kind_of x ≡ leaf → x ≡ 0
leaf-byte zero e = refl
leaf-byte (suc zero) e = let z : ◌≡◌ {A = ℕ} 0 1 = cc in absurd (omega arith)
leaf-byte (suc (suc x)) e = let z : ◌≡◌ {A = ℕ} 0 1 = cc in absurd (omega arith)

inner-byte : (x : ℕ) → kind_of x ≡ inner → x ≡ 1
inner-byte zero e = let z : ◌≡◌ {A = ℕ} 0 1 = cc in absurd (omega arith)
inner-byte (suc zero) e = refl
inner-byte (suc (suc x)) e = let z : ◌≡◌ {A = ℕ} 0 1 = cc in absurd (omega arith)

leaf≢inner : {k : Kind} → k ≡ leaf → k ≡ inner → ⊥
leaf≢inner e f = let z : ◌≡◌ {A = ℕ} 0 1 = cc in omega arith

module _ (L : Layout) (s : List ℕ) where
  -- ---- what the check accepts is such a node

  record ChildGood (G : ℕ → Type 0) (p f : ℕ) : Type 0 where
    node : ℕ
    leads : target L s f ≡ at node
    lower : node < p
    good : G node

  module _ (N : ℕ → ℕ → ℕ → ℕ → Type 0) (G : ℕ → Type 0) (low : (lo hi p n : ℕ) → N lo hi p n → p < hi)
      (ih : (lo hi p n : ℕ) → hi ≤ length s → N lo hi p n → G p) where
    child-good : {lo hi f stop n : ℕ} → ChildOk L s N lo hi f stop n → hi ≤ length s → absent L s f ≡ false → ChildGood G hi f
    child-good (gone ea es en) h pr = absurd (true≢false ea pr)
    child-good (there ea q el nd es) h pr = record { node = q; leads = el; lower = low _ _ _ _ nd; good = ih _ _ _ _ h nd }

    children-good : {p k i j lo n : ℕ} → ChildrenOk L s N p k i lo n → p ≤ length s → Nth k i j → absent L s (child L p j) ≡ false → ChildGood G p (child L p j)
    children-good (last c) h this pr = child-good c h pr
    children-good (more c ks en) h this pr = child-good c h pr
    children-good (more c ks en) h (next x) pr = children-good ks h x pr

    node-good : {lo hi p n : ℕ} → hi ≤ length s → NodeOk L s N lo hi p n → NodeGood L s G p
    node-good h (leaf_ok ek i l e) = leaf_g (record { room = let r = rw ek at i.high in omega arith; is = ek; count = l })
    node-good {lo} {hi} {p} {n} h (inner_ok ek i m ks e) =
        let r : p + inner_size L ≤ hi = rw ek at i.high in
        let to : (j : ℕ) → j ≤ L.entries → absent L s (child L p j) ≡ false → ChildGood G p (child L p j) =
        λ j le pr. children-good ks (omega arith) (nth_of le) pr in
        inner_g
        (record { room = omega arith; is = ek; back = λ j le pr. let k = to j le pr in record { node = k.node; leads = k.leads; lower = k.lower } })
        (λ j q le l. let k = to j le l.present in let z : k.node ≡ q = cc (k.leads, l.leads) in subst G z k.good)

  holds-low : (d lo hi p n : ℕ) → Holds L s d lo hi p n → p < hi
  holds-low d lo hi p n v = let i = inside L s {d = d} {lo = lo} {hi = hi} {p = p} {n = n} (record { holds = v }) in omega arith

  holds-good : (d lo hi p n : ℕ) → hi ≤ length s → Holds L s d lo hi p n → Good L s d p
  holds-good zero lo hi p n h v = absurd v
  holds-good (suc d) lo hi p n h v = node-good (Holds L s d) (Good L s d) (holds-low d) (holds-good d) h v

  -- ---- one level of a recursion on the depth, for any function that looks at a node's children only

  good-below : (d p : ℕ) → Good L s (suc d) p → kind L s p ≡ inner → (j q : ℕ) → j ≤ L.entries → LeadsTo L s (child L p j) q → Good L s d q
  good-below d p (leaf_g n) ek = absurd (leaf≢inner n.is ek)
  good-below d p (inner_g n v) ek = v

  module _ {A : Type 0} (F : ℕ → ℕ → A) (body : (ℕ → A) → ℕ → Kind → A) (step : (d p : ℕ) → F (suc d) p ≡ body (F d) p (kind L s p))
      (ext : (g h : ℕ → A) (p : ℕ) (c : Kind) → (c ≡ inner → Agree L s p g h) → body g p c ≡ body h p c) where
    levels : (d p : ℕ) → Good L s d p → (a b : ℕ) → d ≤ a → d ≤ b → F a p ≡ F b p
    levels zero p v a b h k = absurd v
    levels (suc d) p v zero b h k = absurd (omega arith)
    levels (suc d) p v (suc a) zero h k = absurd (omega arith)
    levels (suc d) p v (suc a) (suc b) h k =
        step a p ∙ ext (F a) (F b) p (kind L s p) (λ ek j q le l. levels d q (good-below d p v ek j q le l) a b (omega arith) (omega arith)) ∙ sym (step b p)

    at_level : (m d p : ℕ) → d ≤ m → Good L s d p → F m p ≡ body (F m) p (kind L s p)
    at_level m zero p h v = absurd v
    at_level zero (suc d) p h v = absurd (omega arith)
    at_level (suc m) (suc d) p h v =
        step m p ∙ ext (F m) (F (suc m)) p (kind L s p) (λ ek j q le l. levels d q (good-below d p v ek j q le l) m (suc m) (omega arith) (omega arith))

  pub kind-leaf : (p : ℕ) → get_or s p 0 ≡ 0 → kind L s p ≡ leaf
  unfolding kind
  kind-leaf p h = rw h

module _ (L : Layout) (M : Limits) (s : List ℕ) where
  -- ---- the root of an accepted archive

  pub root-down : (R : Rooted L M s) → Down L s (root L s) (root L s)
  root-down R = let i = inside L s R.valid in record { node = R.pos; leads = R.leads; lower = omega arith }

  pub root-node : Archive L M s → (R : Rooted L M s) → Node L M s R.pos
  unfolding root
  root-node A R = record { level = nested M; fits = omega arith; good = holds-good L s (nested M) _ (root L s) R.pos _ (omega arith) R.valid.holds }

  -- ---- the list, the lookup and the hollow nodes, one level each

  pub entries-node : (p : ℕ) → Node L M s p → list_at L s (nested M) p ≡ list_body L s (list_at L s (nested M)) p (kind L s p)
  unfolding list_at
  entries-node p N = at_level L s (list_at L s) (list_body L s) (λ d p. refl) (list_ext L s) (nested M) N.level p N.fits N.good

  pub lookup-node : (k p : ℕ) → Node L M s p → lookup_at L s k (nested M) p ≡ lookup_body L s k (lookup_at L s k (nested M)) p (kind L s p)
  unfolding lookup_at
  lookup-node k p N = at_level L s (lookup_at L s k) (lookup_body L s k) (λ d p. refl) (look-ext L s k) (nested M) N.level p N.fits N.good

  pub hollow-node : (p : ℕ) → Node L M s p → hollow_at L s (nested M) p ≡ hollow_body L s (hollow_at L s (nested M)) p (kind L s p)
  unfolding hollow_at hollow_body
  hollow-node p N = at_level L s (hollow_at L s) (hollow_body L s) (λ d p. refl) (any-ext L s) (nested M) N.level p N.fits N.good

  -- ---- a node as the code meets it: by its first byte

  pub as-leaf : {p : ℕ} → Node L M s p → get_or s p 0 ≡ 0 → LeafNode L s p
  unfolding kind
  as-leaf {p} N h = go N.level N.good
    where
      go : (d : ℕ) → Good L s d p → LeafNode L s p
      go zero v = absurd v
      go (suc d) (leaf_g n) = n
      go (suc d) (inner_g n v) = let z : get_or s p 0 ≡ 1 = inner-byte _ n.is in absurd (omega arith)

  pub as-inner : {p : ℕ} → Node L M s p → (get_or s p 0 ≡ 0 → ⊥) → InnerNode L s p
  unfolding kind
  as-inner {p} N h = go N.level N.good
    where
      go : (d : ℕ) → Good L s d p → InnerNode L s p
      go zero v = absurd v
      go (suc d) (leaf_g n) = absurd (h (leaf-byte _ n.is))
      go (suc d) (inner_g n v) = n

  pub node-room : {p : ℕ} → Node L M s p → p + leaf_size L ≤ length s
  node-room {p} N = go N.level N.good
    where
      go : (d : ℕ) → Good L s d p → p + leaf_size L ≤ length s
      go zero v = absurd v
      go (suc d) (leaf_g n) = n.room
      go (suc d) (inner_g n v) = let r = n.room in omega arith

  node-below : {p : ℕ} → Node L M s p → kind L s p ≡ inner → (j q : ℕ) → j ≤ L.entries → LeadsTo L s (child L p j) q → Node L M s q
  node-below {p} N ek j q le l = go N.level N.fits N.good
    where
      go : (d : ℕ) → d ≤ nested M → Good L s d p → Node L M s q
      go zero h v = absurd v
      go (suc d) h v = record { level = d; fits = omega arith; good = good-below L s d p v ek j q le l }

  -- The child that is read at field i lies lower and is such a node; t is a measure equal to the node's position.
  pub child-falls : {p t : ℕ} (i : ℕ) {r : Option Position} {q : Position} → p ≡ t → Node L M s p → (get_or s p 0 ≡ 0 → ⊥) → i ≤ L.entries
      → r ≡ child_at L s (child L p i) → r ≡ Some q → (q.0 < t) × Node L M s q.0
  child-falls {p} {t} i {r} {q} m N h le c e =
      let l = child-leads L s (child L p i) q (sym c ∙ e) in
      let n = as-inner N h in
      let d = n.back i le l.present in
      let z : d.node ≡ q.0 = cc (d.leads, l.leads) in
      let w = d.lower in
      (omega arith, node-below N n.is i q.0 le l)

-- ---- limits that are nowhere below give the same node, with the same list, lookup and hollow nodes

module _ (L : Layout) {M M' : Limits} (w : Within M M') (s : List ℕ) {p : ℕ} (N : Node L M s p) where
  fits-within : N.level ≤ nested M'
  fits-within = omega (arith, N.fits, nested-within w)

  pub node-within : Node L M' s p
  node-within = record { level = N.level; fits = fits-within; good = N.good }

  pub list-within : list_at L s (nested M) p ≡ list_at L s (nested M') p
  unfolding list_at
  list-within =
      levels L s (list_at L s) (list_body L s) (λ d p. refl) (list_ext L s) N.level p N.good (nested M) (nested M') N.fits fits-within

  pub lookup-within : (k : ℕ) → lookup_at L s k (nested M) p ≡ lookup_at L s k (nested M') p
  unfolding lookup_at
  lookup-within k =
      levels L s (lookup_at L s k) (lookup_body L s k) (λ d p. refl) (look-ext L s k) N.level p N.good (nested M) (nested M') N.fits
      fits-within

  pub hollow-within : hollow_at L s (nested M) p ≡ hollow_at L s (nested M') p
  unfolding hollow_at hollow_body
  hollow-within =
      levels L s (hollow_at L s) (hollow_body L s) (λ d p. refl) (any-ext L s) N.level p N.good (nested M) (nested M') N.fits fits-within
