-- The ends of a range: they hold a key exactly if it meets both bounds, also where a bound is excluded at 0 or at the largest key. The keys of an
-- archive are below 2 ^ 64, so the ends select the entries that the bounds select. Assumes nothing.
use Prim.Native.Nat.{ℕ, zero, suc, ◌+◌, ◌-◌, ◌^◌, ◌≤◌, ◌<◌}
use Rattle.std.specs.Prelude.{◌≡◌, refl, Bool, true, false, ◌&&◌, ◌↔◌, leb, ltb, None, Option, Some}
use Rattle.format.specs.declared.Position.{Position}
use Rattle.format.specs.Range.{from_to}
use Rattle.std.proofs.Common.{sym, ◌∙◌, ltb-true, ltb-false, leb-true, leb-false, lt-ltb, le-ltb, le-leb}
use Rattle.std.proofs.Math.Path.{ap}
use mathlib.Core.List.{List, [], ◌∷◌, ◌++◌}
use native.Mathlib.Omega.{arith}
use Rattle.std.proofs.lemmas.Bool.{lt-leb}
use Rattle.format.specs.declared.Entry.{Entry}
use Rattle.std.specs.declared.ops.Bound.{Bound}
use Rattle.std.specs.declared.ops.Bound.TheVariants.{Included, Excluded, Unbounded}
use Rattle.format.specs.declared.Ends.{Ends}
use Rattle.format.specs.Layout.{Layout, Limits, nested}
use Rattle.format.specs.Bytes.{AllBytes}
use Rattle.format.specs.RelPtr.{target, at, below, Destination}
use Rattle.format.specs.Node.{Kind, leaf, inner, other, child, kind, key_at, leaf_count, slot}
use Rattle.format.specs.Check.{root, recorded}
use Rattle.format.specs.Entries.{slots, list_target, list_child, list_children, list_body, list_at, list_of, list}
use Rattle.format.specs.Range.{key_meets_lower, key_meets_upper, matches, select, crosses, range, Fits, least_of, past_of, between, ends_of, holds, held}
use Rattle.format.specs.Readable.{child_at}
use Rattle.format.proofs.Laws.Certify.Ascend.{Under}
use Rattle.format.proofs.Laws.Check.Reach.{true≢false}
use Rattle.format.proofs.Laws.Numbers.Tests.{same_test}
use Rattle.format.proofs.Laws.Numbers.Bytes.{le_at-lt}
use Rattle.format.proofs.Laws.Range.List.{matches-both, select-none}
use Rattle.format.proofs.Laws.Read.Children.{on_child, list-child}

-- ---- each bound as a number

lower-least : (lo : Bound ℕ) (k : ℕ) → key_meets_lower lo k ≡ leb (least_of lo) k
lower-least (Included b) k = refl
lower-least (Excluded b) k =
    same_test _ _ (λ t. le-leb (b + 1) k (let w = ltb-true b k t in omega arith)) (λ t. lt-leb (b + 1) k (let w = ltb-false b k t in omega arith))
lower-least Unbounded k = sym (le-leb 0 k (omega arith))

upper-past : (hi : Bound ℕ) (k : ℕ) → k < 2 ^ 64 → key_meets_upper hi k ≡ ltb k (past_of hi)
upper-past (Included b) k h =
    same_test _ _ (λ t. lt-ltb k (b + 1) (let w = leb-true k b t in omega arith)) (λ t. le-ltb k (b + 1) (let w = leb-false k b t in omega arith))
upper-past (Excluded b) k h = refl
upper-past Unbounded k h = sym (lt-ltb k (2 ^ 64) h)

-- ---- what the ends are

module _ (lo hi : Bound ℕ) where
  pub ends-nothing : past_of hi ≤ least_of lo → ends_of lo hi ≡ None
  unfolding ends_of
  ends-nothing h = rw (le-ltb (least_of lo) (past_of hi) h, between)

  pub ends-keys : (least greatest : ℕ) → least_of lo ≡ least → past_of hi ≡ greatest + 1 → least ≤ greatest → ends_of lo hi ≡ from_to least greatest
  unfolding ends_of
  ends-keys least greatest el eh h =
      let z : greatest + 1 - 1 ≡ greatest = omega arith in
      ap (λ (l : ℕ). between l (past_of hi)) el ∙ ap (between least) eh ∙ rw (lt-ltb least (greatest + 1) (omega arith), between) (ap (from_to least) z)

-- A key is between two numbers if it is neither below the one nor from the other on.
between-holds : (least past k : ℕ) → holds (between least past) k ≡ (leb least k && ltb k past)
between-holds least past k = by (ltb least past) refl (leb least k) refl
  where
    by : (b : Bool) → ltb least past ≡ b → (c : Bool) → leb least k ≡ c → holds (between least past) k ≡ (leb least k && ltb k past)
    by true e true m =
        rw (e, m, between)
        (same_test (leb k (past - 1)) (ltb k past) (λ t. lt-ltb k past (omega (arith, leb-true, ltb-true))) (λ t. le-ltb k past (omega (arith, leb-false))))
    by true e false m = rw (e, m, between)
    by false e true m = rw (e, m, between) (sym (le-ltb k past (omega (arith, leb-true, ltb-false))))
    by false e false m = rw (e, m, between)

-- The numbers and the two bounds say the same of every key.
pub ends-hold : (lo hi : Bound ℕ) (k : ℕ) → k < 2 ^ 64 → holds (ends_of lo hi) k ≡ (key_meets_lower lo k && key_meets_upper hi k)
unfolding ends_of
ends-hold lo hi k h = rw (lower-least lo k, upper-past hi k h) (between-holds (least_of lo) (past_of hi) k)

-- ---- the corners

past_fits : (hi : Bound ℕ) → Fits hi → past_of hi ≤ 2 ^ 64
past_fits (Included b) f = omega arith
past_fits (Excluded b) f = omega arith
past_fits Unbounded f = omega arith

pub excluded-at-0-below : (hi : Bound ℕ) → ends_of (Excluded 0) hi ≡ ends_of (Included 1) hi
unfolding ends_of
excluded-at-0-below hi = refl

pub excluded-at-0-above : (lo : Bound ℕ) → ends_of lo (Excluded 0) ≡ None
excluded-at-0-above lo = ends-nothing lo (Excluded 0) (omega arith)

pub excluded-at-the-largest-below : (hi : Bound ℕ) → Fits hi → ends_of (Excluded 0xffff_ffff_ffff_ffff) hi ≡ None
excluded-at-the-largest-below hi f = ends-nothing (Excluded 0xffff_ffff_ffff_ffff) hi (past_fits hi f)

pub excluded-at-the-largest-above : (lo : Bound ℕ) → ends_of lo (Excluded 0xffff_ffff_ffff_ffff) ≡ ends_of lo (Included 0xffff_ffff_ffff_fffe)
unfolding ends_of
excluded-at-the-largest-above lo = refl

pub open-below : (hi : Bound ℕ) → ends_of Unbounded hi ≡ ends_of (Included 0) hi
unfolding ends_of
open-below hi = refl

pub open_above : (lo : Bound ℕ) → ends_of lo Unbounded ≡ ends_of lo (Included 0xffff_ffff_ffff_ffff)
unfolding ends_of
open_above lo = refl

pub crossed-nothing : (lo hi : Bound ℕ) → crosses lo hi ≡ true → ends_of lo hi ≡ None
crossed-nothing lo hi c = ends-nothing lo hi (by lo hi c)
  where
    by : (lo hi : Bound ℕ) → crosses lo hi ≡ true → past_of hi ≤ least_of lo
    by Unbounded hi c = absurd (true≢false c refl)
    by (Included a) Unbounded c = absurd (true≢false c refl)
    by (Included a) (Included b) c = omega (arith, ltb-true)
    by (Included a) (Excluded b) c = omega (arith, ltb-true)
    by (Excluded a) Unbounded c = absurd (true≢false c refl)
    by (Excluded a) (Included b) c = omega (arith, ltb-true)
    by (Excluded a) (Excluded b) c = omega (arith, leb-true)

-- The ends are nothing exactly where no key meets both bounds.
pub nothing-exactly : (lo hi : Bound ℕ) → Fits hi
    → ((k : ℕ) → k < 2 ^ 64 → (key_meets_lower lo k && key_meets_upper hi k) ≡ false) ↔ (ends_of lo hi ≡ None)
nothing-exactly lo hi f = (λ none. by none (ltb (least_of lo) (past_of hi)) refl, λ e k h. sym (ends-hold lo hi k h) ∙ ap (λ (x : Option Ends). holds x k) e)
  where
    by : ((k : ℕ) → k < 2 ^ 64 → (key_meets_lower lo k && key_meets_upper hi k) ≡ false) → (b : Bool)
        → ltb (least_of lo) (past_of hi) ≡ b → ends_of lo hi ≡ None
    by none true e =
        let fits : least_of lo < 2 ^ 64 = omega (arith, ltb-true, past_fits hi f) in
        let met : (key_meets_lower lo (least_of lo) && key_meets_upper hi (least_of lo)) ≡ true =
        rw (lower-least lo (least_of lo), upper-past hi (least_of lo) fits, le-leb (least_of lo) (least_of lo) (omega arith), e) in
        absurd (true≢false met (none (least_of lo) fits))
    by none false e = ends-nothing lo hi (ltb-false (least_of lo) (past_of hi) e)

-- ---- every key of an archive is below 2 ^ 64

under-append : (k : ℕ) (l r : List Entry) → Under k l → Under k r → Under k (l ++ r)
under-append k [] r u v = v
under-append k (x ∷ l) r u v = (u.0, under-append k l r u.1 v)

module _ (L : Layout) (s : List ℕ) (b : AllBytes s) where
  slot-under : (p i : ℕ) → (slot L s p i).key < 2 ^ 64
  unfolding slot
  slot-under p i = le_at-lt 8 s (key_at L p i) b

  slots-under : (p n i : ℕ) → Under (2 ^ 64) (slots L s p n i)
  unfolding slots
  slots-under p zero i = tt
  slots-under p (suc n) i = (slot-under p i, slots-under p n (suc i))

  module _ (give : ℕ → List Entry) (few : (q : ℕ) → Under (2 ^ 64) (give q)) where
    child-under : (f : ℕ) → Under (2 ^ 64) (list_child L s give f)
    unfolding on_child
    child-under f = rw (list-child L s give f) (go (child_at L s f))
      where
        go : (c : Option Position) → Under (2 ^ 64) (on_child [] give c)
        go (Some q) = few q.0
        go None = tt

    children-under : (p k i : ℕ) → Under (2 ^ 64) (list_children L s give p k i)
    unfolding list_children
    children-under p zero i = child-under (child L p i)
    children-under p (suc k) i =
        under-append (2 ^ 64) (list_child L s give (child L p i)) (slot L s p i ∷ list_children L s give p k (suc i)) (child-under (child L p i))
        (slot-under p i, children-under p k (suc i))

    body-under : (p : ℕ) (k : Kind) → Under (2 ^ 64) (list_body L s give p k)
    unfolding list_body
    body-under p leaf = slots-under p (leaf_count L s p) 0
    body-under p inner = children-under p L.entries 0
    body-under p other = tt

  node-under : (d p : ℕ) → Under (2 ^ 64) (list_at L s d p)
  unfolding list_at
  node-under zero p = tt
  node-under (suc d) p = body-under (list_at L s d) (node-under d) p (kind L s p)

  target-under : (d : ℕ) (t : Destination) → Under (2 ^ 64) (list_target L s (list_at L s d) t)
  target-under d (at q) = node-under d q
  target-under d below = tt

  list-under : (M : Limits) → Under (2 ^ 64) (list L M s)
  unfolding list
  list-under M = by (recorded L s)
    where
      by : (n : ℕ) → Under (2 ^ 64) (list_of L M s n)
      by zero = tt
      by (suc n) = target-under (nested M) (target L s (root L s))

-- ---- what is selected

pub none-held : (es : List Entry) → select (held None) es ≡ []
none-held = select-none (held None) (λ e. refl)

module _ (lo hi : Bound ℕ) where
  -- As `ends-hold`, of an entry.
  ends-matches : (e : Entry) → e.key < 2 ^ 64 → held (ends_of lo hi) e ≡ matches lo hi e
  ends-matches e h = ends-hold lo hi e.key h ∙ sym (matches-both lo hi e)

  select-ends : (es : List Entry) → Under (2 ^ 64) es → select (matches lo hi) es ≡ select (held (ends_of lo hi)) es
  select-ends [] u = refl
  select-ends (x ∷ es) u = by (matches lo hi x) refl (select-ends es u.1)
    where
      by : (b : Bool) → matches lo hi x ≡ b → select (matches lo hi) es ≡ select (held (ends_of lo hi)) es
          → select (matches lo hi) (x ∷ es) ≡ select (held (ends_of lo hi)) (x ∷ es)
      by true e ih = rw (e, ends-matches x u.0 ∙ e, select) (ap (λ (r : List Entry). x ∷ r) ih)
      by false e ih = rw (e, ends-matches x u.0 ∙ e, select) ih

  module _ (L : Layout) (s : List ℕ) (b : AllBytes s) where
    -- The entries of a node that the bounds select are those that the ends select.
    pub node-ends : (d p : ℕ) (ends : Option Ends) → ends ≡ ends_of lo hi → select (matches lo hi) (list_at L s d p) ≡ select (held ends) (list_at L s d p)
    node-ends d p ends e = rw e (select-ends (list_at L s d p) (node-under L s b d p))

    -- The same of an archive.
    pub range-ends : (M : Limits) → range L M s lo hi ≡ select (held (ends_of lo hi)) (list L M s)
    unfolding range
    range-ends M = select-ends (list L M s) (list-under L s b M)
