-- Ranges of an ascending list: the entries that match are those from the first that meets the lower bound on, before the first past the upper
-- bound. What a selection by any test has. Assumes nothing.
use Rattle.std.specs.Prelude.{ℕ, ◌<◌, ◌≤◌, ◌≡◌, refl, Bool, true, false, not, ◌&&◌, ◌↔◌, List, [], ◌∷◌, ◌++◌, length}
use Rattle.std.proofs.Common.{sym, ap, subst, arith, ltb-true, ltb-false, leb-true, leb-false, lt-ltb, le-leb, le-ltb}
use Rattle.std.proofs.lemmas.Bool.{lt-leb, not-true}
use Rattle.format.specs.declared.Entry.{Entry}
use Rattle.std.specs.declared.ops.Bound.{Bound}
use Rattle.std.specs.declared.ops.Bound.TheVariants.{Included, Excluded, Unbounded}
use Rattle.format.specs.Certify.{Above, Ascending}
use Rattle.format.specs.Range.{key_meets_lower, key_meets_upper, meets_lower, meets_upper, matches, select, crosses}
use Rattle.format.specs.Lookup.{In, first, later}
use Rattle.format.proofs.Laws.Certify.Ascend.{Under}
use Rattle.format.proofs.Laws.Check.Reach.{true≢false}

-- The list from the first entry on that passes the test.
abbrev pub drop_to : (Entry → Bool) → List Entry → List Entry
drop_to f [] = []
drop_to f (x ∷ xs) = elim (f x) [ true ↦ x ∷ xs | false ↦ drop_to f xs ]

-- The entries before the first that fails the test.
abbrev pub take_to : (Entry → Bool) → List Entry → List Entry
take_to f [] = []
take_to f (x ∷ xs) = elim (f x) [ true ↦ x ∷ take_to f xs | false ↦ [] ]

-- Whether the key is past an upper bound: `key_is_past_upper`.
abbrev pub past : Bound ℕ → Entry → Bool
past hi e = not (meets_upper hi e)

-- Every key above one that passes the test passes too.
abbrev pub Rises : (Entry → Bool) → Type 0
Rises f = (x y : Entry) → x.key < y.key → f x ≡ true → f y ≡ true

pub lower-rises : (lo : Bound ℕ) → Rises (meets_lower lo)
lower-rises (Included k) x y h e = le-leb k y.key (omega (arith, leb-true))
lower-rises (Excluded k) x y h e = lt-ltb k y.key (omega (arith, ltb-true))
lower-rises Unbounded x y h e = refl

-- No key above one that fails an upper bound meets that bound.
upper-falls : (hi : Bound ℕ) (x y : Entry) → x.key < y.key → meets_upper hi x ≡ false → meets_upper hi y ≡ false
upper-falls (Included k) x y h e = lt-leb y.key k (omega (arith, leb-false))
upper-falls (Excluded k) x y h e = le-ltb y.key k (omega (arith, ltb-false))
upper-falls Unbounded x y h e = e

pub past-rises : (hi : Bound ℕ) → Rises (past hi)
past-rises hi x y h e = rw (upper-falls hi x y h (not-true (meets_upper hi x) e))

-- A test that every entry passes, and one that none passes.
pub drop-none : (l : List Entry) → drop_to (λ (e : Entry). true) l ≡ l
drop-none [] = refl
drop-none (x ∷ xs) = refl

pub drop_all : (l : List Entry) → drop_to (λ (e : Entry). false) l ≡ []
drop_all [] = refl
drop_all (x ∷ xs) = drop_all xs

module _ (f : Entry → Bool) where
  -- An entry that passes.
  pub drop-hit : (l r : List Entry) (e : Entry) → f e ≡ true → drop_to f (l ++ e ∷ r) ≡ drop_to f l ++ e ∷ r
  drop-hit [] r e h = rw (h, drop_to)
  drop-hit (x ∷ xs) r e h = by (f x) refl (drop-hit xs r e h)
    where
      by : (b : Bool) → f x ≡ b → drop_to f (xs ++ e ∷ r) ≡ drop_to f xs ++ e ∷ r → drop_to f (x ∷ (xs ++ e ∷ r)) ≡ drop_to f (x ∷ xs) ++ e ∷ r
      by true eb ih = rw (eb, drop_to)
      by false eb ih = rw (eb, drop_to) ih

  module _ (rises : Rises f) where
    under-fails : (e : Entry) → f e ≡ false → (x : Entry) → x.key < e.key → f x ≡ false
    under-fails e h x l = by (f x) refl
      where
        by : (b : Bool) → f x ≡ b → f x ≡ false
        by true eb = absurd (true≢false (rises x e l eb) h)
        by false eb = eb

    -- An entry that fails: so do the lesser ones before it.
    pub drop-miss : (l r : List Entry) (e : Entry) → f e ≡ false → Under e.key l → drop_to f (l ++ e ∷ r) ≡ drop_to f r
    drop-miss [] r e h u = rw (h, drop_to)
    drop-miss (x ∷ xs) r e h u = let eb = under-fails e h x u.0 in rw (eb, drop_to) (drop-miss xs r e h u.1)

  -- What is left ascends.
  pub ascending-drop : (l : List Entry) → Ascending l → Ascending (drop_to f l)
  ascending-drop [] a = tt
  ascending-drop (x ∷ xs) a = by (f x) refl (ascending-drop xs a.1)
    where
      by : (b : Bool) → f x ≡ b → Ascending (drop_to f xs) → Ascending (drop_to f (x ∷ xs))
      by true eb ih = rw (eb, drop_to) a
      by false eb ih = rw (eb, drop_to) ih

-- A list whose keys are all below k, or all above it, has nothing that passes a test which no such key passes.
module _ (f : Entry → Bool) (k : ℕ) where
  pub select-under : ((x : Entry) → x.key < k → f x ≡ false) → (l : List Entry) → Under k l → select f l ≡ []
  select-under h [] u = refl
  select-under h (x ∷ l) u = rw (h x u.0, select) (select-under h l u.1)

  pub select-above : ((x : Entry) → k < x.key → f x ≡ false) → (l : List Entry) → Above k l → select f l ≡ []
  select-above h [] a = refl
  select-above h (x ∷ l) a = rw (h x a.0, select) (select-above h l a.1)

module _ (lo hi : Bound ℕ) where
  -- An entry matches if its key meets the one bound and the other.
  pub matches-both : (e : Entry) → matches lo hi e ≡ (key_meets_lower lo e.key && key_meets_upper hi e.key)
  matches-both e = by (key_meets_lower lo e.key) refl
    where
      by : (b : Bool) → key_meets_lower lo e.key ≡ b → matches lo hi e ≡ (key_meets_lower lo e.key && key_meets_upper hi e.key)
      by true m = rw (m, matches)
      by false m = rw (m, matches)

  pub matches-none : (e : Entry) → (meets_lower lo e ≡ true → meets_upper hi e ≡ false) → matches lo hi e ≡ false
  matches-none e k = by (meets_lower lo e) refl
    where
      by : (b : Bool) → meets_lower lo e ≡ b → matches lo hi e ≡ false
      by true eb = rw (eb, matches) (k eb)
      by false eb = rw (eb, matches)

  -- Above an entry past the upper bound nothing matches.
  select-past : (x : Entry) → meets_upper hi x ≡ false → (l : List Entry) → Above x.key l → select (matches lo hi) l ≡ []
  select-past x ex = select-above (matches lo hi) x.key (λ y h. matches-none y (λ m. upper-falls hi x y h ex))

  select-one : (x : Entry) (xs : List Entry) → meets_lower lo x ≡ true → Above x.key xs → select (matches lo hi) xs ≡ take_to (meets_upper hi) xs
      → select (matches lo hi) (x ∷ xs) ≡ take_to (meets_upper hi) (x ∷ xs)
  select-one x xs el a ih = by (meets_upper hi x) refl
    where
      by : (b : Bool) → meets_upper hi x ≡ b → select (matches lo hi) (x ∷ xs) ≡ take_to (meets_upper hi) (x ∷ xs)
      by true eb =
          let em : matches lo hi x ≡ true = rw (el, matches) eb in
          rw (em, eb, select, take_to) (ap (λ (l : List Entry). x ∷ l) ih)
      by false eb =
          let em : matches lo hi x ≡ false = rw (el, matches) eb in
          rw (em, eb, select, take_to) (select-past x eb xs a)

  select-run : (w : Entry) → meets_lower lo w ≡ true → (l : List Entry) → Above w.key l → Ascending l → select (matches lo hi) l ≡ take_to (meets_upper hi) l
  select-run w ew [] a c = refl
  select-run w ew (x ∷ xs) a c = select-one x xs (lower-rises lo w x a.0 ew) c.0 (select-run w ew xs a.1 c.1)

  -- The entries of an ascending list that match: from the first that meets the lower bound, before the first past the upper one.
  pub select-ascending : (l : List Entry) → Ascending l → select (matches lo hi) l ≡ take_to (meets_upper hi) (drop_to (meets_lower lo) l)
  select-ascending [] c = refl
  select-ascending (x ∷ xs) c = by (meets_lower lo x) refl (select-ascending xs c.1)
    where
      by : (b : Bool) → meets_lower lo x ≡ b → select (matches lo hi) xs ≡ take_to (meets_upper hi) (drop_to (meets_lower lo) xs)
          → select (matches lo hi) (x ∷ xs) ≡ take_to (meets_upper hi) (drop_to (meets_lower lo) (x ∷ xs))
      by true eb ih = rw (eb, drop_to) (select-one x xs eb c.0 (select-run x eb xs c.0 c.1))
      by false eb ih =
          let em : matches lo hi x ≡ false = rw (eb, matches) in
          rw (em, eb, select, drop_to) ih

-- Where the bounds cross, no entry meets both.
pub crossed-fails : (lo hi : Bound ℕ) → crosses lo hi ≡ true → (e : Entry) → meets_lower lo e ≡ true → meets_upper hi e ≡ false
crossed-fails Unbounded hi c e m = absurd (true≢false c refl)
crossed-fails (Included a) Unbounded c e m = absurd (true≢false c refl)
crossed-fails (Included a) (Included b) c e m = lt-leb e.key b (omega (arith, ltb-true, leb-true))
crossed-fails (Included a) (Excluded b) c e m = le-ltb e.key b (omega (arith, ltb-true, leb-true))
crossed-fails (Excluded a) Unbounded c e m = absurd (true≢false c refl)
crossed-fails (Excluded a) (Included b) c e m = lt-leb e.key b (omega (arith, ltb-true))
crossed-fails (Excluded a) (Excluded b) c e m = le-ltb e.key b (omega (arith, ltb-true, leb-true))

-- Where they do not, an entry below the lower bound meets the upper one.
uncrossed-meets : (lo hi : Bound ℕ) → crosses lo hi ≡ false → (e : Entry) → meets_lower lo e ≡ false → meets_upper hi e ≡ true
uncrossed-meets Unbounded hi c e m = absurd (true≢false refl m)
uncrossed-meets (Included a) Unbounded c e m = refl
uncrossed-meets (Included a) (Included b) c e m = le-leb e.key b (omega (arith, ltb-false, leb-false))
uncrossed-meets (Included a) (Excluded b) c e m = lt-ltb e.key b (omega (arith, ltb-false, leb-false))
uncrossed-meets (Excluded a) Unbounded c e m = refl
uncrossed-meets (Excluded a) (Included b) c e m = le-leb e.key b (omega (arith, ltb-false))
uncrossed-meets (Excluded a) (Excluded b) c e m = lt-ltb e.key b (omega (arith, ltb-false, leb-false))

-- So the first entry past the upper bound is the same in the list from the lower bound on.
pub drop_past : (lo hi : Bound ℕ) → crosses lo hi ≡ false → (l : List Entry) → drop_to (past hi) (drop_to (meets_lower lo) l) ≡ drop_to (past hi) l
drop_past lo hi c [] = refl
drop_past lo hi c (x ∷ xs) = by (meets_lower lo x) refl (drop_past lo hi c xs)
  where
    by : (b : Bool) → meets_lower lo x ≡ b → drop_to (past hi) (drop_to (meets_lower lo) xs) ≡ drop_to (past hi) xs
        → drop_to (past hi) (drop_to (meets_lower lo) (x ∷ xs)) ≡ drop_to (past hi) (x ∷ xs)
    by true eb ih = rw (eb, drop_to)
    by false eb ih = let eu = uncrossed-meets lo hi c x eb in rw (eb, eu, drop_to) ih

-- ---- how many entries pass a test

pub select-few : (f : Entry → Bool) (es : List Entry) → length (select f es) ≤ length es
select-few f [] = omega arith
select-few f (e ∷ es) = by (f e) refl (select-few f es)
  where
    by : (b : Bool) → f e ≡ b → length (select f es) ≤ length es → length (select f (e ∷ es)) ≤ length (e ∷ es)
    by true eb ih = rw (eb, select) (omega arith)
    by false eb ih = rw (eb, select) (omega arith)

-- ---- what is selected: the entries of the list that pass, and those only

module _ (f : Entry → Bool) where
  pub select-none : ((e : Entry) → f e ≡ false) → (l : List Entry) → select f l ≡ []
  select-none h [] = refl
  select-none h (x ∷ l) = rw (h x, select) (select-none h l)

  one_passes : (b : Bool) (x e : Entry) (l : List Entry) → f x ≡ b → (In e (select f l) → In e l × (f e ≡ true))
      → In e (elim b [ true ↦ x ∷ select f l | false ↦ select f l ]) → In e (x ∷ l) × (f e ≡ true)
  one_passes true x e l eb ih first = (first, eb)
  one_passes true x e l eb ih (later i) = let (j, t) = ih i in (later j, t)
  one_passes false x e l eb ih i = let (j, t) = ih i in (later j, t)

  selected-passes : (e : Entry) (l : List Entry) → In e (select f l) → In e l × (f e ≡ true)
  selected-passes e [] i = elim i [ ]
  selected-passes e (x ∷ l) i = one_passes (f x) x e l refl (selected-passes e l) i

  passing-selected : (e : Entry) (l : List Entry) → In e l → f e ≡ true → In e (select f l)
  passing-selected e [] i t = elim i [ ]
  passing-selected e (x ∷ l) first t = subst (λ (b : Bool). In e (elim b [ true ↦ e ∷ select f l | false ↦ select f l ])) (sym t) first
  passing-selected e (x ∷ l) (later i) t = by (f x) (passing-selected e l i t)
    where
      by : (b : Bool) → In e (select f l) → In e (elim b [ true ↦ x ∷ select f l | false ↦ select f l ])
      by true j = later j
      by false j = j

  pub select-exactly : (e : Entry) (l : List Entry) → In e (select f l) ↔ (In e l × (f e ≡ true))
  select-exactly e l = (selected-passes e l, λ h. passing-selected e l h.0 h.1)
