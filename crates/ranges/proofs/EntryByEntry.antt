-- The fold over the entries of a range comes to the entries that match, and what of an ascending list it may pass over. Assumes nothing.
use Prim.Native.Nat.{ℕ, suc, ◌+◌, ◌≤◌, ◌<◌, min}
use mathlib.Core.Path.{◌≡◌, refl, sym, ◌∙◌, ap}
use mathlib.Core.Bool.{Bool, true, false}
use mathlib.Core.List.{List, [], ◌∷◌, ◌++◌}
use native.Mathlib.Decide.{dec_lt}
use native.Mathlib.Omega.{arith}
use lib.ListN.{length}
use lib.Dec.{leb}
use borrow.Author.Tests.{le-leb, lt-leb}
use Rattle.format.specs.declared.Entry.{Entry}
use Rattle.format.specs.Range.{from_to}
use Rattle.format.specs.Certify.{Ascending}
use Rattle.format.specs.Range.{held, select}
use Rattle.format.specs.Written.{written, Out, out, put, runs, fill, walked}
use Rattle.format.proofs.Laws.Certify.Ascend.{Split, split}
use Rattle.format.proofs.Laws.Range.List.{select-under, select-above}
use Rattle.format.proofs.Laws.Read.Written.{runs_none, runs-cons, runs_append, put-room, fill-full, all-filled}
use Rattle.ranges.specs.Taken.{taken, range_step, ranged}

-- ---- entries taken

-- The code writes an entry as a walk does, and counts by itself.
pub put-taken : (e : Entry) (ks vs : List ℕ) (n : ℕ) {ks' vs' : List ℕ} {m : ℕ} → out ks' vs' m ≡ put e (out ks vs n)
    → out ks' vs' (n + 1) ≡ taken e (out ks vs n)
unfolding taken
put-taken e ks vs n w = ap (λ (o : Out). out o.keys o.values (n + 1)) w

-- All of these entries taken: both lists as a walk leaves them, and the number goes on.
abbrev Counted : List Entry → List ℕ → List ℕ → ℕ → Type 0
Counted es ks vs n = runs taken es (out ks vs n) ≡ out (fill es (out ks vs n)).keys (fill es (out ks vs n)).values (n + length es)

counted : (es : List Entry) (ks vs : List ℕ) (n : ℕ) → Counted es ks vs n
unfolding runs
counted [] ks vs n = let z : n + 0 ≡ n = omega arith in rw z
counted (e ∷ es) ks vs n = go (dec_lt n (min (length ks) (length vs))) (counted es)
  where
    z : n + 1 + length es ≡ n + suc (length es)
    z = omega arith

    go : Dec (n < min (length ks) (length vs)) → ((ks vs : List ℕ) (n : ℕ) → Counted es ks vs n) → Counted (e ∷ es) ks vs n
    go (yes h) ih =
        let w = put-room e ks vs n (omega arith) (omega arith) in
        rw (← put-taken e ks vs n (sym w), runs-cons put e es (out ks vs n), w, ← z) (ih _ _ (n + 1))
    go (no h) ih =
        let full : (es : List Entry) (m : ℕ) → n ≤ m → fill es (out ks vs m) ≡ out ks vs m = λ es m l. fill-full es ks vs m (omega arith) in
        rw (← put-taken e ks vs n (sym (full (e ∷ []) n (omega arith))), full (e ∷ es) n (omega arith), ← z)
        (rw (full es (n + 1) (omega arith)) at (ih ks vs (n + 1)))

module _ (least greatest : ℕ) where
  -- ---- one entry

  step-held : (e : Entry) (o : Out) → held (from_to least greatest) e ≡ true → range_step least greatest e o ≡ taken e o
  unfolding range_step
  step-held e o h = rw (h, range_step)

  step_other : (e : Entry) (o : Out) → held (from_to least greatest) e ≡ false → range_step least greatest e o ≡ o
  unfolding range_step
  step_other e o h = rw (h, range_step)

  below-least : (e : Entry) → e.key < least → held (from_to least greatest) e ≡ false
  below-least e h = rw (lt-leb least e.key h)

  past-greatest : (e : Entry) → greatest < e.key → held (from_to least greatest) e ≡ false
  past-greatest e h = by (leb least e.key) refl
    where
      by : (b : Bool) → leb least e.key ≡ b → held (from_to least greatest) e ≡ false
      by true m = rw m (lt-leb e.key greatest h)
      by false m = rw m

  pub step_in : (e : Entry) (o : Out) → least ≤ e.key → e.key ≤ greatest → range_step least greatest e o ≡ taken e o
  step_in e o h l = step-held e o (rw (le-leb least e.key h, le-leb e.key greatest l))

  pub step-low : (e : Entry) (o : Out) → e.key < least → range_step least greatest e o ≡ o
  step-low e o h = step_other e o (below-least e h)

  -- ---- the closed form

  runs-select : (es : List Entry) (o : Out) → ranged least greatest es o ≡ runs taken (select (held (from_to least greatest)) es) o
  unfolding runs
  runs-select [] o = refl
  runs-select (e ∷ es) o = by (held (from_to least greatest) e) refl (runs-select es)
    where
      by : (b : Bool) → held (from_to least greatest) e ≡ b
          → ((u : Out) → ranged least greatest es u ≡ runs taken (select (held (from_to least greatest)) es) u)
          → ranged least greatest (e ∷ es) o ≡ runs taken (select (held (from_to least greatest)) (e ∷ es)) o
      by true eb ih = rw (step-held e o eb, eb, select) (ih (taken e o))
      by false eb ih = rw (step_other e o eb, eb, select) (ih o)

  count : (es : List Entry) (ks vs : List ℕ) (n : ℕ) → let found = select (held (from_to least greatest)) es in
      ranged least greatest es (out ks vs n) ≡ out (fill found (out ks vs n)).keys (fill found (out ks vs n)).values (n + length found)
  count es ks vs n = runs-select es (out ks vs n) ∙ counted (select (held (from_to least greatest)) es) ks vs n

  -- From the first place of both lists on: m match, and w are written.
  pub range-written : (es : List Entry) (ks vs : List ℕ) {ks' vs' : List ℕ} {m w : ℕ} → out ks' vs' m ≡ ranged least greatest es (out ks vs 0)
      → length ks' ≡ length ks → length vs' ≡ length vs → w ≡ min (min m (length ks')) (length vs')
      → (out ks' vs' w ≡ walked (select (held (from_to least greatest)) es) ks vs) × (m ≡ length (select (held (from_to least greatest)) es))
  range-written es ks vs {ks'} {vs'} {m} {w} e ek ev ew =
      let found = select (held (from_to least greatest)) es in
      let all = e ∙ count es ks vs 0 in
      let n : m ≡ 0 + length found = ap (λ (o : Out). o.at) all in
      let z : w ≡ written found ks vs = omega arith in
      (rw z (ap (λ (o : Out). out o.keys o.values (written found ks vs)) all ∙ rw (all-filled found ks vs)), omega arith)

  -- ---- the number matching

  ranged-at : (es : List Entry) (o : Out) → (ranged least greatest es o).at ≡ o.at + length (select (held (from_to least greatest)) es)
  ranged-at es o = ap (λ (u : Out). u.at) (count es o.keys o.values o.at)

  -- What a part of the entries comes to fits where all of them do: the number matching never falls.
  pub part-fits : (l r es₀ : List Entry) (o o₀ : Out) (top : ℕ) → ranged least greatest (l ++ r) o ≡ ranged least greatest es₀ o₀
      → o₀.at + length (select (held (from_to least greatest)) es₀) < top → o.at + length (select (held (from_to least greatest)) l) < top
  part-fits l r es₀ o o₀ top e f =
      let w = ap (λ (u : Out). u.at) (sym (runs_append (range_step least greatest) l r o) ∙ e) in
      omega (arith, ranged-at l o, ranged-at r (ranged least greatest l o), ranged-at es₀ o₀)

  -- Where nothing matches, all stays.
  none-match : (es : List Entry) (o : Out) → select (held (from_to least greatest)) es ≡ [] → ranged least greatest es o ≡ o
  none-match es o h = runs-select es o ∙ rw h (runs_none taken o)

  -- ---- an ascending list w, which is split at e with the key k: o is the state before w, o₁ before e

  module _ {w : List Entry} (l : List Entry) (e : Entry) (r : List Entry) (m : w ≡ l ++ e ∷ r) (a : Ascending w) {k : ℕ} (ek : e.key ≡ k)
      (o : Out) (es₀ : List Entry) (o₀ : Out) (q : ranged least greatest w o ≡ ranged least greatest es₀ o₀) where
    parts : Split l e r
    parts = split l e r (rw m at a)

    from : (o₁ : Out) → o₁ ≡ ranged least greatest l o → ranged least greatest r (range_step least greatest e o₁) ≡ ranged least greatest es₀ o₀
    from o₁ t = cc (m, runs_append (range_step least greatest) l (e ∷ r) o, runs-cons (range_step least greatest) e r o₁, t, q)

    pub pass-low : k < least → ranged least greatest r o ≡ ranged least greatest es₀ o₀
    pass-low h =
        let none = select-under _ e.key (λ x u. below-least x (omega arith)) l parts.under in
        rw (step-low e o (omega arith)) at (from o (sym (none-match l o none)))

    module _ (o₁ : Out) (t : o₁ ≡ ranged least greatest l o) where
      pub stop-past : greatest < k → o₁ ≡ ranged least greatest es₀ o₀
      stop-past h =
          let none = select-above _ e.key (λ x u. past-greatest x (omega arith)) r parts.above in
          sym (none-match r o₁ none) ∙ (rw (step_other e o₁ (past-greatest e (omega arith))) at (from o₁ t))

      pub one-fits : (top : ℕ) → o₀.at + length (select (held (from_to least greatest)) es₀) < top → least ≤ k → k ≤ greatest → o₁.at + 1 < top
      unfolding taken
      one-fits top f h n =
          let u = part-fits [] r es₀ (taken e o₁) o₀ top (rw (step_in e o₁ (omega arith) (omega arith)) at (from o₁ t)) f in
          omega arith
