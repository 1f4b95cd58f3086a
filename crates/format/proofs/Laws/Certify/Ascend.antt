-- Lists whose keys ascend, and the search in them: what a lookup needs of a list that is split at an entry. Assumes nothing.
use Rattle.std.specs.Prelude.{ℕ, ◌<◌, ◌≤◌, ◌≡◌, refl, Bool, true, false, List, [], ◌∷◌, ◌++◌, eqb, ltb, None, Some}
use Rattle.std.proofs.Common.{sym, ◌∙◌, arith, eqb-true, eq-eqb, ne_eqb, ltb-true, lt-ltb}
use Rattle.std.proofs.lemmas.Bool.{eqb-false}
use Rattle.format.specs.declared.Entry.{Entry}
use Rattle.format.specs.Certify.{Above, Ascending, ascends_from, ascends}
use Rattle.format.specs.Lookup.{find}
use Rattle.format.proofs.Laws.Check.Reach.{true≢false}

-- Every key is below k.
abbrev pub Under : ℕ → List Entry → Type 0
Under k [] = Unit {0}
Under k (x ∷ xs) = (x.key < k) × Under k xs

pub find-hit : (k : ℕ) (x : Entry) (xs : List Entry) → x.key ≡ k → find k (x ∷ xs) ≡ Some x
find-hit k x xs e = rw (eq-eqb x.key k e, find)

pub find-miss : (k : ℕ) (x : Entry) (xs : List Entry) → (x.key ≡ k → ⊥) → find k (x ∷ xs) ≡ find k xs
find-miss k x xs e = rw (ne_eqb x.key k e, find)

-- What an ascending list that is split at e says of its two parts.
pub record Split (l : List Entry) (e : Entry) (r : List Entry) : Type 0 where
  pub left : Ascending l
  pub under : Under e.key l
  pub above : Above e.key r
  pub right : Ascending r

above-append : (k : ℕ) (l r : List Entry) → Above k (l ++ r) → Above k l × Above k r
above-append k [] r h = (tt, h)
above-append k (x ∷ xs) r h = let (a, b) = above-append k xs r h.1 in ((h.0, a), b)

pub split : (l : List Entry) (e : Entry) (r : List Entry) → Ascending (l ++ e ∷ r) → Split l e r
split [] e r h = record { left = tt; under = tt; above = h.0; right = h.1 }
split (x ∷ xs) e r h =
    let s = split xs e r h.1 in
    let (a, b) = above-append x.key xs (e ∷ r) h.0 in
    record { left = (a, s.left); under = (b.0, s.under); above = s.above; right = s.right }

-- A list whose keys are above j holds no key up to j.
find-above : (k j : ℕ) → k ≤ j → (l : List Entry) → Above j l → find k l ≡ None
find-above k j h [] a = refl
find-above k j h (x ∷ xs) a = find-miss k x xs (λ e. omega arith) ∙ find-above k j h xs a.1

find-cons : (k : ℕ) (x : Entry) (l r : List Entry) → find k l ≡ find k r → find k (x ∷ l) ≡ find k (x ∷ r)
find-cons k x l r e = go (eqb x.key k) refl
  where
    go : (b : Bool) → eqb x.key k ≡ b → find k (x ∷ l) ≡ find k (x ∷ r)
    go true eb = find-hit k x l (eqb-true _ _ eb) ∙ sym (find-hit k x r (eqb-true _ _ eb))
    go false eb = find-miss k x l (eqb-false _ _ eb) ∙ e ∙ sym (find-miss k x r (eqb-false _ _ eb))

find-left : (k : ℕ) (l r : List Entry) → find k r ≡ None → find k (l ++ r) ≡ find k l
find-left k [] r e = e
find-left k (x ∷ xs) r e = find-cons k x (xs ++ r) xs (find-left k xs r e)

find-right : (k : ℕ) (l r : List Entry) → Under k l → find k (l ++ r) ≡ find k r
find-right k [] r u = refl
find-right k (x ∷ xs) r u = find-miss k x (xs ++ r) (λ e. omega arith) ∙ find-right k xs r u.1

under-mono : (j k : ℕ) → j ≤ k → (l : List Entry) → Under j l → Under k l
under-mono j k h [] u = tt
under-mono j k h (x ∷ xs) u = (omega arith, under-mono j k h xs u.1)

-- The search in an ascending list that is split at e: left of e for a key below e's, right of it for one above.
module _ (l : List Entry) (e : Entry) (r : List Entry) (asc : Ascending (l ++ e ∷ r)) (k : ℕ) where
  pub find-less : k < e.key → find k (l ++ e ∷ r) ≡ find k l
  find-less h = let s = split l e r asc in
      find-left k l (e ∷ r) (find-miss k e r (λ q. omega arith) ∙ find-above k e.key (omega arith) r s.above)

  pub find-same : k ≡ e.key → find k (l ++ e ∷ r) ≡ Some e
  find-same h = let s = split l e r asc in
      find-right k l (e ∷ r) (under-mono e.key k (omega arith) l s.under) ∙ find-hit k e r (sym h)

  pub find-more : e.key < k → find k (l ++ e ∷ r) ≡ find k r
  find-more h = let s = split l e r asc in
      find-right k l (e ∷ r) (under-mono e.key k (omega arith) l s.under) ∙ find-miss k e r (λ q. omega arith)

-- ---- the test says the same

above-mono : (j k : ℕ) → k ≤ j → (l : List Entry) → Above j l → Above k l
above-mono j k h [] a = tt
above-mono j k h (x ∷ xs) a = (omega arith, above-mono j k h xs a.1)

ascends-from : (k : ℕ) (l : List Entry) → ascends_from k l ≡ true → Above k l × Ascending l
ascends-from k [] e = (tt, tt)
ascends-from k (x ∷ xs) e = go (ltb k x.key) refl (ascends-from x.key xs)
  where
    go : (b : Bool) → ltb k x.key ≡ b → (ascends_from x.key xs ≡ true → Above x.key xs × Ascending xs) → Above k (x ∷ xs) × Ascending (x ∷ xs)
    go true eb rec =
        let h : k < x.key = ltb-true _ _ eb in
        let (a, b) = rec (rw (eb, ascends_from) at e) in
        ((h, above-mono x.key k (omega arith) xs a), (a, b))
    go false eb rec = absurd (true≢false (rw (eb, ascends_from) at e) refl)

pub ascending : (l : List Entry) → ascends l ≡ true → Ascending l
ascending [] e = tt
ascending (x ∷ xs) e = ascends-from x.key xs e

above-ascends : (k : ℕ) (l : List Entry) → Above k l → Ascending l → ascends_from k l ≡ true
above-ascends k [] a b = refl
above-ascends k (x ∷ xs) a b = rw (lt-ltb k x.key a.0, ascends_from) (above-ascends x.key xs b.0 b.1)

pub ascends-true : (l : List Entry) → Ascending l → ascends l ≡ true
ascends-true [] a = refl
ascends-true (x ∷ xs) a = above-ascends x.key xs a.0 a.1
