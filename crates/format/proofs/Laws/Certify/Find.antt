-- What the search in a list finds: an entry of the list with the key, or nothing where no entry has it; in an ascending list each entry is the one
-- that its key finds. Assumes nothing.
use Rattle.std.specs.Prelude.{ℕ, ◌<◌, ◌≡◌, refl, Bool, true, false, List, [], ◌∷◌, ◌≢◌, eqb, None, Some}
use Rattle.std.proofs.Common.{sym, ◌∙◌, subst, arith, eqb-true}
use Rattle.std.proofs.lemmas.Bool.{eqb-false}
use Rattle.format.specs.declared.Entry.{Entry}
use Rattle.format.specs.Certify.{Above, Ascending}
use Rattle.format.specs.Lookup.{find, In, first, later}
use Rattle.format.proofs.Laws.Certify.Ascend.{find-hit, find-miss}

above_in : (k : ℕ) (l : List Entry) → Above k l → (e : Entry) → In e l → k < e.key
above_in k [] a e i = elim i [ ]
above_in k (x ∷ l) a e first = a.0
above_in k (x ∷ l) a e (later i) = above_in k l a.1 e i

pub find-found : (k : ℕ) (l : List Entry) (e : Entry) → find k l ≡ Some e → In e l × (e.key ≡ k)
find-found k [] e h = let z : ◌≡◌ {A = ℕ} 0 1 = cc in absurd (omega arith)
find-found k (x ∷ l) e h = go (eqb x.key k) refl (find-found k l e)
  where
    go : (b : Bool) → eqb x.key k ≡ b → (find k l ≡ Some e → In e l × (e.key ≡ k)) → In e (x ∷ l) × (e.key ≡ k)
    go true eb ih =
        let hx : Some x ≡ Some e = sym (find-hit k x l (eqb-true _ _ eb)) ∙ h in
        let ex : x ≡ e = cc in
        subst (λ (y : Entry). In y (x ∷ l) × (y.key ≡ k)) ex (first, eqb-true _ _ eb)
    go false eb ih = let (i, ek) = ih (sym (find-miss k x l (eqb-false _ _ eb)) ∙ h) in (later i, ek)

pub find-nothing : (k : ℕ) (l : List Entry) → find k l ≡ None → (e : Entry) → In e l → e.key ≢ k
find-nothing k [] h e i ek = elim i [ ]
find-nothing k (x ∷ l) h e first ek = let z : ◌≡◌ {A = ℕ} 0 1 = cc (find-hit k x l ek) in omega arith
find-nothing k (x ∷ l) h e (later i) ek = go (eqb x.key k) refl (find-nothing k l)
  where
    go : (b : Bool) → eqb x.key k ≡ b → (find k l ≡ None → (e : Entry) → In e l → e.key ≢ k) → ⊥
    go true eb ih = let z : ◌≡◌ {A = ℕ} 0 1 = cc (find-hit k x l (eqb-true _ _ eb)) in omega arith
    go false eb ih = ih (sym (find-miss k x l (eqb-false _ _ eb)) ∙ h) e i ek

pub find-one : (l : List Entry) → Ascending l → (e : Entry) → In e l → find e.key l ≡ Some e
find-one [] a e i = elim i [ ]
find-one (x ∷ l) a e first = find-hit e.key x l refl
find-one (x ∷ l) a e (later i) =
    let h = above_in x.key l a.0 e i in
    find-miss e.key x l (λ (z : x.key ≡ e.key). omega arith) ∙ find-one l a.1 e i
