-- The given lists as entries. Assumes nothing.
use Rattle.std.specs.Prelude.{ℕ, suc, ◌≡◌, refl, List, [], ◌∷◌, map, length}
use Rattle.std.proofs.Common.{sym, ap, suc-ne-zero}
use Rattle.std.proofs.Math.Nat.{suc_inj}
use Rattle.format.specs.declared.Entry.{Entry}
use Rattle.format.specs.Bytes.{AllWords}
use Rattle.format.specs.Tree.{KeyValue}
use Rattle.format.specs.Build.{pairs}
use Rattle.format.specs.TreeShape.{pairs_of, keys_of, AllFit}

pub keys-pairs : (ks vs : List ℕ) → length ks ≡ length vs → keys_of (pairs ks vs) ≡ ks
keys-pairs [] vs e = refl
keys-pairs (k ∷ ks) [] e = absurd (suc-ne-zero (length ks) e)
keys-pairs (k ∷ ks) (v ∷ vs) e = ap (λ (l : List ℕ). k ∷ l) (keys-pairs ks vs (suc_inj e))

pub values-pairs : (ks vs : List ℕ) → length ks ≡ length vs → map (λ (e : KeyValue). e.value) (pairs ks vs) ≡ vs
values-pairs [] [] e = refl
values-pairs [] (v ∷ vs) e = absurd (suc-ne-zero (length vs) (sym e))
values-pairs (k ∷ ks) [] e = absurd (suc-ne-zero (length ks) e)
values-pairs (k ∷ ks) (v ∷ vs) e = ap (λ (l : List ℕ). v ∷ l) (values-pairs ks vs (suc_inj e))

pub length_pairs : (ks vs : List ℕ) → length ks ≡ length vs → length (pairs ks vs) ≡ length ks
length_pairs [] vs e = refl
length_pairs (k ∷ ks) [] e = absurd (suc-ne-zero (length ks) e)
length_pairs (k ∷ ks) (v ∷ vs) e = ap suc (length_pairs ks vs (suc_inj e))

pub pairs-fit : (ks vs : List ℕ) → AllWords ks → AllWords vs → AllFit (pairs ks vs)
pairs-fit [] vs h g = tt
pairs-fit (k ∷ ks) [] h g = tt
pairs-fit (k ∷ ks) (v ∷ vs) h g = (record { key = h 0; value = g 0 }, pairs-fit ks vs (λ i. h (suc i)) (λ i. g (suc i)))

pub keys-list : (l : List Entry) → keys_of (pairs_of l) ≡ map (λ (e : Entry). e.key) l
keys-list [] = refl
keys-list (x ∷ l) = ap (λ (r : List ℕ). x.key ∷ r) (keys-list l)

pub values-list : (l : List Entry) → map (λ (e : KeyValue). e.value) (pairs_of l) ≡ map (λ (e : Entry). e.value) l
values-list [] = refl
values-list (x ∷ l) = ap (λ (r : List ℕ). x.value ∷ r) (values-list l)
