-- Laws of many lookups: of a step, of the keys looked up so far, and of the call by what check answers. Assumes nothing.
use Rattle.std.specs.Prelude.{Option, Some, None}
use Prim.Native.Nat.{ℕ, zero, suc, ◌+◌, ◌-◌, ◌≤◌}
use mathlib.Core.Path.{◌≡◌, refl, sym, ◌∙◌, ap}
use mathlib.Core.List.{List}
use native.Mathlib.Omega.{arith}
use native.Mathlib.Numerals.{add-one}
use lib.ListN.{length, get_or, set}
use Rattle.format.specs.declared.Entry.{Entry}
use Rattle.format.specs.Layout.{Layout, Limits, Within, nested, record_size}
use Rattle.format.specs.Refusal.{gives, refuses}
use Rattle.format.specs.RelPtr.{at, target}
use Rattle.format.specs.Check.{Checked, accepted, refused, counted, check_archive}
use Rattle.format.specs.Lookup.{lookup, lookup_at}
use Rattle.format.proofs.Laws.Calls.Accepted.{gives-inv, refuses-inv, lookup-accepted, lookup-none, lookup-root}
use Rattle.lookups.specs.Many.{Many, many, store, first_many, sought, all_many, many_call, many_values}

-- ---- one key

pub store_found : (f : Option Entry) (e : Entry) (i : ℕ) (vs : List ℕ) (n : ℕ) → f ≡ Some e → many (set vs i e.value) (n + 1) ≡ store f i (many vs n)
unfolding store
store_found f e i vs n t = rw t refl

pub store_nothing : (f : Option Entry) (i : ℕ) (vs : List ℕ) (n : ℕ) → f ≡ None → many vs n ≡ store f i (many vs n)
unfolding store
store_nothing f i vs n t = rw t refl

store-most : (f : Option Entry) (i k : ℕ) (m : Many) → m.found ≤ k → (store f i m).found ≤ suc k
unfolding store
store-most (Some e) i k m h = omega arith
store-most None i k m h = omega arith

-- ---- the keys so far

module _ (look : ℕ → Option Entry) (ks vs : List ℕ) where
  pub first-none : many vs 0 ≡ first_many look ks vs 0
  unfolding first_many
  first-none = refl

  first-suc : (i : ℕ) → first_many look ks vs (suc i) ≡ store (look (get_or ks i 0)) i (first_many look ks vs i)
  unfolding first_many
  first-suc i = refl

  most : (i : ℕ) → (first_many look ks vs i).found ≤ i
  unfolding first_many
  most zero = omega arith
  most (suc i) = store-most (look (get_or ks i 0)) i i (first_many look ks vs i) (most i)

  module _ (i : ℕ) (us : List ℕ) (n : ℕ) (e : many us n ≡ first_many look ks vs i) where
    -- No more are found than are looked up.
    pub found-most : n ≤ i
    found-most = let m = most i in let z : n ≡ (first_many look ks vs i).found = ap (λ (x : Many). x.found) e in omega arith

    pub first_more : (us' : List ℕ) (n' : ℕ) → many us' n' ≡ store (look (get_or ks i 0)) i (many us n) → many us' n' ≡ first_many look ks vs (i + 1)
    first_more us' n' t = t ∙ ap (store (look (get_or ks i 0)) i) e ∙ sym (first-suc i) ∙ ap (first_many look ks vs) (sym (add-one i))

-- Lookups that agree leave the same.
same_first : (f g : ℕ → Option Entry) → ((k : ℕ) → f k ≡ g k) → (ks vs : List ℕ) (n : ℕ) → first_many f ks vs n ≡ first_many g ks vs n
unfolding first_many
same_first f g h ks vs zero = refl
same_first f g h ks vs (suc n) =
    ap (λ (x : Option Entry). store x n (first_many f ks vs n)) (h (get_or ks n 0)) ∙ ap (store (g (get_or ks n 0)) n) (same_first f g h ks vs n)

none_found : (ks vs : List ℕ) (n : ℕ) → first_many (λ k. None) ks vs n ≡ many vs 0
unfolding first_many store
none_found ks vs zero = refl
none_found ks vs (suc n) = none_found ks vs n

-- ---- the call, by what check answers

gives_one : {A : Type 0} (a b : A) → gives a ≡ gives b → a ≡ b
gives_one a b e = cc

module _ (L : Layout) (M : Limits) (s : List ℕ) where
  -- No more are found than there are keys.
  pub many-most : (ks vs : List ℕ) (n : ℕ) → many_call L M s ks vs ≡ gives n → n ≤ length ks
  unfolding many_call
  many-most ks vs n e = go (check_archive L M s) refl
    where
      go : (c : Checked) → check_archive L M s ≡ c → n ≤ length ks
      go (accepted k t) ec =
          let all = (all_many (lookup L M s) ks vs).found in
          let z : all ≡ n = gives_one all n (rw (ec, many_call) at e) in
          omega (arith, z, most (lookup L M s) ks vs (sought ks vs))
      go (refused r) ec =
          let z : refuses r ≡ gives n = rw (ec, many_call) at e in
          let o : ◌≡◌ {A = ℕ} 0 1 = cc in
          absurd (omega arith)

  module _ (r : ℕ) (e : counted (check_archive L M s) ≡ refuses r) (ks vs : List ℕ) where
    pub many-refuses : many_call L M s ks vs ≡ refuses r
    unfolding many_call
    many-refuses = rw (refuses-inv (check_archive L M s) r e, many_call)

    pub many-values-refuses : many_values L M s ks vs ≡ vs
    unfolding many_values
    many-values-refuses = rw (refuses-inv (check_archive L M s) r e, many_values)

  module _ (n : ℕ) (e : counted (check_archive L M s) ≡ gives n) (ks vs : List ℕ) where
    many-accepted : many_call L M s ks vs ≡ gives (all_many (lookup L M s) ks vs).found
    unfolding many_call
    many-accepted = rw ((gives-inv (check_archive L M s) n e).1, many_call)

    values-accepted : many_values L M s ks vs ≡ (all_many (lookup L M s) ks vs).values
    unfolding many_values
    values-accepted = rw ((gives-inv (check_archive L M s) n e).1, many_values)

    module _ (look : ℕ → Option Entry) (same : (k : ℕ) → lookup L M s k ≡ look k) (us : List ℕ) (m : ℕ) (w : many us m ≡ all_many look ks vs) where
      all : all_many (lookup L M s) ks vs ≡ many us m
      all = same_first (lookup L M s) look same ks vs (sought ks vs) ∙ sym w

      answers : many_call L M s ks vs ≡ gives m
      answers = many-accepted ∙ ap (λ (x : Many). gives x.found) all

      leaves : many_values L M s ks vs ≡ us
      leaves = values-accepted ∙ ap (λ (x : Many). x.values) all

    module _ (z : n ≡ 0) where
      nowhere : (k : ℕ) → lookup L M s k ≡ None
      nowhere k = gives_one _ _ (sym (lookup-accepted L M s n e k) ∙ lookup-none L M s n e z k)

      pub many-none : many_call L M s ks vs ≡ gives 0
      many-none = answers (λ k. None) nowhere vs 0 (sym (none_found ks vs (sought ks vs)))

      pub many-values-none : many_values L M s ks vs ≡ vs
      many-values-none = leaves (λ k. None) nowhere vs 0 (sym (none_found ks vs (sought ks vs)))

    module _ (z : n ≡ 0 → ⊥) (q : ℕ) (t : target L s (length s - record_size L) ≡ at q) {M' : Limits} (within : Within M M') (us : List ℕ) (m : ℕ)
        (w : many us m ≡ all_many (λ k. lookup_at L s k (nested M') q) ks vs) where
      pub many-gives : many_call L M s ks vs ≡ gives m
      many-gives = answers (λ k. lookup_at L s k (nested M') q) (lookup-root L M s n e z q t within) us m w

      pub many-values-gives : many_values L M s ks vs ≡ us
      many-values-gives = leaves (λ k. lookup_at L s k (nested M') q) (lookup-root L M s n e z q t within) us m w
