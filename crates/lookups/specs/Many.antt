-- Many lookups after one check: key by key, a value that is found goes to the place of its key. Assumes nothing: these are definitions.
use Rattle.std.specs.Prelude.{ℕ, zero, suc, ◌+◌, min, List, length, get_or, set, None, Option, Some}
use Rattle.format.specs.declared.Entry.{Entry}
use Rattle.format.specs.Layout.{Layout, Limits}
use Rattle.format.specs.Refusal.{Answer, gives, refuses}
use Rattle.format.specs.Check.{accepted, refused, check_archive}
use Rattle.format.specs.Lookup.{lookup}

-- The values, and how many keys are found.
pub record Many : Type 0 where
  pub values : List ℕ
  pub found : ℕ

abbrev pub many : List ℕ → ℕ → Many
many vs n = record { values = vs; found = n }

-- What the lookup of the key at place i leaves.
unfoldable pub store : Option Entry → ℕ → Many → Many
store (Some e) i m = many (set m.values i e.value) (m.found + 1)
store None i m = m

-- What the first n keys leave, each found or not as `look` says.
unfoldable pub first_many : (ℕ → Option Entry) → List ℕ → List ℕ → ℕ → Many
first_many look ks vs zero = many vs 0
first_many look ks vs (suc n) = store (look (get_or ks n 0)) n (first_many look ks vs n)

-- How many keys are looked up: all that have a place.
abbrev pub sought : List ℕ → List ℕ → ℕ
sought ks vs = min (length ks) (length vs)

-- What all of them leave.
abbrev pub all_many : (ℕ → Option Entry) → List ℕ → List ℕ → Many
all_many look ks vs = first_many look ks vs (sought ks vs)

module _ (L : Layout) (M : Limits) (s ks vs : List ℕ) where
  -- How many keys are found.
  unfoldable pub many_call : Answer ℕ
  many_call = elim (check_archive L M s) [ accepted n start ↦ gives (all_many (lookup L M s) ks vs).found | refused r ↦ refuses r ]

  -- The values afterwards.
  unfoldable pub many_values : List ℕ
  many_values = elim (check_archive L M s) [ accepted n start ↦ (all_many (lookup L M s) ks vs).values | refused r ↦ vs ]
