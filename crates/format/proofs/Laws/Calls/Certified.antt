-- From the answer of certify to what range and column answer, and that certified bytes are accepted ones whose keys ascend and whose nodes are not
-- hollow. Assumes nothing.
use Rattle.std.specs.Prelude.{ℕ, ◌-◌, ◌^◌, ◌<◌, ◌≡◌, List, [], ◌↔◌, Bool, length, ℤ}
use Rattle.std.proofs.Math.Path.{refl, ap}
use Rattle.std.proofs.Common.{sym, ◌∙◌, subst}
use Rattle.format.specs.declared.Entry.{Entry}
use Rattle.std.specs.declared.ops.Bound.{Bound}
use Rattle.std.specs.declared.ops.Bound.TheVariants.{Included}
use Rattle.format.specs.declared.Packing.{Packing}
use Rattle.format.specs.Layout.{Layout, record_size, Limits, Within, nested}
use Rattle.format.specs.Refusal.{gives, refuses}
use Rattle.format.specs.RelPtr.{at, target}
use Rattle.format.specs.Key.{Degrees, key_of, bits_of, column_bounds}
use Rattle.format.specs.declared.Column.{Column}
use Rattle.format.specs.Check.{Checked, accepted, refused, counted, check_archive}
use Rattle.format.specs.Entries.{list_at, list}
use Rattle.format.specs.Certify.{Ascending, Solid, certify}
use Rattle.format.specs.Range.{matches, select, range}
use Rattle.format.specs.Column.{column}
use Rattle.format.specs.Written.{written, keys_after, values_after, Out, out, walked}
use Rattle.format.specs.Calls.{range_call, range_keys, range_values, column_call, column_keys, column_values}
use Rattle.format.specs.Accepted.{Certified}
use Rattle.format.proofs.Laws.Certify.Certified.{certified, certify-accepts, exactly}
use Rattle.format.proofs.Laws.Numbers.Key.{column-given}
use Rattle.format.proofs.Laws.Numbers.Column.{between-column}
use Rattle.format.proofs.Laws.Range.List.{matches-both}
use Rattle.format.proofs.Laws.Read.Written.{none-walked}
use Rattle.format.proofs.Laws.Calls.Accepted.{gives-inv, refuses-inv, empty, list-root}

module _ (L : Layout) (M : Limits) (s : List ℕ) where
  -- ---- bytes that certify refuses

  module _ (r : ℕ) (e : counted (certify L M s) ≡ refuses r) (lo hi : Bound ℕ) (ks vs : List ℕ) where
    uncertified : certify L M s ≡ refused r
    uncertified = refuses-inv (certify L M s) r e

    pub range-refuses : range_call L M s lo hi ks vs ≡ refuses r
    unfolding range_call
    range-refuses = rw (uncertified, range_call)

    pub range-keys-refuses : range_keys L M s lo hi ks vs ≡ ks
    unfolding range_keys
    range-keys-refuses = rw (uncertified, range_keys)

    pub range-values-refuses : range_values L M s lo hi ks vs ≡ vs
    unfolding range_values
    range-values-refuses = rw (uncertified, range_values)

  -- Accepted bytes are certified, with the same count, exactly when the list's keys ascend and no reachable node is hollow.
  pub certified-exactly : (n : ℕ) → counted (check_archive L M s) ≡ gives n → (counted (certify L M s) ≡ gives n) ↔ (Ascending (list L M s) × Solid L s)
  certified-exactly n e =
      let t = (gives-inv (check_archive L M s) n e).0 in
      let accepts-n : check_archive L M s ≡ accepted n t = (gives-inv (check_archive L M s) n e).1 in (
        λ c.
            let u = (gives-inv (certify L M s) n c).0 in
            let C = (certified L M s n u (gives-inv (certify L M s) n c).1).0 in
            (C.ascending, C.solid),
        λ h. ap counted ((exactly L M s n t accepts-n).1 h),
      )

  -- ---- bytes that certify accepts

  module _ (n : ℕ) (e : counted (certify L M s) ≡ gives n) where
    certifies : certify L M s ≡ accepted n (gives-inv (certify L M s) n e).0
    certifies = (gives-inv (certify L M s) n e).1

    pub is-certified : Certified L M s
    is-certified = (certified L M s n (gives-inv (certify L M s) n e).0 certifies).0

    -- Check accepts them too, with the same answer.
    pub certified-accepts : counted (check_archive L M s) ≡ gives n
    certified-accepts = ap counted (certify-accepts L M s n (gives-inv (certify L M s) n e).0 certifies)

    -- The keys below the root ascend.
    pub ascending-root : (n ≡ 0 → ⊥) → (q : ℕ) → target L s (length s - record_size L) ≡ at q → {M' : Limits} → Within M M'
        → Ascending (list_at L s (nested M') q)
    ascending-root z q t within = subst Ascending (list-root L M s n certified-accepts z q t within) is-certified.ascending

    module _ (lo hi : Bound ℕ) (ks vs : List ℕ) where
      pub range-certified : range_call L M s lo hi ks vs ≡ gives (record { written = written (range L M s lo hi) ks vs; matching = length (range L M s lo hi) })
      unfolding range_call
      range-certified = rw (certifies, range_call)

      pub range-keys-certified : range_keys L M s lo hi ks vs ≡ keys_after (range L M s lo hi) ks vs
      unfolding range_keys
      range-keys-certified = rw (certifies, range_keys)

      pub range-values-certified : range_values L M s lo hi ks vs ≡ values_after (range L M s lo hi) ks vs
      unfolding range_values
      range-values-certified = rw (certifies, range_values)

      -- The answer, where es is the range, m of them match, and ks' and vs' are what writing them leaves.
      module _ (es : List Entry) (ee : range L M s lo hi ≡ es) (m : ℕ) (em : m ≡ length es) (ks' vs' : List ℕ) (w : ℕ)
          (ew : out ks' vs' w ≡ walked es ks vs) where
        whole-range : walked (range L M s lo hi) ks vs ≡ out ks' vs' w
        whole-range = rw ee (sym ew)

        range-answers : range_call L M s lo hi ks vs ≡ gives (record { written = w; matching = m })
        range-answers = range-certified ∙ cc (ap (λ (x : Out). x.at) whole-range, ap length ee, em)

        keys-answers : range_keys L M s lo hi ks vs ≡ ks'
        keys-answers = range-keys-certified ∙ ap (λ (x : Out). x.keys) whole-range

        values-answers : range_values L M s lo hi ks vs ≡ vs'
        values-answers = range-values-certified ∙ ap (λ (x : Out). x.values) whole-range

      module _ (z : n ≡ 0) where
        no-range : range L M s lo hi ≡ []
        unfolding range
        no-range = rw (empty L M s n certified-accepts z)

        pub range_none : range_call L M s lo hi ks vs ≡ gives (record { written = 0; matching = 0 })
        range_none = range-answers [] no-range 0 refl ks vs 0 (sym (none-walked ks vs))

        pub range-keys-none : range_keys L M s lo hi ks vs ≡ ks
        range-keys-none = keys-answers [] no-range 0 refl ks vs 0 (sym (none-walked ks vs))

        pub range-values-none : range_values L M s lo hi ks vs ≡ vs
        range-values-none = values-answers [] no-range 0 refl ks vs 0 (sym (none-walked ks vs))

      module _ (z : n ≡ 0 → ⊥) (q : ℕ) (t : target L s (length s - record_size L) ≡ at q) {M' : Limits} (within : Within M M') (m : ℕ)
          (em : m ≡ length (select (matches lo hi) (list_at L s (nested M') q))) (ks' vs' : List ℕ) (w : ℕ)
          (ew : out ks' vs' w ≡ walked (select (matches lo hi) (list_at L s (nested M') q)) ks vs) where
        range-root : range L M s lo hi ≡ select (matches lo hi) (list_at L s (nested M') q)
        unfolding range
        range-root = ap (select (matches lo hi)) (list-root L M s n certified-accepts z q t within)

        pub range_gives : range_call L M s lo hi ks vs ≡ gives (record { written = w; matching = m })
        range_gives = range-answers _ range-root m em ks' vs' w ew

        pub range-keys-gives : range_keys L M s lo hi ks vs ≡ ks'
        range-keys-gives = keys-answers _ range-root m em ks' vs' w ew

        pub range-values-gives : range_values L M s lo hi ks vs ≡ vs'
        range-values-gives = values-answers _ range-root m em ks' vs' w ew

  -- ---- a column query, by what the bounds and certify answer

  module _ (P : Packing) (exam eye : ℕ) (a b : ℤ) (ks vs : List ℕ) where
    pub column-uncertified : (r : ℕ) → counted (certify L M s) ≡ refuses r → column_call L M s P exam eye a b ks vs ≡ refuses r
    unfolding column_call
    column-uncertified r u = rw (refuses-inv (certify L M s) r u, column_call)

    module _ (c : Column) (e : column_bounds P exam eye a b ≡ gives c) where
      pub column-ranges : column_call L M s P exam eye a b ks vs ≡ range_call L M s c.lower c.upper ks vs
      unfolding column_call
      column-ranges = by (certify L M s) refl
        where
          by : (x : Checked) → certify L M s ≡ x → column_call L M s P exam eye a b ks vs ≡ range_call L M s c.lower c.upper ks vs
          by (accepted n t) ex = rw (ex, column_call, e)
          by (refused r) ex = rw (ex, column_call) (sym (range-refuses r (ap counted ex) c.lower c.upper ks vs))

      pub column-keys-ranges : column_keys L M s P exam eye a b ks vs ≡ range_keys L M s c.lower c.upper ks vs
      unfolding column_keys
      column-keys-ranges = rw (e, column_keys)

      pub column-values-ranges : column_values L M s P exam eye a b ks vs ≡ range_values L M s c.lower c.upper ks vs
      unfolding column_values
      column-values-ranges = rw (e, column_values)

    module _ (q : ℕ) (e : column_bounds P exam eye a b ≡ refuses q) where
      pub column-refused : (n : ℕ) → counted (certify L M s) ≡ gives n → column_call L M s P exam eye a b ks vs ≡ refuses q
      unfolding column_call
      column-refused n u = rw ((gives-inv (certify L M s) n u).1, column_call, e)

      pub column-keys-refused : column_keys L M s P exam eye a b ks vs ≡ ks
      unfolding column_keys
      column-keys-refused = rw (e, column_keys)

      pub column-values-refused : column_values L M s P exam eye a b ks vs ≡ vs
      unfolding column_values
      column-values-refused = rw (e, column_values)

    -- On certified bytes the entries are those of the column, by the fields of their keys.
    module _ (n : ℕ) (u : counted (certify L M s) ≡ gives n) (h₁ : exam < 2 ^ 24) (h₂ : eye < 2) (ha : Degrees a) (hb : Degrees b) where
      abbrev bounds : Column
      bounds = record { lower = Included (key_of exam eye (bits_of P a) 0 0); upper = Included (key_of exam eye (bits_of P b) (2 ^ 8 - 1) (2 ^ 23 - 1)) }

      bounded : column_bounds P exam eye a b ≡ gives bounds
      bounded = column-given P exam eye a b _ _ h₁ h₂ refl refl

      column-range : range L M s bounds.lower bounds.upper ≡ column L M s P exam eye a b
      unfolding range
      column-range =
          ap (λ (t : Entry → Bool). select t (list L M s))
          (λ j e. (matches-both bounds.lower bounds.upper e ∙ between-column P exam eye a b h₁ h₂ ha hb e) j)

      pub column-certified : column_call L M s P exam eye a b ks vs
          ≡ gives (record { written = written (column L M s P exam eye a b) ks vs; matching = length (column L M s P exam eye a b) })
      column-certified =
          column-ranges bounds bounded ∙ range-certified n u bounds.lower bounds.upper ks vs
          ∙ ap (λ (es : List Entry). gives (record { written = written es ks vs; matching = length es })) column-range

      pub column-keys-certified : column_keys L M s P exam eye a b ks vs ≡ keys_after (column L M s P exam eye a b) ks vs
      column-keys-certified =
          column-keys-ranges bounds bounded ∙ range-keys-certified n u bounds.lower bounds.upper ks vs
          ∙ ap (λ (es : List Entry). keys_after es ks vs) column-range

      pub column-values-certified : column_values L M s P exam eye a b ks vs ≡ values_after (column L M s P exam eye a b) ks vs
      column-values-certified =
          column-values-ranges bounds bounded ∙ range-values-certified n u bounds.lower bounds.upper ks vs
          ∙ ap (λ (es : List Entry). values_after es ks vs) column-range
