-- From the answer of check to what the readers require, and to what check's readers and certify answer: on refused bytes, at count 0, and above 0
-- where all is read off the root's node. Assumes nothing.
use Prim.Native.Nat.{ℕ, zero, suc, ◌-◌, ◌≤◌, ◌<◌}
use Rattle.std.specs.Prelude.{◌≡◌, refl, Bool, true, false, List, [], length, None, Option}
use Rattle.std.proofs.Common.{sym, ◌∙◌, subst, arith}
use Rattle.std.proofs.Math.Path.{ap}
use Rattle.format.specs.declared.Entry.{Entry}
use Rattle.format.specs.Layout.{Layout, record_size, Limits, Within, nested}
use Rattle.format.specs.Refusal.{gives, refuses}
use Rattle.format.specs.RelPtr.{at, target}
use Rattle.format.specs.Check.{Checked, accepted, refused, counted, root, recorded, check_archive}
use Rattle.format.specs.Entries.{list_at, list_of, list}
use Rattle.format.specs.Certify.{ascends, hollow_at, hollow_of, certify}
use Rattle.format.specs.Lookup.{bytes_of, place_of, lookup_at, lookup_of, lookup}
use Rattle.format.specs.Written.{written, keys_after, values_after, Out, out, walked}
use Rattle.format.specs.Calls.{lookup_call, bytes_call, place_call, walk_call, walk_keys, walk_values}
use Rattle.format.specs.Accepted.{Rooted, Archive}
use Rattle.format.specs.Readable.{Down, Node}
use Rattle.format.proofs.Laws.Check.Archive.{archive}
use Rattle.format.proofs.Laws.Certify.Certified.{certify-hollow, certify-order, certify-passes, certify-refused}
use Rattle.format.proofs.Laws.Read.Node.{root-down, root-node, node-within, list-within, lookup-within, hollow-within}
use Rattle.format.proofs.Laws.Read.Written.{none-walked}

pub gives-inv : (a : Checked) (n : ℕ) → counted a ≡ gives n → (t : ℕ) × (a ≡ accepted n t)
gives-inv (accepted m t) n e = let z : m ≡ n = cc in (t, ap (λ (x : ℕ). accepted x t) z)
gives-inv (refused r) n e = let z : ◌≡◌ {A = ℕ} 0 1 = cc in absurd (omega arith)

pub refuses-inv : (a : Checked) (r : ℕ) → counted a ≡ refuses r → a ≡ refused r
refuses-inv (accepted m t) r e = let z : ◌≡◌ {A = ℕ} 0 1 = cc in absurd (omega arith)
refuses-inv (refused q) r e = let z : q ≡ r = cc in ap refused z

module _ (L : Layout) (M : Limits) (s : List ℕ) where
  -- ---- bytes that check refuses

  module _ (r : ℕ) (e : counted (check_archive L M s) ≡ refuses r) where
    refuses-all : check_archive L M s ≡ refused r
    refuses-all = refuses-inv (check_archive L M s) r e

    pub certify-refuses : counted (certify L M s) ≡ refuses r
    certify-refuses = ap counted (certify-refused L M s r refuses-all)

    pub lookup-refuses : (k : ℕ) → lookup_call L M s k ≡ refuses r
    unfolding lookup_call
    lookup-refuses k = rw (refuses-all, lookup_call)

    pub bytes-refuses : (k : ℕ) → bytes_call L M s k ≡ []
    unfolding bytes_call
    bytes-refuses k = rw (refuses-all, bytes_call)

    pub place-refuses : (a : ℕ × ℕ) (k : ℕ) → place_call L M s a k ≡ a
    unfolding place_call
    place-refuses a k = rw (refuses-all, place_call)

    module _ (ks vs : List ℕ) where
      pub walk-refuses : walk_call L M s ks vs ≡ refuses r
      unfolding walk_call
      walk-refuses = rw (refuses-all, walk_call)

      pub walk-keys-refuses : walk_keys L M s ks vs ≡ ks
      unfolding walk_keys
      walk-keys-refuses = rw (refuses-all, walk_keys)

      pub walk-values-refuses : walk_values L M s ks vs ≡ vs
      unfolding walk_values
      walk-values-refuses = rw (refuses-all, walk_values)

  -- ---- bytes that check accepts

  module _ (n : ℕ) (e : counted (check_archive L M s) ≡ gives n) where
    next : ℕ
    next = (gives-inv (check_archive L M s) n e).0

    accepts : check_archive L M s ≡ accepted n next
    unfolding next
    accepts = (gives-inv (check_archive L M s) n e).1

    arch : Archive L M s
    arch = (archive L M s n next accepts).0

    -- An accepted archive.
    pub is-archive : Archive L M s
    is-archive = arch

    pub is-recorded : n ≡ recorded L s
    is-recorded = (archive L M s n next accepts).1

    pub entries-few : L.entries ≤ 15
    entries-few = arch.most

    pub room_for : record_size L ≤ length s
    room_for = arch.room

    pub lookup-accepted : (k : ℕ) → lookup_call L M s k ≡ gives (lookup L M s k)
    unfolding lookup_call
    lookup-accepted k = rw (accepts, lookup_call)

    pub bytes-accepted : (k : ℕ) → bytes_call L M s k ≡ bytes_of s (lookup L M s k)
    unfolding bytes_call
    bytes-accepted k = rw (accepts, bytes_call)

    pub place-accepted : (a : ℕ × ℕ) (k : ℕ) → place_call L M s a k ≡ place_of a (lookup L M s k)
    unfolding place_call
    place-accepted a k = rw (accepts, place_call)

    module _ (ks vs : List ℕ) where
      pub walk-accepted : walk_call L M s ks vs ≡ gives (record { written = written (list L M s) ks vs; count = n })
      unfolding walk_call
      walk-accepted = rw (accepts, walk_call)

      pub walk-keys-accepted : walk_keys L M s ks vs ≡ keys_after (list L M s) ks vs
      unfolding walk_keys
      walk-keys-accepted = rw (accepts, walk_keys)

      pub walk-values-accepted : walk_values L M s ks vs ≡ values_after (list L M s) ks vs
      unfolding walk_values
      walk-values-accepted = rw (accepts, walk_values)

    -- ---- at count 0

    module _ (z : n ≡ 0) where
      none : recorded L s ≡ 0
      none = sym is-recorded ∙ z

      pub empty : list L M s ≡ []
      unfolding list
      empty = rw none

      nowhere : (k : ℕ) → lookup L M s k ≡ None
      unfolding lookup
      nowhere k = rw none

      pub certify-none : counted (certify L M s) ≡ gives 0
      certify-none = ap counted (certify-passes L M s n next accepts (ap (hollow_of L M s) none) (ap ascends empty)) ∙ ap gives z

      pub lookup-none : (k : ℕ) → lookup_call L M s k ≡ gives None
      lookup-none k = lookup-accepted k ∙ ap gives (nowhere k)

      pub bytes-none : (k : ℕ) → bytes_call L M s k ≡ []
      unfolding bytes_of
      bytes-none k = bytes-accepted k ∙ ap (bytes_of s) (nowhere k)

      pub place_none : (a : ℕ × ℕ) (k : ℕ) → place_call L M s a k ≡ a
      place_none a k = place-accepted a k ∙ ap (place_of a) (nowhere k)

      module _ (ks vs : List ℕ) where
        stays : walked (list L M s) ks vs ≡ out ks vs 0
        stays = rw empty (none-walked ks vs)

        pub walk_none : walk_call L M s ks vs ≡ gives (record { written = 0; count = 0 })
        walk_none = walk-accepted ks vs ∙ cc (ap (λ (x : Out). x.at) stays)

        pub walk-keys-none : walk_keys L M s ks vs ≡ ks
        walk-keys-none = walk-keys-accepted ks vs ∙ ap (λ (x : Out). x.keys) stays

        pub walk-values-none : walk_values L M s ks vs ≡ vs
        walk-values-none = walk-values-accepted ks vs ∙ ap (λ (x : Out). x.values) stays

    -- ---- above 0: the record's field leads back to a node

    module _ (z : n ≡ 0 → ⊥) where
      some : 0 < recorded L s
      some = go n is-recorded z
        where
          go : (n : ℕ) → n ≡ recorded L s → (n ≡ 0 → ⊥) → 0 < recorded L s
          go zero c z = absurd (z refl)
          go (suc n) c z = omega arith

      rooted : Rooted L M s
      rooted = arch.rooted some

      pub root-back : Down L s (length s - record_size L) (length s - record_size L)
      unfolding root
      root-back = root-down L M s rooted

      -- At q, with limits M' that are nowhere below.
      module _ (q : ℕ) (t : target L s (length s - record_size L) ≡ at q) {M' : Limits} (within : Within M M') where
        is-root : rooted.pos ≡ q
        unfolding root
        is-root = let l = rooted.leads in cc

        own : Node L M s q
        own = subst (Node L M s) is-root (root-node L M s arch rooted)

        pub node : Node L M' s q
        node = node-within L within s own

        leads : target L s (root L s) ≡ at q
        unfolding root
        leads = t

        pub list-root : list L M s ≡ list_at L s (nested M') q
        unfolding list
        list-root = go (recorded L s) some
          where
            go : (r : ℕ) → 0 < r → list_of L M s r ≡ list_at L s (nested M') q
            go zero h = absurd (omega arith)
            go (suc r) h = rw leads (list-within L within s own)

        hollow-root : hollow_of L M s (recorded L s) ≡ hollow_at L s (nested M') q
        hollow-root = go (recorded L s) some
          where
            go : (r : ℕ) → 0 < r → hollow_of L M s r ≡ hollow_at L s (nested M') q
            go zero h = absurd (omega arith)
            go (suc r) h = rw leads (hollow-within L within s own)

        pub lookup-root : (k : ℕ) → lookup L M s k ≡ lookup_at L s k (nested M') q
        unfolding lookup
        lookup-root k = go (recorded L s) some
          where
            go : (r : ℕ) → 0 < r → lookup_of L M s k r ≡ lookup_at L s k (nested M') q
            go zero h = absurd (omega arith)
            go (suc r) h = rw leads (lookup-within L within s own k)

        pub certify-8 : (h : Bool) → h ≡ hollow_at L s (nested M') q → h ≡ true → counted (certify L M s) ≡ refuses 8
        certify-8 h eh y = ap counted (certify-hollow L M s n next accepts (hollow-root ∙ sym eh ∙ y))

        module _ (h o : Bool) (eh : h ≡ hollow_at L s (nested M') q) (eo : o ≡ ascends (list_at L s (nested M') q)) (y : h ≡ false) where
          pub certify-9 : o ≡ false → counted (certify L M s) ≡ refuses 9
          certify-9 w = ap counted (certify-order L M s n next accepts (hollow-root ∙ sym eh ∙ y) (ap ascends list-root ∙ sym eo ∙ w))

          pub certify-all : o ≡ true → counted (certify L M s) ≡ gives n
          certify-all w = ap counted (certify-passes L M s n next accepts (hollow-root ∙ sym eh ∙ y) (ap ascends list-root ∙ sym eo ∙ w))

        pub lookup-gives : (k : ℕ) (f : Option Entry) → f ≡ lookup_at L s k (nested M') q → lookup_call L M s k ≡ gives f
        lookup-gives k f ef = lookup-accepted k ∙ ap gives (lookup-root k ∙ sym ef)

        pub bytes_gives : (k : ℕ) → bytes_call L M s k ≡ bytes_of s (lookup_at L s k (nested M') q)
        bytes_gives k = bytes-accepted k ∙ ap (bytes_of s) (lookup-root k)

        pub place-gives : (a : ℕ × ℕ) (k : ℕ) → place_call L M s a k ≡ place_of a (lookup_at L s k (nested M') q)
        place-gives a k = place-accepted a k ∙ ap (place_of a) (lookup-root k)

        module _ (ks vs ks' vs' : List ℕ) (w : ℕ) (ew : out ks' vs' w ≡ walked (list_at L s (nested M') q) ks vs) where
          whole : walked (list L M s) ks vs ≡ out ks' vs' w
          whole = ap (λ (l : List Entry). walked l ks vs) list-root ∙ sym ew

          pub walk-gives : walk_call L M s ks vs ≡ gives (record { written = w; count = n })
          walk-gives = walk-accepted ks vs ∙ ap (λ (x : Out). gives (record { written = x.at; count = n })) whole

          pub walk-keys-gives : walk_keys L M s ks vs ≡ ks'
          walk-keys-gives = walk-keys-accepted ks vs ∙ ap (λ (x : Out). x.keys) whole

          pub walk-values-gives : walk_values L M s ks vs ≡ vs'
          walk-values-gives = walk-values-accepted ks vs ∙ ap (λ (x : Out). x.values) whole
