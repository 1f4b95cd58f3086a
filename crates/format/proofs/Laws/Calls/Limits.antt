-- The calls under two limits, the first nowhere above the second: what the first accept, the second accept with the same answers, and what the first
-- refuse by another number than 1 and 5, the second refuse by that number. Assumes nothing.
use Rattle.std.specs.Prelude.{ℕ, zero, suc, ◌≡◌, List, ℤ, length}
use Rattle.std.proofs.Math.Path.{refl, ap}
use Rattle.std.proofs.Common.{sym, ◌∙◌, arith}
use Rattle.format.specs.declared.Entry.{Entry}
use Rattle.std.specs.declared.ops.Bound.{Bound}
use Rattle.format.specs.declared.Packing.{Packing}
use Rattle.format.specs.Layout.{Layout, Limits, Within}
use Rattle.format.specs.Refusal.{Answer, gives, refuses, OfLimits}
use Rattle.format.specs.Check.{Checked, accepted, refused, counted, recorded, check_archive}
use Rattle.format.specs.Entries.{list_of, list}
use Rattle.format.specs.Certify.{hollow_of, certify}
use Rattle.format.specs.Lookup.{bytes_of, place_of, lookup_of, lookup}
use Rattle.format.specs.Range.{matches, select, range}
use Rattle.format.specs.Key.{column_bounds}
use Rattle.format.specs.declared.Column.{Column}
use Rattle.format.specs.Written.{written, keys_after, values_after}
use Rattle.format.specs.Calls.{lookup_call, bytes_call, place_call, walk_call, walk_keys, walk_values, range_call, range_keys, range_values}
use Rattle.format.specs.Calls.{column_call, column_keys, column_values}
use Rattle.format.specs.Accepted.{Rooted}
use Rattle.format.specs.Readable.{Node}
use Rattle.format.proofs.Laws.Check.Limits.{same_check}
use Rattle.format.proofs.Laws.Read.Node.{root-node, list-within, lookup-within, hollow-within}
use Rattle.format.proofs.Laws.Calls.Accepted.{is-archive, certify-refuses, lookup-accepted, bytes-accepted, place-accepted}
use Rattle.format.proofs.Laws.Calls.Accepted.{walk-accepted, walk-keys-accepted, walk-values-accepted}
use Rattle.format.proofs.Laws.Calls.Certified.{certified-accepts, range-certified, range-keys-certified, range-values-certified}
use Rattle.format.proofs.Laws.Calls.Certified.{range-refuses, range-keys-refuses, range-values-refuses, column-uncertified, column-refused}
use Rattle.format.proofs.Laws.Calls.Certified.{column-keys-refused, column-values-refused, column-ranges, column-keys-ranges, column-values-ranges}

gives≢refuses : {n r : ℕ} → gives n ≡ refuses r → ⊥
gives≢refuses e = let z : ◌≡◌ {A = ℕ} 0 1 = cc in omega arith

refused-one : {A : Type 0} {q r : ℕ} → ◌≡◌ {A = Answer A} (refuses q) (refuses r) → q ≡ r
refused-one e = cc

module _ (L : Layout) {M M' : Limits} (w : Within M M') (s : List ℕ) where
  -- ---- what the first accept

  module _ (n : ℕ) (a : counted (check_archive L M s) ≡ gives n) where
    check-same : check_archive L M s ≡ check_archive L M' s
    check-same = same_check L w s (λ r e o. gives≢refuses (sym a ∙ e))

    pub accepts-same : counted (check_archive L M' s) ≡ gives n
    accepts-same = sym (ap counted check-same) ∙ a

    -- By the recorded count: at 0, and above 0 where the root's node is read.
    by-root : {A : Type 0} (f g : ℕ → A) → f 0 ≡ g 0 → ((r : ℕ) (R : Rooted L M s) → f (suc r) ≡ g (suc r)) → f (recorded L s) ≡ g (recorded L s)
    by-root f g none some = go (recorded L s) refl
      where
        go : (r : ℕ) → recorded L s ≡ r → f r ≡ g r
        go zero e = none
        go (suc r) e = some r ((is-archive L M s n a).rooted (omega arith))

    top : (R : Rooted L M s) → Node L M s R.pos
    top R = root-node L M s (is-archive L M s n a) R

    list_same : list L M s ≡ list L M' s
    unfolding list
    list_same = by-root (list_of L M s) (list_of L M' s) refl (λ r R. rw R.leads (list-within L w s (top R)))

    lookup-same : (k : ℕ) → lookup L M s k ≡ lookup L M' s k
    unfolding lookup
    lookup-same k = by-root (lookup_of L M s k) (lookup_of L M' s k) refl (λ r R. rw R.leads (lookup-within L w s (top R) k))

    hollow-same : hollow_of L M s (recorded L s) ≡ hollow_of L M' s (recorded L s)
    hollow-same = by-root (hollow_of L M s) (hollow_of L M' s) refl (λ r R. rw R.leads (hollow-within L w s (top R)))

    pub certify-same : certify L M s ≡ certify L M' s
    unfolding certify
    certify-same = rw (check-same, hollow-same, list_same)

    -- ---- the calls, with what lent lists hold afterwards

    pub lookup-call-same : (k : ℕ) → lookup_call L M s k ≡ lookup_call L M' s k
    lookup-call-same k = lookup-accepted L M s n a k ∙ ap gives (lookup-same k) ∙ sym (lookup-accepted L M' s n accepts-same k)

    pub bytes_same : (k : ℕ) → bytes_call L M s k ≡ bytes_call L M' s k
    bytes_same k = bytes-accepted L M s n a k ∙ ap (bytes_of s) (lookup-same k) ∙ sym (bytes-accepted L M' s n accepts-same k)

    pub place_same : (p : ℕ × ℕ) (k : ℕ) → place_call L M s p k ≡ place_call L M' s p k
    place_same p k = place-accepted L M s n a p k ∙ ap (place_of p) (lookup-same k) ∙ sym (place-accepted L M' s n accepts-same p k)

    module _ (ks vs : List ℕ) where
      pub walk_same : walk_call L M s ks vs ≡ walk_call L M' s ks vs
      walk_same =
          walk-accepted L M s n a ks vs ∙ ap (λ (es : List Entry). gives (record { written = written es ks vs; count = n })) list_same
          ∙ sym (walk-accepted L M' s n accepts-same ks vs)

      pub walk-keys-same : walk_keys L M s ks vs ≡ walk_keys L M' s ks vs
      walk-keys-same =
          walk-keys-accepted L M s n a ks vs ∙ ap (λ (es : List Entry). keys_after es ks vs) list_same
          ∙ sym (walk-keys-accepted L M' s n accepts-same ks vs)

      pub walk-values-same : walk_values L M s ks vs ≡ walk_values L M' s ks vs
      walk-values-same =
          walk-values-accepted L M s n a ks vs ∙ ap (λ (es : List Entry). values_after es ks vs) list_same
          ∙ sym (walk-values-accepted L M' s n accepts-same ks vs)

    -- By what certify answers under both.
    by-certify : {A : Type 0} {x y : A}
        → ((m : ℕ) → counted (certify L M s) ≡ gives m → counted (certify L M' s) ≡ gives m → x ≡ y)
        → ((r : ℕ) → counted (certify L M s) ≡ refuses r → counted (certify L M' s) ≡ refuses r → x ≡ y) → x ≡ y
    by-certify {A} {x} {y} certified uncertified = go (certify L M s) refl
      where
        go : (c : Checked) → certify L M s ≡ c → x ≡ y
        go (accepted m t) e = certified m (ap counted e) (ap counted (sym certify-same ∙ e))
        go (refused r) e = uncertified r (ap counted e) (ap counted (sym certify-same ∙ e))

    module _ (lo hi : Bound ℕ) (ks vs : List ℕ) where
      entries-same : range L M s lo hi ≡ range L M' s lo hi
      unfolding range
      entries-same = ap (select (matches lo hi)) list_same

      pub range_same : range_call L M s lo hi ks vs ≡ range_call L M' s lo hi ks vs
      range_same =
          by-certify
          (λ m u u'.
          range-certified L M s m u lo hi ks vs
          ∙ ap (λ (es : List Entry). gives (record { written = written es ks vs; matching = length es })) entries-same
          ∙ sym (range-certified L M' s m u' lo hi ks vs))
          (λ r u u'. range-refuses L M s r u lo hi ks vs ∙ sym (range-refuses L M' s r u' lo hi ks vs))

      pub range-keys-same : range_keys L M s lo hi ks vs ≡ range_keys L M' s lo hi ks vs
      range-keys-same =
          by-certify
          (λ m u u'.
          range-keys-certified L M s m u lo hi ks vs ∙ ap (λ (es : List Entry). keys_after es ks vs) entries-same
          ∙ sym (range-keys-certified L M' s m u' lo hi ks vs))
          (λ r u u'. range-keys-refuses L M s r u lo hi ks vs ∙ sym (range-keys-refuses L M' s r u' lo hi ks vs))

      pub range-values-same : range_values L M s lo hi ks vs ≡ range_values L M' s lo hi ks vs
      range-values-same =
          by-certify
          (λ m u u'.
          range-values-certified L M s m u lo hi ks vs ∙ ap (λ (es : List Entry). values_after es ks vs) entries-same
          ∙ sym (range-values-certified L M' s m u' lo hi ks vs))
          (λ r u u'. range-values-refuses L M s r u lo hi ks vs ∙ sym (range-values-refuses L M' s r u' lo hi ks vs))

    module _ (P : Packing) (exam eye : ℕ) (x y : ℤ) (ks vs : List ℕ) where
      pub column-same : column_call L M s P exam eye x y ks vs ≡ column_call L M' s P exam eye x y ks vs
      column-same = go (column_bounds P exam eye x y) refl
        where
          go : (c : Answer Column) → column_bounds P exam eye x y ≡ c → column_call L M s P exam eye x y ks vs ≡ column_call L M' s P exam eye x y ks vs
          go (gives c) e =
              column-ranges L M s P exam eye x y ks vs c e ∙ range_same c.lower c.upper ks vs ∙ sym (column-ranges L M' s P exam eye x y ks vs c e)
          go (refuses q) e =
              by-certify
              (λ m u u'. column-refused L M s P exam eye x y ks vs q e m u ∙ sym (column-refused L M' s P exam eye x y ks vs q e m u'))
              (λ r u u'. column-uncertified L M s P exam eye x y ks vs r u ∙ sym (column-uncertified L M' s P exam eye x y ks vs r u'))

      pub column-keys-same : column_keys L M s P exam eye x y ks vs ≡ column_keys L M' s P exam eye x y ks vs
      column-keys-same = go (column_bounds P exam eye x y) refl
        where
          go : (c : Answer Column) → column_bounds P exam eye x y ≡ c → column_keys L M s P exam eye x y ks vs ≡ column_keys L M' s P exam eye x y ks vs
          go (gives c) e =
              column-keys-ranges L M s P exam eye x y ks vs c e ∙ range-keys-same c.lower c.upper ks vs
              ∙ sym (column-keys-ranges L M' s P exam eye x y ks vs c e)
          go (refuses q) e = column-keys-refused L M s P exam eye x y ks vs q e ∙ sym (column-keys-refused L M' s P exam eye x y ks vs q e)

      pub column-values-same : column_values L M s P exam eye x y ks vs ≡ column_values L M' s P exam eye x y ks vs
      column-values-same = go (column_bounds P exam eye x y) refl
        where
          go : (c : Answer Column) → column_bounds P exam eye x y ≡ c → column_values L M s P exam eye x y ks vs ≡ column_values L M' s P exam eye x y ks vs
          go (gives c) e =
              column-values-ranges L M s P exam eye x y ks vs c e ∙ range-values-same c.lower c.upper ks vs
              ∙ sym (column-values-ranges L M' s P exam eye x y ks vs c e)
          go (refuses q) e = column-values-refused L M s P exam eye x y ks vs q e ∙ sym (column-values-refused L M' s P exam eye x y ks vs q e)

  -- ---- what the first refuse for another reason

  pub refuses-same : (r : ℕ) → counted (check_archive L M s) ≡ refuses r → (OfLimits r → ⊥) → counted (check_archive L M' s) ≡ refuses r
  refuses-same r a never =
      sym (ap counted (same_check L w s (λ q e o. let z : q ≡ r = refused-one (sym e ∙ a) in never (rw (sym z) o)))) ∙ a

  pub uncertified-same : (r : ℕ) → counted (certify L M s) ≡ refuses r → (OfLimits r → ⊥) → counted (certify L M' s) ≡ refuses r
  uncertified-same r u never = go (check_archive L M s) refl
    where
      go : (c : Checked) → check_archive L M s ≡ c → counted (certify L M' s) ≡ refuses r
      go (accepted n t) e = sym (ap counted (certify-same n (ap counted e))) ∙ u
      go (refused q) e =
          let z : q ≡ r = refused-one (sym (certify-refuses L M s q (ap counted e)) ∙ u) in
          certify-refuses L M' s r (refuses-same r (rw z at (ap counted e)) never)

  pub column-refuses-same : (P : Packing) (exam eye : ℕ) (x y : ℤ) (ks vs : List ℕ) (r : ℕ) → column_call L M s P exam eye x y ks vs ≡ refuses r
      → (OfLimits r → ⊥) → column_call L M' s P exam eye x y ks vs ≡ refuses r
  column-refuses-same P exam eye x y ks vs r e never = go (certify L M s) refl
    where
      go : (c : Checked) → certify L M s ≡ c → column_call L M' s P exam eye x y ks vs ≡ refuses r
      go (accepted n t) ec = sym (column-same n (certified-accepts L M s n (ap counted ec)) P exam eye x y ks vs) ∙ e
      go (refused q) ec =
          let z : q ≡ r = refused-one (sym (column-uncertified L M s P exam eye x y ks vs q (ap counted ec)) ∙ e) in
          column-uncertified L M' s P exam eye x y ks vs r (uncertified-same r (rw z at (ap counted ec)) never)
