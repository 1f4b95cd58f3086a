-- Where the list's keys ascend, the lookup is the search in the list. Assumes nothing.
use Prim.Native.Nat.{ℕ, zero, suc, ◌<◌}
use Rattle.std.specs.Prelude.{◌≡◌, Bool, List, [], ◌∷◌, ◌++◌, eqb, ltb, Option}
use Rattle.std.proofs.Math.Path.{refl}
use Rattle.std.proofs.Common.{sym, ◌∙◌, arith, eqb-true, ltb-true, ltb-false}
use Rattle.std.proofs.Math.Bool.{true, false}
use Rattle.std.proofs.lemmas.Bool.{eqb-false}
use Rattle.format.specs.declared.Entry.{Entry}
use Rattle.format.specs.Layout.{Layout}
use Rattle.format.specs.RelPtr.{at, below, target, absent, Destination}
use Rattle.format.specs.Node.{Kind, leaf, inner, other, child, kind, leaf_count, slot}
use Rattle.format.specs.Entries.{slots, list_child, list_children, list_body, list_at}
use Rattle.format.specs.Certify.{Ascending}
use Rattle.format.specs.Lookup.{find, less, equal, greater, order, lookup_slots, lookup_child, lookup_children, lookup_body, lookup_at}
use Rattle.format.proofs.Laws.Certify.Ascend.{Split, split, find-less, find-same, find-more}

data Orders (k : ℕ) (e : Entry) : Type 0 where
  is-less : order k e ≡ less → k < e.key → Orders k e
  is-equal : order k e ≡ equal → k ≡ e.key → Orders k e
  is_greater : order k e ≡ greater → e.key < k → Orders k e

orders : (k : ℕ) (e : Entry) → Orders k e
orders k e = go (ltb k e.key) (eqb k e.key) refl refl
  where
    go : (a b : Bool) → ltb k e.key ≡ a → eqb k e.key ≡ b → Orders k e
    go true b ea eb = is-less (rw (ea, order)) (ltb-true _ _ ea)
    go false true ea eb = is-equal (rw (ea, eb, order)) (eqb-true _ _ eb)
    go false false ea eb = let ne = eqb-false k e.key eb in is_greater (rw (ea, eb, order)) (omega (arith, ltb-false k e.key ea))

module _ (L : Layout) (s : List ℕ) (k : ℕ) where
  slots-find : (p n i : ℕ) → Ascending (slots L s p n i) → lookup_slots L s k p n i ≡ find k (slots L s p n i)
  unfolding slots lookup_slots
  slots-find p zero i a = refl
  slots-find p (suc n) i a = go (orders k e) (slots-find p n (suc i) a.1)
    where
      e : Entry
      e = slot L s p i

      r : List Entry
      r = slots L s p n (suc i)

      go : Orders k e → lookup_slots L s k p n (suc i) ≡ find k r → lookup_slots L s k p (suc n) i ≡ find k (e ∷ r)
      go (is-less w h) ih = rw (w, lookup_slots) (sym (find-less [] e r a k h))
      go (is-equal w h) ih = rw (w, lookup_slots) (sym (find-same [] e r a k h))
      go (is_greater w h) ih = rw (w, lookup_slots) (ih ∙ sym (find-more [] e r a k h))

  module _ (look : ℕ → Option Entry) (give : ℕ → List Entry) (ih : (q : ℕ) → Ascending (give q) → look q ≡ find k (give q)) where
    child-find : (f : ℕ) → Ascending (list_child L s give f) → lookup_child L s k look f ≡ find k (list_child L s give f)
    unfolding lookup_child list_child
    child-find f a = go (absent L s f) (target L s f) refl refl
      where
        go : (b : Bool) (g : Destination) → absent L s f ≡ b → target L s f ≡ g → lookup_child L s k look f ≡ find k (list_child L s give f)
        go true g eb eg = rw (eb, lookup_child, list_child)
        go false (at q) eb eg = rw (eb, eg, lookup_child, list_child) (ih q (rw (eb, eg, list_child) at a))
        go false below eb eg = rw (eb, eg, lookup_child, list_child)

    children-find : (p n i : ℕ) → Ascending (list_children L s give p n i) → lookup_children L s k look p n i ≡ find k (list_children L s give p n i)
    unfolding lookup_children list_children
    children-find p zero i a = child-find _ a
    children-find p (suc n) i a = go (orders k e) (children-find p n (suc i) sp.right)
      where
        e : Entry
        e = slot L s p i

        l : List Entry
        l = list_child L s give (child L p i)

        r : List Entry
        r = list_children L s give p n (suc i)

        sp : Split l e r
        sp = split l e r a

        go : Orders k e → lookup_children L s k look p n (suc i) ≡ find k r → lookup_children L s k look p (suc n) i ≡ find k (l ++ e ∷ r)
        go (is-less w h) ih' = rw (w, lookup_children) (child-find _ sp.left ∙ sym (find-less l e r a k h))
        go (is-equal w h) ih' = rw (w, lookup_children) (sym (find-same l e r a k h))
        go (is_greater w h) ih' = rw (w, lookup_children) (ih' ∙ sym (find-more l e r a k h))

    body-find : (p : ℕ) (c : Kind) → Ascending (list_body L s give p c) → lookup_body L s k look p c ≡ find k (list_body L s give p c)
    unfolding lookup_body list_body
    body-find p leaf a = slots-find p (leaf_count L s p) 0 a
    body-find p inner a = children-find p L.entries 0 a
    body-find p other a = refl

  -- Where the keys that a node gives ascend, the search from that node finds what the list has.
  pub lookup-find : (fuel p : ℕ) → Ascending (list_at L s fuel p) → lookup_at L s k fuel p ≡ find k (list_at L s fuel p)
  unfolding lookup_at list_at
  lookup-find zero p a = refl
  lookup-find (suc fuel) p a = body-find (lookup_at L s k fuel) (list_at L s fuel) (lookup-find fuel) p (kind L s p) a
