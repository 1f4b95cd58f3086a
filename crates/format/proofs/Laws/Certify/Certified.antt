-- Certification: accepted bytes are certified exactly when the list's keys strictly ascend and no reachable node is hollow; and there the lookup
-- is the search in the list, for every key. Assumes nothing.
use Prim.Native.Nat.{ℕ, zero, suc, ◌+◌, ◌≤◌, ◌<◌}
use Rattle.std.specs.Prelude.{◌≡◌, Bool, not, ◌↔◌, List}
use Rattle.std.proofs.Math.Path.{refl}
use Rattle.std.proofs.Common.{◌∙◌}
use Rattle.std.proofs.Math.Bool.{true, false}
use native.Mathlib.Omega.{arith}
use Rattle.std.proofs.lemmas.Bool.{not-true}
use Rattle.format.specs.Layout.{Layout, Limits, nested}
use Rattle.format.specs.RelPtr.{at, below, target, absent, Destination}
use Rattle.format.specs.Node.{Kind, leaf, inner, other, child, kind}
use Rattle.format.specs.Check.{accepted, refused, root, recorded, check_archive}
use Rattle.format.specs.Entries.{list_target, list_at, list_of, list}
use Rattle.format.specs.Reachable.{Below, From, here, down}
use Rattle.format.specs.Certify.{Ascending, ascends, hollow, Solid, any_child, any_children, any_body, hollow_at, hollow_of, certify}
use Rattle.format.specs.Lookup.{find, lookup_target, lookup_at, lookup_of, lookup}
use Rattle.format.specs.Accepted.{Certified, Rooted, Archive}
use Rattle.format.specs.NodeRelation.{ChildOk, gone, there, ChildrenOk, last, more, NodeOk, Holds}
use Rattle.format.proofs.Laws.Check.Archive.{archive}
use Rattle.format.proofs.Laws.Certify.Ascend.{ascending, ascends-true}
use Rattle.format.proofs.Laws.Check.Complete.{pass}
use Rattle.format.proofs.Laws.Certify.Lookup.{lookup-find}
use Rattle.format.proofs.Laws.Check.Reach.{true≢false, First, same, via, first, children-of, through-below, Nth, this, next}
use Rattle.format.proofs.Laws.Check.Sound.{guard-inv, bind_inv}

pub or_left : (a b : Bool) → (elim a as (λ _. Bool) [ true ↦ true | false ↦ b ]) ≡ false → a ≡ false
or_left true b e = e
or_left false b e = refl

pub or_right : (a b : Bool) → (elim a as (λ _. Bool) [ true ↦ true | false ↦ b ]) ≡ false → b ≡ false
or_right true b e = absurd (true≢false refl e)
or_right false b e = e

module _ (L : Layout) (s : List ℕ) where
  -- What is known one level down: no field reachable from one that leads to a node N leads to a hollow node.
  SolidBelow : (N : ℕ → ℕ → ℕ → ℕ → Type 0) → (ℕ → Bool) → Type 0
  SolidBelow N any =
      (lo hi p n g f q : ℕ) → N lo hi p n → any p ≡ false → target L s g ≡ at p → From L s g f → target L s f ≡ at q → hollow L s q (kind L s q) ≡ false

  module _ (N : ℕ → ℕ → ℕ → ℕ → Type 0) (any : ℕ → Bool) (S : SolidBelow N any) where
    child-solid : {lo hi g stop n f q : ℕ} → ChildOk L s N lo hi g stop n → absent L s g ≡ false → any_child L s any g ≡ false → From L s g f
        → target L s f ≡ at q → hollow L s q (kind L s q) ≡ false
    unfolding SolidBelow any_child
    child-solid (gone ea es en) pr e r ef = absurd (true≢false ea pr)
    child-solid (there ea q el nd es) pr e r ef = S _ _ q _ _ _ _ nd (rw (ea, el, any_child) at e) el r ef

    children-solid : {p k i j lo n f q : ℕ} → ChildrenOk L s N p k i lo n → any_children L s any p k i ≡ false → Nth k i j
        → absent L s (child L p j) ≡ false → From L s (child L p j) f
        → target L s f ≡ at q → hollow L s q (kind L s q) ≡ false
    unfolding any_children
    children-solid (last c) e this pr r ef = child-solid c pr e r ef
    children-solid (more c ks en) e this pr r ef = child-solid c pr (or_left _ _ e) r ef
    children-solid {p = p} {i = i} (more c ks en) e (next x) pr r ef = children-solid ks (or_right (any_child L s any (child L p i)) _ e) x pr r ef

    node-solid : {lo hi p n g f q : ℕ} → NodeOk L s N lo hi p n → hollow L s p (kind L s p) ≡ false → any_body L s any p (kind L s p) ≡ false
        → target L s g ≡ at p → From L s g f → target L s f ≡ at q → hollow L s q (kind L s q) ≡ false
    unfolding any_body
    node-solid {lo} {hi} {p} {n} {g} {f} {q} nd eh ea el r ef = go (first L s r)
      where
        go : First L s g f → hollow L s q (kind L s q) ≡ false
        go (same e) = let eq : q ≡ p = cc in rw eq eh
        go (via b r') =
            let (e, u) = through-below L s el b r' in
            let ek : kind L s p ≡ inner = rw e at b.inside in
            children-solid (children-of L s N nd ek).1 (rw ek at ea) u.nth u.present u.from ef

  holds-solid : (d : ℕ) → SolidBelow (Holds L s d) (hollow_at L s d)
  unfolding SolidBelow hollow_at
  holds-solid zero lo hi p n g f q v e el r ef = absurd v
  holds-solid (suc d) lo hi p n g f q v e el r ef =
      node-solid (Holds L s d) (hollow_at L s d) (holds-solid d) v (or_left (hollow L s p (kind L s p)) _ e) (or_right (hollow L s p (kind L s p)) _ e) el r ef

  -- The other way: where the test finds a hollow node, one is reachable.
  record Hollow (g : ℕ) : Type 0 where
    pub field : ℕ
    pub from : From L s g field
    pub pos : ℕ
    pub leads : target L s field ≡ at pos
    pub is : hollow L s pos (kind L s pos) ≡ true

  onto : {g h : ℕ} → Below L s g h → {f : ℕ} → From L s h f → From L s g f
  onto b here = down here b
  onto b (down r c) = down (onto b r) c

  module _ (any : ℕ → Bool) (ih : (q f : ℕ) → any q ≡ true → target L s f ≡ at q → Hollow f) where
    child-hollow : (f : ℕ) → any_child L s any f ≡ true → (absent L s f ≡ false) × Hollow f
    unfolding any_child
    child-hollow f e = go (absent L s f) (target L s f) refl refl
      where
        go : (b : Bool) (t : Destination) → absent L s f ≡ b → target L s f ≡ t → (absent L s f ≡ false) × Hollow f
        go true t eb et = absurd (true≢false (rw (eb, any_child) at e) refl)
        go false (at q) eb et = (eb, ih q f (rw (eb, et, any_child) at e) et)
        go false below eb et = absurd (true≢false (rw (eb, et, any_child) at e) refl)

    children-hollow : (p k i : ℕ) → any_children L s any p k i ≡ true → (j : ℕ) × (j ≤ i + k) × (absent L s (child L p j) ≡ false) × Hollow (child L p j)
    unfolding any_children
    children-hollow p zero i e = let (pr, h) = child-hollow _ e in (i, omega arith, pr, h)
    children-hollow p (suc k) i e = go (any_child L s any (child L p i)) refl (children-hollow p k (suc i))
      where
        go : (b : Bool) → any_child L s any (child L p i) ≡ b
            → (any_children L s any p k (suc i) ≡ true → (j : ℕ) × (j ≤ suc i + k) × (absent L s (child L p j) ≡ false) × Hollow (child L p j))
            → (j : ℕ) × (j ≤ i + suc k) × (absent L s (child L p j) ≡ false) × Hollow (child L p j)
        go true eb rec = let (pr, h) = child-hollow _ eb in (i, omega arith, pr, h)
        go false eb rec = let (j, l, pr, h) = rec (rw (eb, any_children) at e) in (j, omega arith, pr, h)

    body-hollow : (p g : ℕ) (c : Kind) → kind L s p ≡ c → any_body L s any p c ≡ true → target L s g ≡ at p → Hollow g
    unfolding any_body
    body-hollow p g leaf ek e el = absurd (true≢false e refl)
    body-hollow p g inner ek e el =
        let (j, l, pr, h) = children-hollow p L.entries 0 e in
        record {
          field = h.field;
          from = onto (record { node = p; leads = el; inside = ek; index = j; bound = omega arith; is = refl; present = pr }) h.from;
          pos =
              h.pos;
          leads = h.leads;
          is = h.is;
        }
    body-hollow p g other ek e el = absurd (true≢false e refl)

  hollow-found : (fuel p g : ℕ) → hollow_at L s fuel p ≡ true → target L s g ≡ at p → Hollow g
  unfolding hollow_at
  hollow-found zero p g e el = absurd (true≢false e refl)
  hollow-found (suc fuel) p g e el = go (hollow L s p (kind L s p)) refl (hollow-found fuel)
    where
      go : (b : Bool) → hollow L s p (kind L s p) ≡ b → ((q f : ℕ) → hollow_at L s fuel q ≡ true → target L s f ≡ at q → Hollow f) → Hollow g
      go true eb rec = record { field = g; from = here; pos = p; leads = el; is = eb }
      go false eb rec = body-hollow (hollow_at L s fuel) rec p g (kind L s p) refl (rw (eb, hollow_at) at e) el

not-hollow : (b : Bool) → (b ≡ true → ⊥) → not b ≡ true
not-hollow true h = absurd (h refl)
not-hollow false h = refl

module _ (L : Layout) (M : Limits) (s : List ℕ) where
  root-firm : (r : ℕ) → recorded L s ≡ r → not (hollow_of L M s r) ≡ true → 0 < recorded L s → (R : Rooted L M s) → hollow_at L s (nested M) R.pos ≡ false
  root-firm zero er e h R = absurd (omega arith)
  root-firm (suc r) er e h R = rw R.leads at (not-true (hollow_of L M s (suc r)) e)

  all-solid : Archive L M s → (0 < recorded L s → (R : Rooted L M s) → hollow_at L s (nested M) R.pos ≡ false) → Solid L s
  unfolding SolidBelow
  all-solid A firm f q x ef =
      let R = A.rooted x.some in
      holds-solid L s (nested M) _ _ _ _ _ _ _ R.valid.holds (firm x.some R) R.leads x.from ef

  pub certified : (n t : ℕ) → certify L M s ≡ accepted n t → Certified L M s × (n ≡ recorded L s)
  unfolding certify
  certified n t e =
      let (m, u, ec, eg) = bind_inv (check_archive L M s) _ e in
      let (eh, a₁) = guard-inv (not (hollow_of L M s (recorded L s))) _ _ eg in
      let (ea, a₂) = guard-inv (ascends (list L M s)) _ _ a₁ in
      let (A, en) = archive L M s m u ec in
      let em : m ≡ n = cc in
      let firm = root-firm (recorded L s) refl eh in
      (record { archive = A; ascending = ascending (list L M s) ea; firm = firm; solid = all-solid A firm }, omega arith)

  -- What certify accepts, check accepts, with the same answer.
  pub certify-accepts : (n t : ℕ) → certify L M s ≡ accepted n t → check_archive L M s ≡ accepted n t
  unfolding certify
  certify-accepts n t e =
      let (m, u, ec, eg) = bind_inv (check_archive L M s) _ e in
      let (eh, a₁) = guard-inv (not (hollow_of L M s (recorded L s))) _ _ eg in
      let (ea, a₂) = guard-inv (ascends (list L M s)) _ _ a₁ in
      ec ∙ a₂

  solid-root : Solid L s → (r : ℕ) → recorded L s ≡ r → hollow_of L M s r ≡ true → ⊥
  solid-root S zero er e = true≢false e refl
  solid-root S (suc r) er e = go (target L s (root L s)) refl
    where
      go : (t : Destination) → target L s (root L s) ≡ t → ⊥
      go (at p) et =
          let h = hollow-found L s (nested M) p (root L s) (rw et at e) et in
          true≢false h.is (S h.field h.pos (record { some = omega arith; from = h.from }) h.leads)
      go below et = true≢false (rw et at e) refl

  module _ (n t : ℕ) (accepts : check_archive L M s ≡ accepted n t) where
    certifies : Ascending (list L M s) → Solid L s → certify L M s ≡ accepted n t
    unfolding certify
    certifies a S =
        rw accepts (pass (not-hollow (hollow_of L M s (recorded L s)) (solid-root S (recorded L s) refl)) _ _ ∙ pass (ascends-true (list L M s) a) _ _)

    -- Accepted bytes are certified exactly when the list's keys strictly ascend and no reachable node is hollow.
    pub exactly : (certify L M s ≡ accepted n t) ↔ (Ascending (list L M s) × Solid L s)
    exactly = (λ e. let (C, en) = certified n t e in (C.ascending, C.solid), λ h. certifies h.0 h.1)

    -- The other answers of certify on accepted bytes: 8 before 9.
    pub certify-hollow : hollow_of L M s (recorded L s) ≡ true → certify L M s ≡ refused 8
    unfolding certify
    certify-hollow h = rw (accepts, h)

    pub certify-order : hollow_of L M s (recorded L s) ≡ false → ascends (list L M s) ≡ false → certify L M s ≡ refused 9
    unfolding certify
    certify-order h a = rw (accepts, h, a)

    pub certify-passes : hollow_of L M s (recorded L s) ≡ false → ascends (list L M s) ≡ true → certify L M s ≡ accepted n t
    unfolding certify
    certify-passes h a = rw (accepts, h, a)

  -- What check refuses, certify refuses, with the same number.
  pub certify-refused : (r : ℕ) → check_archive L M s ≡ refused r → certify L M s ≡ refused r
  unfolding certify
  certify-refused r e = rw e

  -- On certified bytes lookup is find in the list, for every key.
  pub lookup-certified : Certified L M s → (k : ℕ) → lookup L M s k ≡ find k (list L M s)
  unfolding list lookup
  lookup-certified C k = go (recorded L s) C.ascending
    where
      go : (r : ℕ) → Ascending (list_of L M s r) → lookup_of L M s k r ≡ find k (list_of L M s r)
      go zero a = refl
      go (suc r) a = under (target L s (root L s)) a
        where
          under : (g : Destination) → Ascending (list_target L s (list_at L s (nested M)) g)
              → lookup_target L s k (lookup_at L s k (nested M)) g ≡ find k (list_target L s (list_at L s (nested M)) g)
          under (at q) a = lookup-find L s k (nested M) q a
          under below a = refl
