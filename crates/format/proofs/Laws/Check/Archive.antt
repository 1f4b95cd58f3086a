-- What an accepted archive is: its reachable fields lead to aligned nodes that lie before the record and share no byte, none is reached twice,
-- and its list has as many entries as the record counts. Assumes nothing.
use Prim.Native.Nat.{ℕ, zero, suc, ◌%◌, ◌<◌}
use Rattle.std.specs.Prelude.{◌≡◌, List, ◌≢◌, leb, ltb, eqb}
use Rattle.std.proofs.Math.Path.{refl, sym, subst}
use Rattle.std.proofs.Common.{◌∙◌}
use native.Mathlib.Omega.{arith}
use Rattle.std.proofs.Math.ListN.{length}
use borrow.Author.Tests.{leb-true, eqb-true}
use Rattle.format.specs.Layout.{Layout, entries_in_range, record_size, record_align, Limits, nested}
use Rattle.format.specs.RelPtr.{at, target}
use Rattle.format.specs.Check.{accepted, check_node, root, recorded, check_root, check_archive}
use Rattle.format.specs.Entries.{list_of, list}
use Rattle.format.specs.Reachable.{Field, Lands, Apart}
use Rattle.format.specs.NodeRelation.{Valid}
use Rattle.format.specs.Accepted.{Rooted, Archive}
use Rattle.format.proofs.Laws.Numbers.Widths.{range-in}
use Rattle.format.proofs.Laws.Check.Count.{count}
use Rattle.format.proofs.Laws.Check.Reach.{wider, inside, lands, apart, once}
use Rattle.format.proofs.Laws.Check.Sound.{guard-inv, bind_inv, sound}

module _ (L : Layout) (M : Limits) (s : List ℕ) where
  root-inv : (r n t : ℕ) → recorded L s ≡ r → check_root L M s r ≡ accepted n t → (n ≡ recorded L s) × (0 < recorded L s → Rooted L M s)
  unfolding check_root
  root-inv zero n t er e = (cc, λ h. absurd (omega arith))
  root-inv (suc r) n t er e =
      let (m, u, ec, eg) = bind_inv (check_node L s (nested M) (root L s) 0 (root L s)) _ e in
      let (eb, ea) = guard-inv (eqb m (suc r)) _ _ eg in
      let em : m ≡ recorded L s = eqb-true _ _ eb ∙ sym er in
      let h = sound L s (nested M) (root L s) 0 (root L s) m u ec in
      let en : m ≡ n = cc in (
        omega arith,
        λ _. record {
          pos = h.pos;
          leads = h.leads;
          valid = subst (λ (x : ℕ). Valid L s (nested M) 0 (root L s) h.pos x) em (record { holds = h.node });
        },
      )

  -- What the check accepts, with the recorded count.
  pub archive : (n t : ℕ) → check_archive L M s ≡ accepted n t → Archive L M s × (n ≡ recorded L s)
  unfolding check_archive
  archive n t e =
      let (e₀, a₀) = guard-inv (entries_in_range L) _ _ e in
      let (e₁, a₁) = guard-inv (leb (length s) M.longest) _ _ a₀ in
      let (e₂, a₂) = guard-inv (leb (record_size L) (length s)) _ _ a₁ in
      let (e₃, a₃) = guard-inv (eqb (root L s % record_align L) 0) _ _ a₂ in
      let (e₄, a₄) = guard-inv (ltb 1 M.depth) _ _ a₃ in
      let (en, h) = root-inv (recorded L s) n t refl a₄ in
      let r = range-in L e₀ in
      (record { least = r.0; most = r.1; small = leb-true _ _ e₁; room = leb-true _ _ e₂; rooted = h }, en)

  module _ (A : Archive L M s) where
    -- Every reachable field leads to an aligned node that lies before the record.
    pub field-lands : {f : ℕ} → Field L s f → Lands L s 0 (root L s) f
    field-lands x =
        let r = A.rooted x.some in
        wider L s (omega arith) (inside L s r.valid).high (lands L s r.valid r.leads x.from)

    -- Two different ones lead to nodes that share no byte.
    pub field_apart : {f f' : ℕ} → Field L s f → Field L s f' → f ≢ f' → Apart L s f f'
    field_apart x x' ne = let r = A.rooted x.some in apart L s r.valid r.leads x.from x'.from ne

    -- No node is reached twice.
    pub field-once : {f f' q : ℕ} → Field L s f → Field L s f' → target L s f ≡ at q → target L s f' ≡ at q → f ≡ f'
    field-once x x' e e' = let r = A.rooted x.some in once L s r.valid r.leads x.from x'.from e e'

    -- The list has exactly the recorded count.
    pub list_length : length (list L M s) ≡ recorded L s
    unfolding list
    list_length = go (recorded L s) refl
      where
        go : (r : ℕ) → recorded L s ≡ r → length (list_of L M s r) ≡ r
        go zero er = refl
        go (suc r) er = let h = A.rooted (omega arith) in rw h.leads (count L s h.valid (nested M) (omega arith) ∙ er)
