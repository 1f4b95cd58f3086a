-- The bytes of the nodes and the longest offset, by what the code computes. Assumes nothing.
use Prim.Native.Nat.{ℕ, zero, suc, ◌+◌, ◌-◌, ◌*◌, ◌/◌, ◌≤◌, ◌<◌, min}
use mathlib.Core.Path.{◌≡◌, refl, sym, ap, ap₂, ◌∙◌}
use native.Mathlib.Omega.{arith}
use native.Mathlib.Nat.{mul-le-mul_right, mul-div_cancel_left}
use Rattle.format.specs.Layout.{Layout, head_size, leaf_size, inner_size}
use Rattle.format.specs.Build.{last_level}
use Rattle.format.specs.Weight.{upper, weight, first_own, reach, inners_over, size_by}
use Rattle.format.proofs.Laws.Build.Filling.{full}
use Rattle.format.proofs.Laws.Build.Near.{inner_room}
use Rattle.format.proofs.Laws.Build.Sizes.{upper-inners, weight-size}
use Rattle.format.proofs.Laws.Build.Farthest.{by-weight}
use Rattle.builder.specs.declared.size.Levels.{Levels}
use Rattle.builder.specs.Size.{Named, nodes_of, reach_of, Leveled}
use Rattle.builder.proofs.Levels.{Fits, fits, over-is}

-- ---- the formula

leaf-weight : (L : Layout) (m : ℕ) → 0 < m → weight L 0 m ≡ leaf_size L
unfolding weight
leaf-weight L zero h = absurd (omega arith)
leaf-weight L (suc m) h = refl

-- The own node of the first child is in its subtree.
own-weighs : (L : Layout) (h m : ℕ) → 0 < m → first_own L h ≤ weight L h m
own-weighs L zero m p = omega (arith, leaf-weight L m p)
own-weighs L (suc h) m p = omega (arith, by-weight L h m p)

-- No offset leads further back than the nodes are long.
pub reach-within : (L : Layout) (h m : ℕ) → 0 < m → reach L h m ≤ weight L h m
reach-within L zero m p = omega arith
reach-within L (suc h) m p = omega (arith, by-weight L h m p, own-weighs L h m p, inner_room L)

-- The first child of the root has f bytes: then it is among the children, and this is how far the root's first offset leads.
abbrev pub FirstChild : Layout → ℕ → ℕ → Type 0
FirstChild L n f = (f ≤ nodes_of L n - inner_size L) × (inner_size L + (nodes_of L n - inner_size L - f) + head_size L ≡ reach_of L n)

-- A number that is not 0 comes after another.
pub before : (n : ℕ) → (n ≡ 0 → ⊥) → n ≡ suc (n - 1)
before zero h = absurd (h refl)
before (suc n) h = omega arith

pub two-before : (n : ℕ) → (n ≡ 0 → ⊥) → (n ≡ 1 → ⊥) → n ≡ suc (suc (n - 2))
two-before zero h l = absurd (h refl)
two-before (suc zero) h l = absurd (l refl)
two-before (suc (suc n)) h l = omega arith

-- ---- by the levels

module _ (L : Layout) (n : ℕ) (N : Named L n) (p : 0 < n) {v : Levels} (K : Leveled L n v) where
  F : Fits L n N p K
  F = fits L n N p K

  some : 0 < L.entries
  some = omega (arith, N.least)

  by_level : {a : ℕ} → v.above ≡ a → nodes_of L n ≡ weight L a (last_level L n)
  by_level e = ap (λ (h : ℕ). weight L h (last_level L n)) (sym K.above ∙ e)

  by-reach : {a : ℕ} → v.above ≡ a → reach_of L n ≡ reach L a (last_level L n)
  by-reach e = ap (λ (h : ℕ). reach L h (last_level L n)) (sym K.above ∙ e)

  pub nodes-leaf : v.above ≡ 0 → leaf_size L ≡ nodes_of L n
  nodes-leaf e = sym (by_level e ∙ leaf-weight L (last_level L n) F.some-last)

  size_is : (k q o : ℕ) → o ≡ suc (upper L k) → q ≡ inners_over L k
      → size_by (leaf_size L) (inner_size L) L.entries o q (min (last_level L n) (L.entries * suc L.entries * o)) ≡ weight L (suc k) (last_level L n)
  size_is k q o eo eq =
      let e = L.entries in
      ap₂ (λ (x y : ℕ). size_by (leaf_size L) (inner_size L) e x y (min (last_level L n) (e * suc e * x))) eo eq
      ∙ sym (weight-size L some k (last_level L n))

  -- The nodes of a tree with inner nodes, and what `size_over` asks for.
  module _ (k : ℕ) (e : v.above ≡ suc k) where
    O : (v.over ≡ suc (upper L k)) × (v.higher ≡ inners_over L k)
    O = over-is L n N p K k e

    pub nodes-over : size_by (leaf_size L) (inner_size L) L.entries v.over v.higher (min (last_level L n) (L.entries * suc L.entries * v.over))
        ≡ nodes_of L n
    nodes-over = size_is k v.higher v.over O.0 O.1 ∙ sym (by_level e)

    pub over-few : (0 < v.over) × (v.over ≤ n) × (v.higher ≤ n)
    over-few =
        let u = upper-inners L some k in
        let g = mul-le-mul_right {m = 1} {n = L.entries} (inners_over L k) some in
        let low : suc (upper L k) ≤ n = omega (arith, F.enough, ap (upper L) e, full L k, F.some-last) in
        (omega (arith, O.0), omega (arith, O.0, low), omega (arith, O.1, u, g, low))

    -- The root is an inner node.
    pub inner-in : inner_size L ≤ nodes_of L n
    inner-in = omega (arith, by_level e, by-weight L k (last_level L n) F.some-last)

  pub reach-one : v.above ≡ 1 → nodes_of L n - inner_size L + head_size L ≡ reach_of L n
  reach-one e =
      omega (
        arith,
        by_level e,
        by-reach e,
        by-weight L 0 (last_level L n) F.some-last,
        leaf-weight L (last_level L n) F.some-last,
      )

  -- Two levels of inner nodes or more: the nodes of the first child are one level less.
  module _ (k : ℕ) (e : v.above ≡ suc (suc k)) where
    abbrev o : ℕ
    o = v.over / (L.entries + 1)

    abbrev q : ℕ
    q = (v.higher - 1) / (L.entries + 1)

    first-over : (o ≡ suc (upper L k)) × (q ≡ inners_over L k)
    first-over =
        let c = L.entries + 1 in
        let (eo, eq) = over-is L n N p K (suc k) e in
        let a : v.over ≡ c * suc (upper L k) = omega (arith, eo) in
        let b : v.higher - 1 ≡ c * inners_over L k = omega (arith, eq) in (
          ap (λ (x : ℕ). x / c) a ∙ mul-div_cancel_left (suc (upper L k)) {n = c} (omega arith),
          ap (λ (x : ℕ). x / c) b ∙ mul-div_cancel_left (inners_over L k) {n = c} (omega arith),
        )

    pub first-few : (0 < v.higher) × (0 < v.over / (L.entries + 1)) × (v.over / (L.entries + 1) ≤ n) × ((v.higher - 1) / (L.entries + 1) ≤ n)
    first-few =
        let (eo, eq) = over-is L n N p K (suc k) e in
        let (fo, fq) = first-over in
        let few = over-few (suc k) e in
        let u = upper-inners L some k in
        let g = mul-le-mul_right {m = 1} {n = L.entries} (inners_over L k) some in (
          omega (arith, eq),
          omega (arith, fo),
          omega (arith, fo, full L k, eo, few.1),
          omega (arith, fq, u, g, full L k, eo, few.1),
        )

    pub reach-more : (f m : ℕ) → m ≡ last_level L n
        → f ≡ size_by (leaf_size L) (inner_size L) L.entries (v.over / (L.entries + 1)) ((v.higher - 1) / (L.entries + 1))
        (min m (L.entries * suc L.entries * (v.over / (L.entries + 1))))
        → FirstChild L n f
    reach-more f m em ef =
        let (fo, fq) = first-over in
        let t = L.entries * suc L.entries * o in
        let w : f ≡ weight L (suc k) (last_level L n) =
        ef ∙ ap (λ (x : ℕ). size_by (leaf_size L) (inner_size L) L.entries o q (min x t)) em ∙ size_is k q o fo fq in
        let b = by-weight L (suc k) (last_level L n) F.some-last in
        (omega (arith, by_level e, b, w), omega (arith, by_level e, by-reach e, b, w))
