-- The bytes of a filled subtree are what `weight` says, over every layout, and no fewer than those of any subtree with a level less. Assumes nothing.
use Prim.Native.Nat.{ℕ, zero, suc, ◌+◌, ◌-◌, ◌*◌, ◌≤◌, ◌<◌, min}
use Rattle.std.specs.Prelude.{◌≡◌}
use Rattle.std.proofs.Math.Path.{refl, sym, ap}
use Rattle.std.proofs.Common.{ap₂, ◌∙◌}
use mathlib.Core.List.{List, [], ◌∷◌}
use native.Mathlib.Omega.{arith}
use Rattle.std.proofs.Math.ListN.{length}
use Rattle.format.specs.Layout.{Layout, leaf_size, inner_size}
use Rattle.format.specs.Tree.{length_branches, length_branch, KeyValue}
use Rattle.format.specs.Build.{Filled, fill_next, fill_branches, fill, log_from, height, last_level, tree_of}
use Rattle.format.specs.Weight.{weighs, upper, room, weight}
use Rattle.format.proofs.Laws.Build.Near.{leaf-inner}
use Rattle.format.proofs.Laws.Build.Filling.{Took, branches-by, fill-took}
use Rattle.format.proofs.Laws.Build.Built.{tree-of}

pub weighs-le : (g : ℕ → ℕ) (c b : ℕ) → ((m : ℕ) → g m ≤ b) → (k m : ℕ) → weighs g c k m ≤ k * b
weighs-le g c b h zero m = omega arith
weighs-le g c b h (suc k) m = let i = weighs-le g c b h k (m - c) in omega (arith, h m)

pub weighs-ge : (g : ℕ → ℕ) (c b : ℕ) → ((m : ℕ) → b ≤ g m) → (k m : ℕ) → k * b ≤ weighs g c k m
weighs-ge g c b h zero m = omega arith
weighs-ge g c b h (suc k) m = let i = weighs-ge g c b h k (m - c) in omega (arith, h m)

module _ (L : Layout) where
  -- Where the last level is full.
  abbrev pub whole : ℕ → ℕ
  whole zero = leaf_size L
  whole (suc h) = suc L.entries * whole h + inner_size L

  leaf-most : (m : ℕ) → weight L 0 m ≤ leaf_size L
  unfolding weight
  leaf-most zero = omega arith
  leaf-most (suc m) = omega arith

  pub weight-le : (h m : ℕ) → weight L h m ≤ whole h
  unfolding weight
  weight-le zero m = leaf-most m
  weight-le (suc zero) zero = omega (arith, leaf-inner L)
  weight-le (suc zero) (suc m) = omega (arith, weighs-le (weight L 0) (room L 0) (leaf_size L) leaf-most (suc L.entries) (suc m))
  weight-le (suc (suc h)) m = omega (arith, weighs-le (weight L (suc h)) (room L (suc h)) (whole (suc h)) (weight-le (suc h)) (suc L.entries) m)

  pub weight-ge : (h m : ℕ) → whole h ≤ weight L (suc h) m
  unfolding weight
  weight-ge zero zero = omega arith
  weight-ge zero (suc m) = omega (arith, leaf-inner L)
  weight-ge (suc h) m = omega (arith, weighs-ge (weight L (suc h)) (room L (suc h)) (whole h) (weight-ge h) (suc L.entries) m)

  -- ---- the tree's length

  module _ (give : ℕ → List KeyValue → Filled) (g : ℕ → ℕ) (q c : ℕ)
      (took : (m : ℕ) (es : List KeyValue) → q + min m c ≤ length es → Took L q c m es (give m es))
      (weighed : (m : ℕ) (es : List KeyValue) → q + min m c ≤ length es → length_branch L (give m es).branch ≡ g m) where
    pub branches-weigh : (n m : ℕ) (es : List KeyValue) → suc n * q + n + min m (suc n * c) ≤ length es
        → length_branches L (fill_branches give n m es).branches ≡ weighs g c (suc n) m
    branches-weigh = branches-by L give q c took (λ n m es r. length_branches L r.branches ≡ weighs g c (suc n) m) one more
      where
        one : (m : ℕ) (es : List KeyValue) → q + min m c ≤ length es → length_branches L (fill_branches give 0 m es).branches ≡ weighs g c 1 m
        one m es l = omega (arith, weighed m es l)

        more : (n m : ℕ) (es : List KeyValue) (x : KeyValue) (xs : List KeyValue) → q + min m c ≤ length es → x ∷ xs ≡ (give m es).rest
            → length_branches L (fill_branches give n (give m es).last xs).branches ≡ weighs g c (suc n) (give m es).last
            → length_branches L (fill_next (fill_branches give n) (give m es) (x ∷ xs)).branches ≡ weighs g c (suc (suc n)) m
        more n m es x xs l e r =
            let el : (give m es).last ≡ m - c = omega (arith, (took m es l).last) in
            ap₂ (λ (i j : ℕ). i + j) (weighed m es l) (r ∙ ap (weighs g c (suc n)) el)

  pub fill-weighs : (h m : ℕ) (es : List KeyValue) → upper L h + min m (room L h) ≤ length es → length_branch L (fill L h m es).branch ≡ weight L h m
  unfolding fill weight
  fill-weighs zero zero es l = refl
  fill-weighs zero (suc m) es l = refl
  fill-weighs (suc zero) zero es l = refl
  fill-weighs (suc zero) (suc m) es l =
      ap (λ (x : ℕ). x + inner_size L)
      (branches-weigh (fill L zero) (weight L zero) (upper L 0) (room L 0) (fill-took L zero) (fill-weighs zero) L.entries (suc m) es l)
  fill-weighs (suc (suc h)) m es l =
      ap (λ (x : ℕ). x + inner_size L)
      (branches-weigh (fill L (suc h)) (weight L (suc h)) (upper L (suc h)) (room L (suc h)) (fill-took L (suc h)) (fill-weighs (suc h)) L.entries m es l)

  -- The tree of any entries.
  pub tree-weighs : (es : List KeyValue) → 0 < L.entries → length_branch L (tree_of L es) ≡ weight L (height L (length es) - 1) (last_level L (length es))
  unfolding tree_of height log_from last_level weight
  tree-weighs [] some = let z : last_level L 0 ≡ 0 = omega arith in sym (ap (weight L 0) z)
  tree-weighs (e ∷ es) some =
      let T = tree-of L e es some in
      let F = T.fit in
      let n = length (e ∷ es) in
      let m = last_level L n in
      let eh : F.above ≡ height L n - 1 = omega (arith, F.height-is) in
      ap (length_branch L) T.is ∙ fill-weighs F.above m (e ∷ es) (omega (arith, F.last-is, F.last-room)) ∙ ap (λ (h : ℕ). weight L h m) eh
