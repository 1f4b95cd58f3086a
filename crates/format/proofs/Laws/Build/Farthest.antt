-- In the tree of given entries no offset leads further back than the root's first one, over every layout, and how far that one leads is a number of the
-- entries alone. Assumes nothing.
use Prim.Native.Nat.{ℕ, zero, suc, ◌+◌, ◌-◌, ◌*◌, ◌≤◌, ◌<◌, min}
use Rattle.std.specs.Prelude.{◌≡◌, List, [], ◌∷◌}
use Rattle.std.proofs.Math.Path.{refl}
use Rattle.std.proofs.Common.{sym, ap, ◌∙◌, subst}
use native.Mathlib.Omega.{arith}
use Rattle.std.proofs.Math.ListN.{length}
use Rattle.format.specs.Layout.{Layout, head_size, inner_size}
use Rattle.format.specs.Tree.{leaf_t, inner_t, Branches, more_b, Branch, none_b, some_b, length_branches, length_branch, KeyValue}
use Rattle.format.specs.Build.{Filled, FilledBranches, fill_next, fill_branches, fill}
use Rattle.format.specs.Weight.{weighs, upper, room, weight, first_own, reach}
use Rattle.format.proofs.Laws.Build.Near.{own_b, far_b, far_of, FirstB, First, own-most}
use Rattle.format.proofs.Laws.Build.Filling.{Took, fill-took}
use Rattle.format.proofs.Laws.Build.Weight.{whole, weighs-le, weighs-ge, weight-le, weight-ge, branches-weigh, fill-weighs}

module _ (L : Layout) where
  -- A filled node's children as the first one and the others, which take `rest` bytes.
  record Split (b : Branch) (rest : ℕ) (r : FilledBranches) : Type 0 where
    entry : KeyValue
    others : Branches
    is : r.branches ≡ more_b b entry others
    long : length_branches L others ≡ rest

  module _ (give : ℕ → List KeyValue → Filled) (g : ℕ → ℕ) (q c : ℕ)
      (took : (m : ℕ) (es : List KeyValue) → q + min m c ≤ length es → Took L q c m es (give m es))
      (weighed : (m : ℕ) (es : List KeyValue) → q + min m c ≤ length es → length_branch L (give m es).branch ≡ g m) where
    split-next : (n m : ℕ) (es : List KeyValue) (r : Filled) → Took L q c m es r → (l : List KeyValue) → l ≡ r.rest
        → suc (suc n) * q + suc n + min m (suc (suc n) * c) ≤ length es → Split r.branch (weighs g c (suc n) (m - c)) (fill_next (fill_branches give n) r l)
    split-next n m es r D [] e l = absurd (omega (arith, D.left, ap length e))
    split-next n m es r D (x ∷ xs) e l =
        let el : r.last ≡ m - c = omega (arith, D.last) in
        record {
          entry = x;
          others = (fill_branches give n r.last xs).branches;
          is = refl;
          long = branches-weigh L give g q c took weighed n r.last xs (omega (arith, D.left, D.last, ap length e)) ∙ ap (weighs g c (suc n)) el;
        }

    split : (n m : ℕ) (es : List KeyValue) → 0 < n → suc n * q + n + min m (suc n * c) ≤ length es
        → Split (give m es).branch (weighs g c n (m - c)) (fill_branches give n m es)
    split zero m es h l = absurd (omega arith)
    split (suc n) m es h l = split-next n m es (give m es) (took m es (omega arith)) (give m es).rest refl l

  -- The furthest that the first offset of a node can lead whose children have h levels above the last one.
  abbrev most : ℕ → ℕ
  most h = inner_size L + L.entries * whole L h + head_size L

  leads : (h : ℕ) {b : Branch} {x : ℕ} {r : FilledBranches} → Split b x r → x ≤ L.entries * whole L h → far_b L r.branches ≤ most h
  leads h {b} S l = subst (λ (bs : Branches). far_b L bs ≤ most h) (sym S.is) (omega (arith, own-most-b b, S.long))
    where
      own-most-b : (b : Branch) → own_b L b ≤ inner_size L
      own-most-b none_b = omega arith
      own-most-b (some_b t) = own-most L t

  -- What stands beside the first child.
  abbrev beside : ℕ → ℕ → ℕ
  beside h m = weighs (weight L h) (room L h) L.entries (m - room L h)

  beside-le : (h m : ℕ) → beside h m ≤ L.entries * whole L h
  beside-le h m = weighs-le (weight L h) (room L h) (whole L h) (weight-le L h) L.entries (m - room L h)

  splits : (h m : ℕ) (es : List KeyValue) → 0 < L.entries → upper L (suc h) + min m (room L (suc h)) ≤ length es
      → Split (fill L h m es).branch (beside h m) (fill_branches (fill L h) L.entries m es)
  splits h m es some l = split (fill L h) (weight L h) (upper L h) (room L h) (fill-took L h) (fill-weighs L h) L.entries m es some (omega arith)

  far-le : (h m : ℕ) (es : List KeyValue) → 0 < L.entries → upper L (suc h) + min m (room L (suc h)) ≤ length es
      → far_of L (fill L (suc h) m es).branch ≤ most h
  unfolding fill
  far-le zero zero es some l = omega arith
  far-le zero (suc m) es some l = leads zero (splits zero (suc m) es some l) (beside-le zero (suc m))
  far-le (suc h) m es some l = leads (suc h) (splits (suc h) m es some l) (beside-le (suc h) m)

  below : (h x : ℕ) (b : Branch) → L.entries * whole L h ≤ x → far_of L b ≤ most h → First L b → far_of L b ≤ own_b L b + x + head_size L
  below h x none_b l f s = absurd s
  below h x (some_b (leaf_t es)) l f s = omega arith
  below h x (some_b (inner_t bs)) l f s = omega arith

  firsts : {b : Branch} {x : ℕ} {r : FilledBranches} → Split b x r → far_of L b ≤ own_b L b + x + head_size L → First L b → FirstB L r.branches
  firsts {b} S l s = subst (FirstB L) (sym S.is) (omega (arith, S.long), s)

  -- No first offset on the way down the first children leads further than the one above it.
  pub fill-first : (h m : ℕ) (es : List KeyValue) → 0 < L.entries → upper L h + min m (room L h) ≤ length es → 0 < m + h → First L (fill L h m es).branch
  unfolding fill
  fill-first zero zero es some l d = absurd (omega arith)
  fill-first zero (suc m) es some l d = tt
  fill-first (suc zero) zero es some l d = tt
  fill-first (suc zero) (suc m) es some l d = firsts (splits zero (suc m) es some l) (omega arith) tt
  fill-first (suc (suc h)) m es some l d =
      let S = splits (suc h) m es some l in
      let g = weighs-ge (weight L (suc h)) (room L (suc h)) (whole L h) (weight-ge L h) L.entries (m - room L (suc h)) in
      let enough : upper L (suc h) + min m (room L (suc h)) ≤ length es = omega arith in
      let s = fill-first (suc h) m es some enough (omega arith) in
      firsts S (below h _ (fill L (suc h) m es).branch g (far-le h m es some enough) s) s

  -- ---- the distance by numbers

  own_is : (h m : ℕ) (es : List KeyValue) → 0 < m → own_b L (fill L h m es).branch ≡ first_own L h
  unfolding fill
  own_is zero zero es d = absurd (omega arith)
  own_is zero (suc m) es d = refl
  own_is (suc zero) zero es d = absurd (omega arith)
  own_is (suc zero) (suc m) es d = refl
  own_is (suc (suc h)) m es d = refl

  pub by-weight : (h m : ℕ) → 0 < m → weight L (suc h) m ≡ weight L h m + beside h m + inner_size L
  unfolding weight
  by-weight h zero d = absurd (omega arith)
  by-weight zero (suc m) d = refl
  by-weight (suc h) (suc m) d = refl

  far-split : (h m : ℕ) (es : List KeyValue) (r : FilledBranches) → 0 < m → Split (fill L h m es).branch (beside h m) r
      → far_b L r.branches ≡ reach L (suc h) m
  far-split h m es r d S = ap (far_b L) S.is ∙ omega (arith, S.long, own_is h m es d, by-weight h m d)

  pub far-is : (h m : ℕ) (es : List KeyValue) → 0 < L.entries → 0 < m → upper L h + min m (room L h) ≤ length es
      → far_of L (fill L h m es).branch ≡ reach L h m
  unfolding fill
  far-is zero zero es some d l = absurd (omega arith)
  far-is zero (suc m) es some d l = refl
  far-is (suc zero) zero es some d l = absurd (omega arith)
  far-is (suc zero) (suc m) es some d l = far-split zero (suc m) es _ d (splits zero (suc m) es some l)
  far-is (suc (suc h)) m es some d l = far-split (suc h) m es _ d (splits (suc h) m es some l)
