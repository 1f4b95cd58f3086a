-- The tree that is filled from given entries holds exactly these, in order, and is one that the layout can hold. Assumes nothing.
use Prim.Native.Nat.{ℕ, zero, suc, ◌+◌, ◌-◌, ◌*◌, ◌≤◌, ◌<◌, min}
use Rattle.std.specs.Prelude.{◌≡◌, List, [], ◌∷◌, ◌++◌, length, take, drop}
use Rattle.std.proofs.Math.Path.{refl}
use Rattle.std.proofs.Common.{sym, ap, ◌∙◌, subst, append_assoc, length-take}
use native.Mathlib.Omega.{arith}
use Rattle.std.proofs.Math.ListN.{take-append-drop, length-drop}
use Rattle.format.specs.Layout.{Layout}
use Rattle.format.specs.Tree.{KeyValue}
use Rattle.format.specs.Build.{Filled, FilledBranches, closed, fill_next, fill_branches, fill_leaf, fill}
use Rattle.format.specs.TreeShape.{flat_branches, flat_branch, depth_branches, depth_branch, own, AllFit, There, Begins}
use Rattle.format.specs.TreeShape.{WfBranches, WfBranch}
use Rattle.format.specs.Weight.{upper, room}
use Rattle.format.proofs.Laws.Build.Near.{FullBranches, FullBranch}

-- ---- the entries, in order

next-flat : (go : ℕ → List KeyValue → FilledBranches) → ((m : ℕ) (es : List KeyValue) → flat_branches (go m es).branches ++ (go m es).rest ≡ es)
    → (c : Filled) (es : List KeyValue) → flat_branches (fill_next go c es).branches ++ (fill_next go c es).rest ≡ flat_branch c.branch ++ es
next-flat go ih c [] = refl
next-flat go ih c (e ∷ es) = append_assoc (flat_branch c.branch) _ _ ∙ ap (λ (l : List KeyValue). flat_branch c.branch ++ (e ∷ l)) (ih c.last es)

module _ (give : ℕ → List KeyValue → Filled) (ih : (m : ℕ) (es : List KeyValue) → flat_branch (give m es).branch ++ (give m es).rest ≡ es) where
  branches-flat : (n m : ℕ) (es : List KeyValue) → flat_branches (fill_branches give n m es).branches ++ (fill_branches give n m es).rest ≡ es
  branches-flat zero m es = ih m es
  branches-flat (suc n) m es = next-flat (fill_branches give n) (branches-flat n) (give m es) (give m es).rest ∙ ih m es

module _ (L : Layout) where
  -- The tree's entries and those that are left are the given ones.
  pub fill-flat : (h m : ℕ) (es : List KeyValue) → flat_branch (fill L h m es).branch ++ (fill L h m es).rest ≡ es
  unfolding fill
  fill-flat zero zero es = refl
  fill-flat zero (suc m) es = take-append-drop (min (suc m) L.entries) es
  fill-flat (suc zero) zero es = take-append-drop L.entries es
  fill-flat (suc zero) (suc m) es = branches-flat (fill L zero) (fill-flat zero) L.entries (suc m) es
  fill-flat (suc (suc h)) m es = branches-flat (fill L (suc h)) (fill-flat (suc h)) L.entries m es

  -- ---- how many entries a subtree takes

  pub full : (h : ℕ) → upper L h + room L h ≡ upper L (suc h)
  full zero = omega arith
  full (suc h) = omega (arith, ap (λ (x : ℕ). suc L.entries * x) (full h))

  -- A subtree takes q entries and, of the m for the last level, at most c.
  pub record Took (q c m : ℕ) (es : List KeyValue) (r : Filled) : Type 0 where
    pub left : length r.rest + (q + min m c) ≡ length es
    pub last : r.last + min m c ≡ m

  -- n entries of an inner node and n + 1 such children.
  record TookAll (n q c m : ℕ) (es : List KeyValue) (r : FilledBranches) : Type 0 where
    pub left : length r.rest + (suc n * q + n + min m (suc n * c)) ≡ length es
    pub last : r.last + min m (suc n * c) ≡ m

  -- Filling the n + 1 children of an inner node, one after the other, as an induction: the entries are enough for each child and the entry after it.
  module _ (give : ℕ → List KeyValue → Filled) (q c : ℕ) (took : (m : ℕ) (es : List KeyValue) → q + min m c ≤ length es → Took q c m es (give m es)) where
    module _ (P : ℕ → ℕ → List KeyValue → FilledBranches → Type 0)
        (one : (m : ℕ) (es : List KeyValue) → q + min m c ≤ length es → P 0 m es (fill_branches give 0 m es))
        (more : (n m : ℕ) (es : List KeyValue) (x : KeyValue) (xs : List KeyValue) → q + min m c ≤ length es → x ∷ xs ≡ (give m es).rest
        → P n (give m es).last xs (fill_branches give n (give m es).last xs) → P (suc n) m es (fill_next (fill_branches give n) (give m es) (x ∷ xs))) where
      next : (n m : ℕ) (es : List KeyValue) → Took q c m es (give m es) → suc (suc n) * q + suc n + min m (suc (suc n) * c) ≤ length es
          → ((es' : List KeyValue) → suc n * q + n + min (give m es).last (suc n * c) ≤ length es'
          → P n (give m es).last es' (fill_branches give n (give m es).last es'))
          → (l : List KeyValue) → l ≡ (give m es).rest → P (suc n) m es (fill_next (fill_branches give n) (give m es) l)
      next n m es T l rec [] e = absurd (omega (arith, T.left, ap length e))
      next n m es T l rec (x ∷ xs) e = more n m es x xs (omega arith) e (rec xs (omega (arith, T.left, T.last, ap length e)))

      pub branches-by : (n m : ℕ) (es : List KeyValue) → suc n * q + n + min m (suc n * c) ≤ length es → P n m es (fill_branches give n m es)
      branches-by zero m es l = one m es (omega arith)
      branches-by (suc n) m es l = next n m es (took m es (omega arith)) l (branches-by n (give m es).last) (give m es).rest refl

    branches-took : (n m : ℕ) (es : List KeyValue) → suc n * q + n + min m (suc n * c) ≤ length es → TookAll n q c m es (fill_branches give n m es)
    branches-took = branches-by (λ n m es r. TookAll n q c m es r) one more
      where
        one : (m : ℕ) (es : List KeyValue) → q + min m c ≤ length es → TookAll 0 q c m es (fill_branches give 0 m es)
        one m es l = let T = took m es l in record { left = omega (arith, T.left); last = omega (arith, T.last) }

        more : (n m : ℕ) (es : List KeyValue) (x : KeyValue) (xs : List KeyValue) → q + min m c ≤ length es → x ∷ xs ≡ (give m es).rest
            → TookAll n q c (give m es).last xs (fill_branches give n (give m es).last xs)
            → TookAll (suc n) q c m es (fill_next (fill_branches give n) (give m es) (x ∷ xs))
        more n m es x xs l e r =
            let T = took m es l in
            record { left = omega (arith, r.left, T.left, T.last, ap length e); last = omega (arith, r.last, T.last) }

  inner-took : (q c m : ℕ) (es : List KeyValue) (r : FilledBranches) → TookAll L.entries q c m es r
      → Took (suc L.entries * q + L.entries) (suc L.entries * c) m es (closed r)
  inner-took q c m es r t = record { left = t.left; last = t.last }

  pub fill-took : (h m : ℕ) (es : List KeyValue) → upper L h + min m (room L h) ≤ length es → Took (upper L h) (room L h) m es (fill L h m es)
  unfolding fill
  fill-took zero zero es l = record { left = omega arith; last = omega arith }
  fill-took zero (suc m) es l = record { left = simp length-drop (omega arith); last = omega arith }
  fill-took (suc zero) zero es l = record { left = simp length-drop (omega arith); last = omega arith }
  fill-took (suc zero) (suc m) es l =
      inner-took (upper L 0) (room L 0) (suc m) es (fill_branches (fill L zero) L.entries (suc m) es)
      (branches-took (fill L zero) (upper L 0) (room L 0) (fill-took zero) L.entries (suc m) es l)
  fill-took (suc (suc h)) m es l =
      inner-took (upper L (suc h)) (room L (suc h)) m es (fill_branches (fill L (suc h)) L.entries m es)
      (branches-took (fill L (suc h)) (upper L (suc h)) (room L (suc h)) (fill-took (suc h)) L.entries m es l)

  -- ---- what the subtree is

  fit-take : (n : ℕ) (es : List KeyValue) → AllFit es → AllFit (take n es)
  fit-take zero es f = tt
  fit-take (suc n) [] f = tt
  fit-take (suc n) (e ∷ es) f = (f.0, fit-take n es f.1)

  fit-drop : (n : ℕ) (es : List KeyValue) → AllFit es → AllFit (drop n es)
  fit-drop zero es f = f
  fit-drop (suc n) [] f = tt
  fit-drop (suc n) (e ∷ es) f = fit-drop n es f.1

  -- A child with h levels above the last one, which takes m of the given entries.
  pub record BranchDone (h m : ℕ) (es : List KeyValue) (r : Filled) : Type 0 where
    pub full : FullBranch L r.branch
    pub starts : 0 < m + h → There r.branch
    pub wf : AllFit es → WfBranch L r.branch
    pub fit : AllFit es → AllFit r.rest

  record BranchesDone (h n m : ℕ) (es : List KeyValue) (r : FilledBranches) : Type 0 where
    pub count : length (own r.branches) ≡ n
    pub full : FullBranches L r.branches
    pub starts : 0 < m + h → Begins r.branches
    pub wf : AllFit es → WfBranches L r.branches
    pub fit : AllFit es → AllFit r.rest

  module _ (give : ℕ → List KeyValue → Filled) (h q c : ℕ) (took : (m : ℕ) (es : List KeyValue) → q + min m c ≤ length es → Took q c m es (give m es))
      (ih : (m : ℕ) (es : List KeyValue) → q + min m c ≤ length es → BranchDone h m es (give m es)) where
    branches-done : (n m : ℕ) (es : List KeyValue) → suc n * q + n + min m (suc n * c) ≤ length es → BranchesDone h n m es (fill_branches give n m es)
    branches-done = branches-by give q c took (λ n m es r. BranchesDone h n m es r) one more
      where
        one : (m : ℕ) (es : List KeyValue) → q + min m c ≤ length es → BranchesDone h 0 m es (fill_branches give 0 m es)
        one m es l = let D = ih m es l in record { count = refl; full = D.full; starts = D.starts; wf = D.wf; fit = D.fit }

        more : (n m : ℕ) (es : List KeyValue) (x : KeyValue) (xs : List KeyValue) → q + min m c ≤ length es → x ∷ xs ≡ (give m es).rest
            → BranchesDone h n (give m es).last xs (fill_branches give n (give m es).last xs)
            → BranchesDone h (suc n) m es (fill_next (fill_branches give n) (give m es) (x ∷ xs))
        more n m es x xs l e r =
            let D = ih m es l in
            let fits : AllFit es → AllFit (x ∷ xs) = λ f. subst AllFit (sym e) (D.fit f) in
            record {
              count = ap suc r.count;
              full = (D.full, r.full);
              starts = D.starts;
              wf = λ f. (D.wf f, (fits f).0, r.wf (fits f).1);
              fit = λ f. r.fit (fits f).1;
            }

  -- A node over children of h levels.
  inner-done : (h m : ℕ) (es : List KeyValue) (r : FilledBranches) → 0 < m + h → BranchesDone h L.entries m es r → BranchDone (suc h) m es (closed r)
  inner-done h m es r some d =
      record { full = (d.count, d.full); starts = λ _. tt; wf = λ f. (d.count, d.wf f, d.starts some); fit = d.fit }

  -- A leaf of n entries.
  leaf-done : (h m n k : ℕ) (es : List KeyValue) → 0 < n → n ≤ L.entries → n ≤ length es → BranchDone h m es (fill_leaf L n k es)
  leaf-done h m n k es some few l =
      record {
        full = tt;
        starts = λ _. tt;
        wf = λ f. (simp length-take (omega arith), fit-take n es f, simp length-take (omega arith));
        fit = fit-drop n es;
      }

  pub fill_done : (h m : ℕ) (es : List KeyValue) → 0 < L.entries → upper L h + min m (room L h) ≤ length es → BranchDone h m es (fill L h m es)
  unfolding fill
  fill_done zero zero es some l = record { full = tt; starts = λ h. absurd (omega arith); wf = λ _. tt; fit = λ f. f }
  fill_done zero (suc m) es some l =
      let t : ℕ = min (suc m) L.entries in
      leaf-done 0 (suc m) t (suc m - t) es (omega arith) (omega arith) (omega arith)
  fill_done (suc zero) zero es some l = leaf-done 1 0 L.entries 0 es some (omega arith) (omega arith)
  fill_done (suc zero) (suc m) es some l =
      inner-done 0 (suc m) es (fill_branches (fill L zero) L.entries (suc m) es) (omega arith)
      (branches-done (fill L zero) 0 (upper L 0) (room L 0) (fill-took zero) (λ m es. fill_done zero m es some) L.entries (suc m) es l)
  fill_done (suc (suc h)) m es some l =
      inner-done (suc h) m es (fill_branches (fill L (suc h)) L.entries m es) (omega arith)
      (branches-done (fill L (suc h)) (suc h) (upper L (suc h)) (room L (suc h)) (fill-took (suc h)) (λ m es. fill_done (suc h) m es some) L.entries m es l)

  -- ---- the depth

  next-depth : (d : ℕ) (go : ℕ → List KeyValue → FilledBranches) → ((m : ℕ) (es : List KeyValue) → depth_branches (go m es).branches ≤ d)
      → (c : Filled) (es : List KeyValue) → depth_branch c.branch ≤ d → depth_branches (fill_next go c es).branches ≤ d
  next-depth d go ih c [] h = h
  next-depth d go ih c (e ∷ es) h = let r = ih c.last es in omega arith

  branches-depth : (d : ℕ) (give : ℕ → List KeyValue → Filled) → ((m : ℕ) (es : List KeyValue) → depth_branch (give m es).branch ≤ d)
      → (n m : ℕ) (es : List KeyValue) → depth_branches (fill_branches give n m es).branches ≤ d
  branches-depth d give ih zero m es = ih m es
  branches-depth d give ih (suc n) m es = next-depth d (fill_branches give n) (branches-depth d give ih n) (give m es) (give m es).rest (ih m es)

  -- No deeper than its levels.
  pub fill-depth : (h m : ℕ) (es : List KeyValue) → depth_branch (fill L h m es).branch ≤ suc h
  unfolding fill
  fill-depth zero zero es = omega arith
  fill-depth zero (suc m) es = omega arith
  fill-depth (suc zero) zero es = omega arith
  fill-depth (suc zero) (suc m) es = omega (arith, branches-depth 1 (fill L zero) (fill-depth zero) L.entries (suc m) es)
  fill-depth (suc (suc h)) m es = omega (arith, branches-depth (suc (suc h)) (fill L (suc h)) (fill-depth (suc h)) L.entries m es)
