-- How far back the offsets of a tree lead: never further than the tree is long; and no further than the root's first offset, where from the root down the
-- first children each node's first offset leads no further than the one above it. Assumes nothing.
use Rattle.std.specs.Prelude.{ℕ, suc, ◌+◌, ◌*◌, ◌/◌, ◌≤◌, ◌<◌, ◌≡◌, refl, length, None, Option, Some}
use Rattle.format.specs.declared.Position.{Position}
use Rattle.std.proofs.Common.{ap, arith}
use Rattle.format.specs.Layout.{Width, two, four, eight, bytes, Layout, pointer, head_size, leaf_size, inner_size}
use Rattle.format.specs.Tree.{Tree, leaf_t, inner_t, Branches, last_b, more_b, Branch, none_b, some_b, length_t, length_branches, length_branch}
use Rattle.format.specs.Tree.{top_t, child_of}
use Rattle.format.specs.TreeShape.{own}
use Rattle.format.proofs.Laws.Numbers.Widths.{bytes-some}
use Rattle.format.proofs.Laws.Build.NodeBytes.{top_in}

module _ (L : Layout) where
  -- No slot of an inner node is free.
  abbrev mutual
    pub FullT : Tree → Type 0
    FullT (leaf_t es) = Unit {0}
    FullT (inner_t bs) = (length (own bs) ≡ L.entries) × FullBranches bs

    pub FullBranches : Branches → Type 0
    FullBranches (last_b b) = FullBranch b
    FullBranches (more_b b e bs) = FullBranch b × FullBranches bs

    pub FullBranch : Branch → Type 0
    FullBranch none_b = Unit {0}
    FullBranch (some_b t) = FullT t

  -- The field at f leads back, by at most D bytes; so do all fields of a tree that is written from p on.
  abbrev pub Near : ℕ → ℕ → Option Position → Type 0
  Near D f (Some q) = (q.0 < f) × (f ≤ q.0 + D)
  Near D f None = Unit {0}

  abbrev pub FieldsNear : ℕ → Branches → ℕ → ℕ → Type 0
  FieldsNear D (last_b b) p f = Near D f (child_of L b p)
  FieldsNear D (more_b b e bs) p f = Near D f (child_of L b p) × FieldsNear D bs (p + length_branch L b) (f + pointer L)

  abbrev mutual
    pub TreeNear : ℕ → Tree → ℕ → Type 0
    TreeNear D (leaf_t es) p = Unit {0}
    TreeNear D (inner_t bs) p = BranchesNear D bs p × FieldsNear D bs p (p + length_branches L bs + head_size L)

    pub BranchesNear : ℕ → Branches → ℕ → Type 0
    BranchesNear D (last_b b) p = BranchNear D b p
    BranchesNear D (more_b b e bs) p = BranchNear D b p × BranchesNear D bs (p + length_branch L b)

    pub BranchNear : ℕ → Branch → ℕ → Type 0
    BranchNear D none_b p = Unit {0}
    BranchNear D (some_b t) p = TreeNear D t p

  -- ---- a tree's own node, which comes last

  abbrev pub own_t : Tree → ℕ
  own_t (leaf_t es) = leaf_size L
  own_t (inner_t bs) = inner_size L

  abbrev pub own_b : Branch → ℕ
  own_b none_b = 0
  own_b (some_b t) = own_t t

  -- An inner node has room for its offsets.
  pub inner_room : head_size L + pointer L * L.entries < inner_size L
  inner_room = by (head_size L) (pointer L) L.entries (bytes-some L.width)
    where
      by : (a p e : ℕ) → 0 < p → a + p * e < (a + p * suc e + 7) / 8 * 8
      by a p e h = omega arith

  -- A leaf is longer than they are, and no longer than an inner node.
  leaf-long : pointer L * L.entries < leaf_size L
  leaf-long = by L.width L.entries
    where
      by : (w : Width) (e : ℕ) → bytes w * e < (8 + 16 * e + bytes w + 7) / 8 * 8
      by two e = omega arith
      by four e = omega arith
      by eight e = omega arith

  pub leaf-inner : leaf_size L ≤ inner_size L
  leaf-inner = by (head_size L) (pointer L) L.entries
    where
      by : (a p e : ℕ) → (a + p + 7) / 8 * 8 ≤ (a + p * suc e + 7) / 8 * 8
      by a p e = omega arith

  own-long : (t : Tree) → pointer L * L.entries < own_t t
  own-long (leaf_t es) = leaf-long
  own-long (inner_t bs) = omega (arith, leaf-long, leaf-inner)

  pub own-most : (t : Tree) → own_t t ≤ inner_size L
  own-most (leaf_t es) = leaf-inner
  own-most (inner_t bs) = omega arith

  pub top-own : (t : Tree) (p : ℕ) → top_t L t p + own_t t ≡ p + length_t L t
  top-own (leaf_t es) p = refl
  top-own (inner_t bs) p = omega arith

  -- ---- no further than the tree is long

  branch_near : (D : ℕ) (b : Branch) (p f : ℕ) → p + length_branch L b ≤ f → f ≤ p + D → Near D f (child_of L b p)
  branch_near D none_b p f h l = tt
  branch_near D (some_b t) p f h l = let i = top_in L t p in (omega (arith, i.1), omega (arith, i.0))

  fields-near : (D : ℕ) (bs : Branches) (p f : ℕ) → p + length_branches L bs ≤ f → f + pointer L * length (own bs) ≤ p + D → FieldsNear D bs p f
  fields-near D (last_b b) p f h l = branch_near D b p f h (omega arith)
  fields-near D (more_b b e bs) p f h l =
      (branch_near D b p f (omega arith) (omega arith), fields-near D bs (p + length_branch L b) (f + pointer L) (omega arith) (omega arith))

  mutual
    tree-near : (D : ℕ) (t : Tree) (p : ℕ) → FullT t → length_t L t ≤ D → TreeNear D t p
    tree-near D (leaf_t es) p w h = tt
    tree-near D (inner_t bs) p w h =
        let e : pointer L * length (own bs) ≡ pointer L * L.entries = ap (λ (n : ℕ). pointer L * n) w.0 in (
          branches-near D bs p w.1 (omega (arith, inner_room)),
          fields-near D bs p (p + length_branches L bs + head_size L) (omega arith) (omega (arith, inner_room)),
        )

    branches-near : (D : ℕ) (bs : Branches) (p : ℕ) → FullBranches bs → length_branches L bs ≤ D → BranchesNear D bs p
    branches-near D (last_b b) p w h = branch_in D b p w h
    branches-near D (more_b b e bs) p w h = (branch_in D b p w.0 (omega arith), branches-near D bs (p + length_branch L b) w.1 (omega arith))

    branch_in : (D : ℕ) (b : Branch) (p : ℕ) → FullBranch b → length_branch L b ≤ D → BranchNear D b p
    branch_in D none_b p w h = tt
    branch_in D (some_b t) p w h = tree-near D t p w h

  -- ---- no further than the root's first offset

  -- The distance of a node's first offset: over the node's other children, to the first child's own node.
  abbrev pub far_b : Branches → ℕ
  far_b (last_b b) = 0
  far_b (more_b b e bs) = own_b b + length_branches L bs + head_size L

  abbrev far_t : Tree → ℕ
  far_t (leaf_t es) = 0
  far_t (inner_t bs) = far_b bs

  abbrev pub far_of : Branch → ℕ
  far_of none_b = 0
  far_of (some_b t) = far_t t

  -- From the root down the first children, which are there, it leads no further.
  abbrev mutual
    FirstT : Tree → Type 0
    FirstT (leaf_t es) = Unit {0}
    FirstT (inner_t bs) = FirstB bs

    pub FirstB : Branches → Type 0
    FirstB (last_b b) = ⊥
    FirstB (more_b b e bs) = (far_of b ≤ own_b b + length_branches L bs + head_size L) × First b

    pub First : Branch → Type 0
    First none_b = ⊥
    First (some_b t) = FirstT t

  own_first : (b : Branch) → First b → pointer L * L.entries < own_b b
  own_first none_b s = absurd s
  own_first (some_b t) s = own-long t

  first_field : (D : ℕ) (b : Branch) (p f x : ℕ) → First b → f ≡ p + length_branch L b + x → own_b b + x ≤ D → Near D f (child_of L b p)
  first_field D none_b p f x s e h = absurd s
  first_field D (some_b t) p f x s e h = (omega (arith, (top_in L t p).1), omega (arith, top-own t p))

  mutual
    first-near : (D : ℕ) (t : Tree) (p : ℕ) → FullT t → FirstT t → far_t t ≤ D → TreeNear D t p
    first-near D (leaf_t es) p w s h = tt
    first-near D (inner_t bs) p w s h = first-branches D bs p w.0 w.1 s h

    first-branches : (D : ℕ) (bs : Branches) (p : ℕ) → length (own bs) ≡ L.entries → FullBranches bs → FirstB bs → far_b bs ≤ D
        → BranchesNear D bs p × FieldsNear D bs p (p + length_branches L bs + head_size L)
    first-branches D (last_b b) p n w s h = absurd s
    first-branches D (more_b b e bs) p n w s h =
        let o = own_first b s.1 in
        let k : pointer L * suc (length (own bs)) ≡ pointer L * L.entries = ap (λ (n : ℕ). pointer L * n) n in
        let f : ℕ = p + length_branches L (more_b b e bs) + head_size L in
        let x : ℕ = length_branches L bs + head_size L in (
          (first-branch D b p w.0 s.1 (omega (arith, s.0)), branches-near D bs (p + length_branch L b) w.1 (omega arith)),
          (
            first_field D b p f x s.1 (omega arith) (omega arith),
            fields-near D bs (p + length_branch L b) (f + pointer L) (omega arith) (omega arith),
          ),
        )

    pub first-branch : (D : ℕ) (b : Branch) (p : ℕ) → FullBranch b → First b → far_of b ≤ D → BranchNear D b p
    first-branch D none_b p w s h = absurd s
    first-branch D (some_b t) p w s h = first-near D t p w s h
