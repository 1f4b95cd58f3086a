-- Refusal 16 is decided by one number: the width holds all offsets of an archive exactly if it holds the root's first one. Assumes nothing.
use Rattle.std.specs.Prelude.{ℕ, ◌+◌, ◌-◌, ◌*◌, ◌^◌, ◌≤◌, ◌<◌, min, ◌≡◌, refl, Bool, true, false, negsuc, length, None, Option, Some}
use Rattle.format.specs.declared.Position.{Position}
use Rattle.std.proofs.Math.Path.{sym, ap}
use Rattle.std.proofs.Common.{◌∙◌, subst, arith, lit≤, le-leb, leb-true, leb-false}
use mathlib.Core.List.{List, [], ◌∷◌}
use Rattle.std.proofs.Math.Dec.{leb}
use Rattle.format.specs.Layout.{Width, two, four, eight, Layout, sign_bits, pointer, head_size, inner_size}
use Rattle.format.specs.Refusal.{gives}
use Rattle.format.specs.RelPtr.{signed_offset, stored_offset}
use Rattle.format.specs.Tree.{Tree, leaf_t, inner_t, Branches, last_b, more_b, Branch, none_b, some_b, length_t, length_branches, length_branch}
use Rattle.format.specs.Tree.{top_t, child_of}
use Rattle.format.specs.Tree.{KeyValue}
use Rattle.format.specs.TreeShape.{own}
use Rattle.format.specs.Offsets.{is_given, emplaces, fields_emplace, tree_emplaces, branches_emplace, branch_emplaces, archive_emplaces}
use Rattle.format.specs.Build.{log_from, height, last_level, tree_of}
use Rattle.format.specs.Weight.{upper, room, reach}
use Rattle.format.proofs.Laws.Numbers.Tests.{and-true, second-fails, second-passes}
use Rattle.format.proofs.Laws.Numbers.RelPtr.{offset-behind, fits_gives, fits_refused, stored-given}
use Rattle.format.proofs.Laws.Build.NodeBytes.{top_in}
use Rattle.format.proofs.Laws.Build.BytesAt.{offset-fits, absent-fits, bits-least}
use Rattle.format.proofs.Laws.Build.Built.{tree-of}
use Rattle.format.proofs.Laws.Build.Near.{FullT, FullBranches, FullBranch, Near, FieldsNear, TreeNear, BranchesNear, BranchNear, inner_room, own-most}
use Rattle.format.proofs.Laws.Build.Near.{top-own, far_b, far_of, FirstB, First, first-branch}
use Rattle.format.proofs.Laws.Build.Farthest.{fill-first, far-is}

-- A position further back than h bits and a sign reach.
far-refused : (h f q : ℕ) → q < f → 2 ^ h < f - q → f < 2 ^ 63 → is_given (stored_offset h f q) ≡ false
far-refused h f q l far short =
    let m = f - q - 1 in
    let e : signed_offset f q ≡ gives (negsuc m) = offset-behind f q l ∙ fits_gives 63 15 (negsuc m) (omega arith) in
    ap is_given (stored-given h f q (negsuc m) e ∙ fits_refused h 16 (negsuc m) (omega arith))

-- Every width reaches over a node of at most 376 bytes.
pub bits-node : (w : Width) → 376 ≤ 2 ^ sign_bits w
bits-node two = lit≤ tt
bits-node four = lit≤ tt
bits-node eight = lit≤ tt

module _ (L : Layout) where
  -- ---- where all offsets are near, all are held

  abbrev far : ℕ
  far = 2 ^ sign_bits L.width

  near-emplaces : (f : ℕ) (c : Option Position) → Near L far f c → f < 2 ^ 63 → emplaces L f c ≡ true
  near-emplaces f (Some q) n l = ap is_given (offset-fits (sign_bits L.width) f q.0 n.0 (omega (arith, n.1)) (omega arith))
  near-emplaces f None n l = ap is_given (absent-fits (sign_bits L.width) f (bits-least L.width) (omega arith))

  fields-hold : (bs : Branches) (p f : ℕ) → FieldsNear L far bs p f → f + pointer L * length (own bs) < 2 ^ 63 → fields_emplace L bs p f ≡ true
  fields-hold (last_b b) p f n l = near-emplaces f (child_of L b p) n (omega arith)
  fields-hold (more_b b e bs) p f n l =
      (and-true _ _).1 (near-emplaces f (child_of L b p) n.0 (omega arith), fields-hold bs (p + length_branch L b) (f + pointer L) n.1 (omega arith))

  mutual
    tree-holds : (t : Tree) (p : ℕ) → TreeNear L far t p → FullT L t → p + length_t L t < 2 ^ 63 → tree_emplaces L t p ≡ true
    tree-holds (leaf_t es) p n w l = refl
    tree-holds (inner_t bs) p n w l =
        let e : pointer L * length (own bs) ≡ pointer L * L.entries = ap (λ (n : ℕ). pointer L * n) w.0 in
        let f = p + length_branches L bs + head_size L in
        (and-true _ _).1 (branches-hold bs p n.0 w.1 (omega arith), fields-hold bs p f n.1 (omega (arith, inner_room L)))

    branches-hold : (bs : Branches) (p : ℕ) → BranchesNear L far bs p → FullBranches L bs → p + length_branches L bs < 2 ^ 63 → branches_emplace L bs p ≡ true
    branches-hold (last_b b) p n w l = branch-holds b p n w l
    branches-hold (more_b b e bs) p n w l =
        (and-true _ _).1 (branch-holds b p n.0 w.0 (omega arith), branches-hold bs (p + length_branch L b) n.1 w.1 (omega arith))

    branch-holds : (b : Branch) (p : ℕ) → BranchNear L far b p → FullBranch L b → p + length_branch L b < 2 ^ 63 → branch_emplaces L b p ≡ true
    branch-holds none_b p n w l = refl
    branch-holds (some_b t) p n w l = tree-holds t p n w l

  -- ---- exactly if the root's first offset is

  first-far : (bs : Branches) (p : ℕ) → FirstB L bs → far < far_b L bs → p + length_branches L bs + head_size L < 2 ^ 63
      → fields_emplace L bs p (p + length_branches L bs + head_size L) ≡ false
  first-far (last_b b) p s over l = absurd s
  first-far (more_b none_b e bs) p s over l = absurd s.1
  first-far (more_b (some_b t) e bs) p s over l =
      let f : ℕ = p + length_branches L (more_b (some_b t) e bs) + head_size L in
      let i = top_in L t p in
      let z : is_given (stored_offset (sign_bits L.width) f (top_t L t p)) ≡ false =
      far-refused (sign_bits L.width) f (top_t L t p) (omega (arith, i.1)) (omega (arith, top-own L t p)) l in
      rw z

  branch-far : (b : Branch) (p : ℕ) → First L b → far < far_of L b → p + length_branch L b < 2 ^ 63 → branch_emplaces L b p ≡ false
  branch-far none_b p s over l = absurd s
  branch-far (some_b (leaf_t es)) p s over l = absurd (omega arith)
  branch-far (some_b (inner_t bs)) p s over l = second-fails (branches_emplace L bs p) _ (first-far bs p s over (omega (arith, inner_room L)))

  exactly : (b : Branch) (p : ℕ) → FullBranch L b → First L b → p + length_branch L b < 2 ^ 63 → branch_emplaces L b p ≡ leb (far_of L b) far
  exactly b p w s l = by (leb (far_of L b) far) refl
    where
      by : (x : Bool) → leb (far_of L b) far ≡ x → branch_emplaces L b p ≡ x
      by true e = branch-holds b p (first-branch L far b p w s (leb-true _ _ e)) w l
      by false e = branch-far b p s (leb-false _ _ e) l

  -- ---- the tree of given entries

  -- How far the root's first offset leads in the tree of n entries.
  abbrev reach_of : ℕ → ℕ
  reach_of n = reach L (height L n - 1) (last_level L n)

  record Facts (all : List KeyValue) : Type 0 where
    full : FullBranch L (tree_of L all)
    first : First L (tree_of L all)
    far-is : far_of L (tree_of L all) ≡ reach_of (length all)

  facts : (e : KeyValue) (es : List KeyValue) → 0 < L.entries → Facts (e ∷ es)
  facts e es some =
      let all = e ∷ es in
      let n = length all in
      let m = last_level L n in
      let T = tree-of L e es some in
      let h = T.fit.above in
      let enough : upper L h + min m (room L h) ≤ length all = omega (arith, T.fit.last-is, T.fit.last-room) in
      let eh : height L n - 1 ≡ h = omega (arith, T.fit.height-is) in
      record {
        full = subst (FullBranch L) (sym T.is) T.done.full;
        first = subst (First L) (sym T.is) (fill-first L h m all some enough (omega (arith, T.fit.last-pos)));
        far-is = ap (far_of L) T.is ∙ far-is L h m all some T.fit.last-pos enough ∙ ap (λ (h : ℕ). reach L h m) (sym eh);
      }

  -- Where that offset is held, every offset of the tree is near.
  pub reach_near : (e : KeyValue) (es : List KeyValue) (p : ℕ) → 0 < L.entries → reach_of (length (e ∷ es)) ≤ far → BranchNear L far (tree_of L (e ∷ es)) p
  reach_near e es p some l = let A = facts e es some in first-branch L far (tree_of L (e ∷ es)) p A.full A.first (omega (arith, A.far-is))

  -- The record's own field leads over the root alone.
  root-emplaces : (b : Branch) (p : ℕ) → inner_size L ≤ 376 → p + length_branch L b < 2 ^ 63 → emplaces L (p + length_branch L b) (child_of L b p) ≡ true
  root-emplaces none_b p h l = near-emplaces (p + 0) None tt (omega arith)
  root-emplaces (some_b t) p h l =
      near-emplaces (p + length_t L t) (child_of L (some_b t) p)
      (omega (arith, (top_in L t p).1), omega (arith, top-own L t p, own-most L t, bits-node L.width)) l

  pub archive-emplaces : (es : List KeyValue) (p : ℕ) → 0 < L.entries → inner_size L ≤ 376 → p + length_branch L (tree_of L es) < 2 ^ 63
      → archive_emplaces L (tree_of L es) p ≡ leb (reach_of (length es)) far
  unfolding tree_of height log_from
  archive-emplaces [] p some small l = root-emplaces none_b p small l ∙ sym (le-leb 0 far (omega arith))
  archive-emplaces (e ∷ es) p some small l =
      let A = facts e es some in
      second-passes _ _ (root-emplaces (tree_of L (e ∷ es)) p small l)
      ∙ exactly (tree_of L (e ∷ es)) p A.full A.first l ∙ ap (λ (x : ℕ). leb x far) A.far-is
