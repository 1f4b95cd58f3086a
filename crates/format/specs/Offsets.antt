-- Which offsets of an archive the pointer's width holds: refusal 16 of a build. Document 02, N8: "16 also when a 16-bit distance doesn't fit, after 14."
-- Where one is refused, the crate's `emplace` panics. Assumes nothing: these are definitions.
use Rattle.std.specs.Prelude.{ℕ, ◌+◌, Bool, true, false, ◌&&◌, ℤ, None, Option, Some}
use Rattle.format.specs.declared.Position.{Position}
use Rattle.format.specs.Layout.{Layout, sign_bits, pointer, head_size}
use Rattle.format.specs.Refusal.{Answer, gives, refuses}
use Rattle.format.specs.RelPtr.{stored_offset, absent_offset}
use Rattle.format.specs.Tree.{Tree, leaf_t, inner_t, Branches, last_b, more_b, Branch, none_b, some_b, length_branches, length_branch, child_of}

abbrev pub is_given : Answer ℤ → Bool
is_given (gives z) = true
is_given (refuses r) = false

module _ (L : Layout) where
  -- The field at f takes the offset to a child: neither 15 nor 16 arises.
  abbrev pub emplaces : ℕ → Option Position → Bool
  emplaces f (Some q) = is_given (stored_offset (sign_bits L.width) f q.0)
  emplaces f None = is_given (absent_offset (sign_bits L.width) f)

  -- So do all fields of an inner node, the first of them at f, where its first child is written from p on.
  abbrev pub fields_emplace : Branches → ℕ → ℕ → Bool
  fields_emplace (last_b b) p f = emplaces f (child_of L b p)
  fields_emplace (more_b b e bs) p f = emplaces f (child_of L b p) && fields_emplace bs (p + length_branch L b) (f + pointer L)

  -- And all fields of a tree that is written from p on.
  abbrev mutual
    pub tree_emplaces : Tree → ℕ → Bool
    tree_emplaces (leaf_t es) p = true
    tree_emplaces (inner_t bs) p = branches_emplace bs p && fields_emplace bs p (p + length_branches L bs + head_size L)

    pub branches_emplace : Branches → ℕ → Bool
    branches_emplace (last_b b) p = branch_emplaces b p
    branches_emplace (more_b b e bs) p = branch_emplaces b p && branches_emplace bs (p + length_branch L b)

    pub branch_emplaces : Branch → ℕ → Bool
    branch_emplaces none_b p = true
    branch_emplaces (some_b t) p = tree_emplaces t p

  -- And the record's own field behind the tree.
  abbrev pub archive_emplaces : Branch → ℕ → Bool
  archive_emplaces b p = branch_emplaces b p && emplaces (p + length_branch L b) (child_of L b p)
