-- Archives of nested nodes, each the first child of the one above. Assumes nothing: these are definitions.
use Rattle.std.specs.Prelude.{ℕ, zero, suc, ◌+◌, ◌*◌, List, [], ◌∷◌}
use Rattle.format.specs.Layout.{layout32}
use Rattle.format.specs.Tree.{Tree, leaf_t, inner_t, Branches, last_b, more_b, none_b, some_b, KeyValue}
use Rattle.format.specs.Build.{behind}

unfoldable pub one : KeyValue
one = record { key = 1; value = 1 }

-- k entries with no child before them, and none after the last.
unfoldable pub bare_branches : ℕ → Branches
bare_branches zero = last_b none_b
bare_branches (suc k) = more_b none_b one (bare_branches k)

-- A leaf of one entry, and k inner nodes around it, each the first child of the next.
unfoldable pub chain : ℕ → Tree
chain zero = leaf_t (one ∷ [])
chain (suc k) = inner_t (more_b (some_b (chain k)) one (bare_branches 4))

-- The archive of k + 1 nested nodes.
unfoldable pub nested_nodes : ℕ → List ℕ
nested_nodes k = behind layout32 0 (some_b (chain k)) (1 + 5 * k)
