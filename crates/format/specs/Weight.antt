-- A filled tree by the number of entries alone: the entries and bytes of a subtree, a formula for its bytes, and how far the root's first offset leads.
-- Assumes nothing: these are definitions.
use Rattle.std.specs.Prelude.{ℕ, zero, suc, ◌+◌, ◌-◌, ◌*◌, ◌/◌}
use Rattle.format.specs.Layout.{Layout, head_size, leaf_size, inner_size}

-- The bytes of k children, each of which takes up to c of the last level's m entries and has g bytes.
abbrev pub weighs : (ℕ → ℕ) → ℕ → ℕ → ℕ → ℕ
weighs g c zero m = 0
weighs g c (suc k) m = g m + weighs g c k (m - c)

module _ (L : Layout) where
  -- With h levels above the last one a subtree takes `upper h` entries there, and the last level has room for `room h`.
  abbrev pub upper : ℕ → ℕ
  upper zero = 0
  upper (suc h) = suc L.entries * upper h + L.entries

  abbrev pub room : ℕ → ℕ
  room zero = L.entries
  room (suc h) = suc L.entries * room h

  -- The bytes of a subtree with h levels above the last one, which takes at most m entries.
  unfoldable pub weight : ℕ → ℕ → ℕ
  weight zero zero = 0
  weight zero (suc m) = leaf_size L
  weight (suc zero) zero = leaf_size L
  weight (suc zero) (suc m) = weighs (weight zero) (room 0) (suc L.entries) (suc m) + inner_size L
  weight (suc (suc h)) m = weighs (weight (suc h)) (room (suc h)) (suc L.entries) m + inner_size L

  -- The bytes of the own node of a root's first child, where that child has h levels above the last one: a leaf only on the last one.
  abbrev pub first_own : ℕ → ℕ
  first_own zero = leaf_size L
  first_own (suc h) = inner_size L

  -- How far the root's first offset leads back: past what stands beside the first child, to that child's own node.
  abbrev pub reach : ℕ → ℕ → ℕ
  reach zero m = 0
  reach (suc h) m = first_own h + (weight (suc h) m - inner_size L - weight h m) + head_size L

  -- The inner nodes of a subtree with h levels of inner nodes.
  abbrev pub inners_over : ℕ → ℕ
  inners_over zero = 0
  inners_over (suc h) = suc L.entries * inners_over h + 1

-- ---- the formula

-- How many parts of k entries t entries make, the last part not always full.
abbrev pub up : ℕ → ℕ → ℕ
up t k = (t + (k - 1)) / k

-- A leaf has A bytes, an inner node B; p nodes stand over the last level, which has t entries in leaves of e, and q above those nodes. A node over the
-- last level that has no child there is a leaf.
abbrev pub size_by : ℕ → ℕ → ℕ → ℕ → ℕ → ℕ → ℕ
size_by A B e p q t = A * (up t e + (p - up t (e * suc e))) + B * (up t (e * suc e) + q)
