-- The layout of a width and of the entries a node as numbers. Assumes nothing: these are definitions.
use Rattle.std.specs.Prelude.{ℕ, ◌≤◌, ◌≡◌, true, false, eqb}
use Rattle.format.specs.Layout.{Layout, Width, two, four, eight, bytes}

unfoldable pub width_for : ℕ → Width
width_for w = elim (eqb w 2) [ true ↦ two | false ↦ elim (eqb w 8) [ true ↦ eight | false ↦ four ] ]

abbrev pub numbered : ℕ → ℕ → Layout
numbered w e = record { width = width_for w; entries = e }

-- w is a width in bytes, and e is not too many.
pub record Sizes (w e : ℕ) : Type 0 where
  pub wide : bytes (width_for w) ≡ w
  pub few : e ≤ 15
