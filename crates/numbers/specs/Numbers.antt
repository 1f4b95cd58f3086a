-- The root as the quick way finds it. Assumes nothing: these are definitions.
use Rattle.std.specs.Prelude.{ℕ, ◌+◌, ◌%◌, ◌≤◌, ◌≡◌, List, get_or}
use Rattle.format.specs.Layout.{Layout, inner_size, node_align}
use Rattle.format.specs.Readable.{LeadsTo}

-- The field f leads back to an inner node at p, which is in its place.
pub record InnerBack (L : Layout) (s : List ℕ) (f p : ℕ) : Type 0 where
  pub to : LeadsTo L s f p
  pub room : p + inner_size L ≤ f
  pub aligned : p % node_align ≡ 0
  pub inner : get_or s p 0 ≡ 1
