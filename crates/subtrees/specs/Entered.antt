-- A node whose place is checked, by the depth that is left. Assumes nothing: this is a definition.
use Rattle.std.specs.Prelude.{ℕ, zero, suc, List}
use Rattle.format.specs.Layout.{Layout}
use Rattle.format.specs.Node.{Kind}
use Rattle.format.specs.Check.{Checked, refused, check_body, check_node}

module _ (L : Layout) (s : List ℕ) where
  -- Refusal 5, or its body.
  unfoldable pub entered : ℕ → ℕ → ℕ → Kind → Checked
  entered zero start p k = refused 5
  entered (suc d) start p k = check_body L s (check_node L s d) start p k
