-- What the answers of the check's parts say in the terms of the definitions. Assumes nothing: these are definitions.
use Rattle.std.specs.Prelude.{ℕ, ◌-◌, ◌≡◌, List, Result, Ok, Err}
use Rattle.format.specs.Layout.{Layout, head_size, node_align}
use Rattle.format.specs.Refusal.{number}
use Rattle.format.specs.Node.{inner}
use Rattle.format.specs.Check.{Checked, accepted, refused, enter, check_node}
use Rattle.subtrees.specs.Entered.{entered}
use Rattle.format.specs.declared.Position.{Position}
use Rattle.format.specs.declared.Refusal.{Refusal}
use Rattle.subtrees.specs.declared.archive.SubtreeRange.{SubtreeRange}
use Rattle.subtrees.specs.declared.node.Subtree.{Subtree}
use Rattle.subtrees.specs.declared.node.Entered.{Entered}
use Rattle.subtrees.specs.declared.node.Entered.TheVariants.{Leaf, Inner}
use Rattle.subtrees.specs.Subtree.{Held}

-- A place's answer, and then a.
abbrev pub ptr_of : Result (Unit {0}) Refusal → Checked → Checked
ptr_of (Ok u) a = a
ptr_of (Err r) a = refused (number r)

abbrev pub node_of : Result Subtree Refusal → Checked
node_of (Ok t) = accepted t.entries t.end.0
node_of (Err r) = refused (number r)

-- What is known of the node that a field leads to: its answer, or that it is an inner node whose first bytes stand in their place.
abbrev pub Enters : Layout → List ℕ → SubtreeRange → ℕ → Position → Result Entered Refusal → Type 0
Enters L s range depth field (Err r) = refused (number r) ≡ check_node L s (depth - 1) range.end.0 range.start.0 field.0
Enters L s range depth field (Ok (Leaf t)) = accepted t.entries t.end.0 ≡ check_node L s (depth - 1) range.end.0 range.start.0 field.0
Enters L s range depth field (Ok (Inner at)) =
    Held range.start.0 range.end.0 at.0 (head_size L) node_align
    × (enter L s range.end.0 range.start.0 at.0 inner (entered L s (depth - 1) range.start.0 at.0 inner)
    ≡ check_node L s (depth - 1) range.end.0 range.start.0 field.0)
