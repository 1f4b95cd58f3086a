-- What the slots of an open inner node stand for, and runs of words. Assumes nothing: these are definitions.
use Rattle.std.specs.Prelude.{ℕ, ◌<◌, List, [], ◌∷◌, map, get_or, Option, None, Some}
use Rattle.format.specs.declared.Position.{Position}
use Rattle.format.specs.Tree as tree
use Rattle.format.specs.Tree.{column}
use Rattle.nodes.specs.declared.inline_vec.ChildPos.{ChildPos}
use Rattle.nodes.specs.declared.inline_vec.Slot.{Slot}

-- The child at a position, or none.
abbrev pub child_at : Option ChildPos → Option Position
child_at None = None
child_at (Some p) = Some (record { 0 = p.0 })

-- n words: those of the list, then zeros.
abbrev pub words : ℕ → List ℕ → List ℕ
words n l = column (λ (x : ℕ). x) n l

-- ---- the entries and the lesser children of an inner node

-- The places are in lists of m.
abbrev pub Within : ℕ → List Slot → Type 0
Within m [] = Unit {0}
Within m (s ∷ ss) = (s.place < m) × Within m ss

-- What a list has at the places.
abbrev pub picked : List ℕ → List Slot → List ℕ
picked l ss = map (λ (s : Slot). get_or l s.place 0) ss

abbrev pub lessers : List Slot → List (Option Position)
lessers ss = map (λ (s : Slot). child_at s.lesser) ss

-- The slots, with the entries that the lists have at their places.
abbrev pub slot_in : List ℕ → List ℕ → Slot → tree.Slot
slot_in ks vs s = tree.slot_of (record { key = get_or ks s.place 0; value = get_or vs s.place 0 }) (child_at s.lesser)

abbrev pub slots_in : List ℕ → List ℕ → List Slot → List tree.Slot
slots_in ks vs ss = map (slot_in ks vs) ss
