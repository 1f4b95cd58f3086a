use Prim.Native.Nat.{◌-◌}
use mathlib.Core.Path.{◌≡◌}
use Rattle.format.specs.Layout.{layout_of}
use Rattle.format.specs.Entries.{slots}
use Rattle.format.specs.Written.{runs}
use Rattle.certification.specs.Survey.{step}
use Rattle.certification.proofs.note_leaf.Given as goal

abbrev pub invariant-loop-i : goal.invariant-loop-i
invariant-loop-i l =
    let left = slots (layout_of l.layout) l.archive l.pos.0 in
    runs step (left (l.n - l.i) l.i) l.order ≡ runs step (left (l.n - l.initial.i) l.initial.i) l.initial.order
