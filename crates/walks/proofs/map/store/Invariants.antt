use Rattle.std.proofs.Common.{◌≡◌, ◌+◌, length, drop}
use Rattle.std.proofs.lemmas.List.Edits.{sets}
use Rattle.walks.proofs.map.store.Given as goal

abbrev pub invariant-loop-i : goal.invariant-loop-i
invariant-loop-i g l = (length l.list ≡ length l.initial.list) × (sets l.list (l.start + l.i) (drop l.i l.numbers) ≡ sets l.initial.list l.start l.numbers)
