use mathlib.Core.Path.{◌≡◌}
use lib.ListN.{length}
use Rattle.nodes.proofs.Runs.{rest}
use Rattle.nodes.proofs.words.copy_entries.Given as goal

abbrev pub invariant-loop-j : goal.invariant-loop-j
invariant-loop-j l =
    rest l.at l.e (length l.keys) l.keys l.values l.out l.j ≡ rest l.at l.e (length l.keys) l.keys l.values l.initial.out 0
