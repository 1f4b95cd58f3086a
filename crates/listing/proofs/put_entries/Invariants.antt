-- The lines of the entries so far stand behind what was there.
use Rattle.std.proofs.Common.{◌≡◌, ◌++◌, length}
use Rattle.listing.specs.Listing.{first_lines}
use Rattle.listing.proofs.put_entries.Given as goal

abbrev pub invariant-loop-key : goal.invariant-loop-key
invariant-loop-key l = l.text ≡ l.initial.text ++ first_lines l.keys l.values (length l.yielded)
