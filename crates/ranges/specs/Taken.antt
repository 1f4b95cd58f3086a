-- A range, entry by entry: the fold that the functions over nodes promise. Assumes nothing: these are definitions.
use Rattle.std.specs.Prelude.{ℕ, ◌+◌, true, false, List}
use Rattle.format.specs.Range.{from_to}
use Rattle.format.specs.declared.Entry.{Entry}
use Rattle.format.specs.Range.{held}
use Rattle.format.specs.Written.{Out, put, runs}

-- An entry that matches is written where both lists have room, and counted: the place of the next one is the number matching, which goes on where a
-- list is full.
unfoldable pub taken : Entry → Out → Out
taken e o = record { keys = (put e o).keys; values = (put e o).values; at = o.at + 1 }

unfoldable pub range_step : ℕ → ℕ → Entry → Out → Out
range_step least greatest e o = elim (held (from_to least greatest) e) [ true ↦ taken e o | false ↦ o ]

-- What a range from `least` to `greatest` does with these entries, in order.
abbrev pub ranged : ℕ → ℕ → List Entry → Out → Out
ranged least greatest es o = runs (range_step least greatest) es o
