-- Where a pointer leads in document 01's terms. Assumes nothing: these are definitions.
use Rattle.std.specs.Prelude.{Option, Some, None}
use Rattle.format.specs.declared.Position.{Position}
use Rattle.format.specs.RelPtr.{Destination, at, below}

abbrev pub target_of : Option Position → Destination
target_of (Some p) = at p.0
target_of None = below
