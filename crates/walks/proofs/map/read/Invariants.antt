use Rattle.std.proofs.Common.{◌≡◌, ℕ, ◌+◌, ◌*◌, ◌<◌, length, get_or}
use Rattle.format.specs.Bytes.{le_at}
use Rattle.walks.proofs.map.read.Given as goal

abbrev pub invariant-loop-i : goal.invariant-loop-i
invariant-loop-i g l =
    (length l.numbers ≡ g.row.N) × ((k : ℕ) → k < l.i → get_or l.numbers k 0 ≡ le_at 8 l.archive (l.p + 8 * k))
