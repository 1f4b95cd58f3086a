-- `walks::map::read` meets its contract. Assumes nothing.
use Rattle.std.proofs.Common.{◌+◌, ◌*◌, rules}
use Rattle.std.proofs.lemmas.List.FromFn.{fill_by_all}
use Rattle.format.specs.Bytes.{le_at}
use Rattle.walks.proofs.map.read.Goals as goal

pub returns : goal.returns
returns g c = fill_by_all (λ k. le_at 8 c.args.archive.now (c.args.p + 8 * k)) c.loop-i.numbers g.row.N 0 c.loop-i.invariant.0 (search rules)
