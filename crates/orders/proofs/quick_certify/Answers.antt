-- The limits as they count are the server's at most.
use Rattle.std.proofs.Common.{◌≤◌, length, sym, ◌∙◌, arith}
use Rattle.format.specs.Layout.{layout_of, limits_of}
use Rattle.format.proofs.Laws.Numbers.Widths.{range-in}
use Rattle.format.proofs.Laws.Numbers.Limits.{within-server}
use Rattle.orders.proofs.quick_certify.Goals as goal

pub root_keys-requires : goal.root_keys-requires
root_keys-requires c =
    let short : length c.args.archive.now ≤ (limits_of c.args.limits).longest = omega (arith, c.counted-most.ensures.0, c.if-archive-most.false) in
    let e = (within-server (record { longest = c.args.limits.longest; depth = c.args.limits.depth })).longest in
    let range = range-in (layout_of c.args.layout) (sym c.in_range.ensures ∙ c.if-not-in_range.false) in
    (omega (arith, range.0), omega (arith, range.1), omega (arith, c.if-most-lt3.false), omega (arith, short, e))
