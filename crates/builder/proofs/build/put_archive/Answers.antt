-- Zeros, the nodes and the record make the archive.
use Rattle.std.proofs.Common.{arith}
use Rattle.builder.proofs.Entries.{ready, record-fits, archive-by}
use Rattle.builder.proofs.build.put_archive.Goals as goal

pub serialize_from_ordered_iter-root-requires : goal.serialize_from_ordered_iter-root-requires
serialize_from_ordered_iter-root-requires c =
    let (low, P, fits) = c.requires.header_bound in
    record { can_write = ready _ _ _ _ c.requires.named c.args.given.same P _ low (omega (arith, fits, c.put_zeros.auto.out)) }

pub resolve_from_len-requires : goal.resolve_from_len-requires
resolve_from_len-requires c =
    let (low, P, fits) = c.requires.header_bound in
    let wrote = c.serialize_from_ordered_iter-root in
    omega (arith, record-fits _ _ _ _ c.requires.named c.args.given.same P wrote.ensures, fits, c.put_zeros.auto.out, wrote.auto.out)

pub returns : goal.returns
returns c =
    let (low, P, fits) = c.requires.header_bound in
    archive-by _ _ _ _ c.requires.named c.args.given.same P c.serialize_from_ordered_iter-root.ensures _ _ c.put_zeros.ensures c.resolve_from_len.ensures
