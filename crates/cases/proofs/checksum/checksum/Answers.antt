-- A turn takes the first of the bytes that are left, and at their end the remainder is the checksum.
use Rattle.std.proofs.Common.{sym, ◌∙◌, arith}
use Rattle.std.proofs.lemmas.List.{at_drop_more, at_drop_all}
use Rattle.cases.specs.Checksum.{step, checksum_from}
use Rattle.cases.proofs.checksum.checksum.Goals as goal

pub loop-byte-preserved : goal.loop-byte-preserved
unfolding step checksum_from
loop-byte-preserved c =
    (omega arith, rw c.from.ensures (sym (at_drop_more (checksum_from c.loop-byte.remainder) c.args.bytes.now _ 0 c.loop-byte-test.true) ∙ c.loop-byte.invariant.1))

pub returns : goal.returns
unfolding checksum_from
returns c = sym (at_drop_all (checksum_from c.loop-byte.remainder) c.args.bytes.now _ c.loop-byte-test.false) ∙ c.loop-byte.invariant.1
