-- What the loop has computed, and what is left of the bytes, come to the checksum.
use Rattle.std.proofs.Common.{◌≡◌, ◌<◌, drop}
use Rattle.cases.specs.Checksum.{checksum_from, checksum}
use Rattle.cases.proofs.checksum.checksum.Given as goal

abbrev pub invariant-loop-byte : goal.invariant-loop-byte
invariant-loop-byte l = (l.remainder < 4294967291) × (checksum_from l.remainder (drop l.byte-index l.bytes) ≡ checksum l.bytes)
