-- A field that is too large refuses; else the key is the definition's.
use Rattle.std.proofs.Common.{sym, arith}
use mir.Facts.{to_z-of_z}
use Rattle.format.proofs.Laws.Numbers.Key.{pack-no-exam, pack-no-eye, pack-no-pres, pack-given}
use Rattle.perimetry.proofs.key.pack.Goals as goal
use Rattle.perimetry.proofs.key.pack.Goals.{then-examination-ge-EXAMINATIONS-via-then-examination-ge-EXAMINATIONS}
use Rattle.perimetry.proofs.key.pack.Goals.{then-examination-ge-EXAMINATIONS-via-else-examination-ge-EXAMINATIONS+then-eye-ge-EYES}
use Rattle.perimetry.proofs.key.pack.Goals.{then-examination-ge-EXAMINATIONS-via-else-examination-ge-EXAMINATIONS+else-eye-ge-EYES+then-presentation-ge-PRESENTATIONS}

pub returns-then-examination-ge-EXAMINATIONS : goal.returns-then-examination-ge-EXAMINATIONS
returns-then-examination-ge-EXAMINATIONS c =
    elim c.then-examination-ge-EXAMINATIONS.branch [
      | then-examination-ge-EXAMINATIONS-via-then-examination-ge-EXAMINATIONS w ↦ sym (pack-no-exam _ _ _ _ _ _ (omega arith))
      | then-examination-ge-EXAMINATIONS-via-else-examination-ge-EXAMINATIONS+then-eye-ge-EYES w ↦
          sym (pack-no-eye _ _ _ _ _ _ (omega arith) (omega arith))
      | then-examination-ge-EXAMINATIONS-via-else-examination-ge-EXAMINATIONS+else-eye-ge-EYES+then-presentation-ge-PRESENTATIONS w ↦
          sym (pack-no-pres _ _ _ _ _ _ (omega arith) (omega arith) (omega arith))
    ]

pub returns : goal.returns
returns c =
    rw (c.key_of.ensures, c.bits_of-2.ensures, c.bits_of.ensures, to_z-of_z c.ranges.x, to_z-of_z c.ranges.y)
    (sym (pack-given _ _ _ c.args.x c.args.y _ (omega arith) (omega arith) (omega arith)))
