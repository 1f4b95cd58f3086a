-- A field that is too large refuses; else the two ends are the definition's.
use Rattle.std.proofs.Common.{ℕ, ◌≡◌, ◌^◌, ◌-◌, sym, ap, ◌∙◌, arith}
use mir.Facts.{to_z-of_z}
use Rattle.format.specs.Key.{bits_of, key_of}
use Rattle.format.proofs.Laws.Numbers.Key.{column-no-exam, column-no-eye, column-given}
use Rattle.perimetry.proofs.column.column_bounds.Goals as goal
use Rattle.perimetry.proofs.column.column_bounds.Goals.{then-examination-ge-EXAMINATIONS-via-then-examination-ge-EXAMINATIONS}
use Rattle.perimetry.proofs.column.column_bounds.Goals.{then-examination-ge-EXAMINATIONS-via-else-examination-ge-EXAMINATIONS+then-eye-ge-EYES}

pub returns-then-examination-ge-EXAMINATIONS : goal.returns-then-examination-ge-EXAMINATIONS
returns-then-examination-ge-EXAMINATIONS c =
    elim c.then-examination-ge-EXAMINATIONS.branch [
      | then-examination-ge-EXAMINATIONS-via-then-examination-ge-EXAMINATIONS w ↦ sym (column-no-exam _ _ _ _ _ (omega arith))
      | then-examination-ge-EXAMINATIONS-via-else-examination-ge-EXAMINATIONS+then-eye-ge-EYES w ↦
          sym (column-no-eye _ _ _ _ _ (omega arith) (omega arith))
    ]

pub returns : goal.returns
returns c =
    let p = c.args.packing in
    let first : c.bits_of-first.result ≡ bits_of p c.args.a = c.bits_of-first.ensures ∙ ap (bits_of p) (to_z-of_z c.ranges.a) in
    let last : c.bits_of-last.result ≡ bits_of p c.args.b = c.bits_of-last.ensures ∙ ap (bits_of p) (to_z-of_z c.ranges.b) in
    sym (column-given _ _ _ c.args.a c.args.b _ _ (omega arith) (omega arith)
    (c.key_of.ensures ∙ ap (λ (x : ℕ). key_of c.args.examination c.args.eye x 0 0) first)
    (c.key_of-2.ensures ∙ ap (λ (x : ℕ). key_of c.args.examination c.args.eye x (2 ^ 8 - 1) (2 ^ 23 - 1)) last))
