-- The answer is the definition's, by the tests of the layout, of the lengths and of the record's place, and then by the record's.
use Rattle.std.specs.Prelude.{Result}
use Rattle.std.proofs.Common.{ℕ, ◌≡◌, ◌-◌, true, sym, ap, ◌∙◌, arith}
use Rattle.std.proofs.lemmas.Result.{err_from_is_err_and}
use Rattle.format.specs.Layout.{layout_of, entries_in_range, limits_of}
use Rattle.format.proofs.Laws.Numbers.Widths.{range-in}
use Rattle.format.proofs.Laws.Numbers.Limits.{within-server}
use Rattle.format.specs.declared.Refusal.{Refusal}
use Rattle.subtrees.specs.Subtree.{opened}
use Rattle.subtrees.specs.declared.archive.SubtreeRange.{SubtreeRange}
use Rattle.subtrees.proofs.Places.{opened-held}
use Rattle.validation.proofs.Record.{archive-out, archive-long, archive-short, archive-refused, archive-opened}
use Rattle.validation.proofs.check.check.Goals as goal

-- The answer of the record's place, if the sizes and the depth are read.
asked : {o : Result (Unit {0}) Refusal} (n : ℕ) {r size p align d depth : ℕ} → o ≡ opened 0 n d (n - r) r p → r ≡ size → p ≡ align → d ≡ depth
    → o ≡ opened 0 n depth (n - size) size align
asked n e er ep ed = rw (er, ep, ed) at e

pub returns-then-not-in_range : goal.returns-then-not-in_range
returns-then-not-in_range c =
    archive-out (layout_of c.args.layout) (limits_of c.args.limits) _ (sym c.in_range.ensures ∙ c.if-not-in_range.true)

pub returns-then-length-most : goal.returns-then-length-most
returns-then-length-most c =
    let named : entries_in_range (layout_of c.args.layout) ≡ true = cc in
    archive-long (layout_of c.args.layout) (limits_of c.args.limits) _ named (omega (arith, c.counted-most.ensures.0))

pub returns-then-length-record : goal.returns-then-length-record
returns-then-length-record c =
    let named : entries_in_range (layout_of c.args.layout) ≡ true = cc in
    archive-short (layout_of c.args.layout) (limits_of c.args.limits) _ named (omega (arith, c.counted-most.ensures.0))
    (omega (arith, c.record-record.ensures.0))

pub returns-in_err-in_subtree : goal.returns-in_err-in_subtree
returns-in_err-in_subtree c =
    let named : entries_in_range (layout_of c.args.layout) ≡ true = cc in
    let p = err_from_is_err_and c.from_residual.result c.from_residual.ensures.1 in
    rw (p.1, p.2)
    (archive-refused (layout_of c.args.layout) (limits_of c.args.limits) _ named (omega (arith, c.counted-most.ensures.0))
    (omega (arith, c.record-record.ensures.0))
    (asked _ c.in_err-in_subtree.ensures c.record-record.ensures.0 c.pointer.ensures.0 c.counted-most.ensures.1))

pub overflow_sub-most : goal.overflow_sub-most
overflow_sub-most c = omega (arith, opened-held _ _ _ _ _ _ (sym c.in_ok-in_subtree.ensures))

pub verify-requires : goal.verify-requires
verify-requires c =
    let e = c.push_subtree_range.ensures in
    let named : entries_in_range (layout_of c.args.layout) ≡ true = cc in (
      (range-in (layout_of c.args.layout) named).1,
      omega (arith, c.counted-most.ensures.0, (within-server (record { longest = c.args.limits.longest; depth = c.args.limits.depth })).longest),
      omega (arith, c.record-record.ensures.0),
      omega (arith, c.record-record.ensures.0),
      ap (λ (r : SubtreeRange). r.start.0) e,
      ap (λ (r : SubtreeRange). r.end.0) e,
      omega (arith, opened-held _ _ _ _ _ _ (sym c.in_ok-in_subtree.ensures)),
    )

pub returns : goal.returns
returns c =
    let named : entries_in_range (layout_of c.args.layout) ≡ true = cc in
    c.verify.ensures (limits_of c.args.limits) (omega (arith, c.counted-most.ensures.1))
    ∙ archive-opened (layout_of c.args.layout) (limits_of c.args.limits) _ named (omega (arith, c.counted-most.ensures.0))
    (omega (arith, c.record-record.ensures.0))
    (asked _ c.in_ok-in_subtree.ensures c.record-record.ensures.0 c.pointer.ensures.0 c.counted-most.ensures.1)
