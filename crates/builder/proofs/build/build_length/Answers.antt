-- Each refusal, or the length, by what the tests told.
use Rattle.std.proofs.Common.{arith, ◌∙◌, sym}
use borrow.Author.Tests.{not-true, not-false}
use Rattle.format.specs.Layout.{layout_of}
use Rattle.builder.proofs.Refusals.{length-24, length-11, length-13, length-16, length-given}
use Rattle.builder.proofs.build.build_length.Goals as goal

pub returns-then-not-in_range : goal.returns-then-not-in_range
returns-then-not-in_range c =
    length-24 (layout_of c.args.layout) c.args.entries c.args.header (sym c.in_range.ensures ∙ c.if-not-in_range.true)

pub returns-then-entries-gt-MOST_ENTRIES : goal.returns-then-entries-gt-MOST_ENTRIES
returns-then-entries-gt-MOST_ENTRIES c =
    length-11 (layout_of c.args.layout) c.args.entries c.args.header (sym c.in_range.ensures ∙ c.if-not-in_range.false)
    (omega arith)

pub returns-then-header-gt-LONGEST_HEADER : goal.returns-then-header-gt-LONGEST_HEADER
returns-then-header-gt-LONGEST_HEADER c =
    length-13 (layout_of c.args.layout) c.args.entries c.args.header (sym c.in_range.ensures ∙ c.if-not-in_range.false)
    (omega arith) c.if-header-gt-LONGEST_HEADER.true

pub returns-then-not-p : goal.returns-then-not-p
returns-then-not-p c =
    length-16 _ _ _ (sym c.in_range.ensures ∙ c.if-not-in_range.false)
    (omega arith) c.if-header-gt-LONGEST_HEADER.false c.plan_of-p.ensures (not-true _ c.if-not-p.true)

pub returns : goal.returns
returns c =
    length-given _ _ _ (sym c.in_range.ensures ∙ c.if-not-in_range.false)
    (omega arith) c.if-header-gt-LONGEST_HEADER.false c.plan_of-p.ensures (not-false _ c.if-not-p.false)
