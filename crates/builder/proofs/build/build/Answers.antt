-- Each refusal, or the archive, by what the tests told.
use Rattle.std.proofs.Common.{arith, ◌∙◌, sym}
use borrow.Author.Tests.{not-true, not-false}
use Rattle.format.specs.Layout.{layout_of}
use Rattle.builder.proofs.Refusals.{refuse-24, refuse-10, refuse-11, refuse-12, refuse-13, refuse-14, refuse-16, accepted}
use Rattle.builder.proofs.build.build.Goals as goal

pub returns-then-not-in_range : goal.returns-then-not-in_range
returns-then-not-in_range c =
    let a = c.args in
    let e = refuse-24 (layout_of a.layout) a.keys.now a.values.now a.header a.out.now (sym c.in_range.ensures ∙ c.if-not-in_range.true) in
    record { answer = e.0; bytes = e.1 }

pub returns-then-n-values : goal.returns-then-n-values
returns-then-n-values c =
    let a = c.args in
    let range = sym c.in_range.ensures ∙ c.if-not-in_range.false in
    let e = refuse-10 (layout_of a.layout) a.keys.now a.values.now a.header a.out.now range c.if-n-values.true in
    record { answer = e.0; bytes = e.1 }

pub returns-then-n-gt-MOST_ENTRIES : goal.returns-then-n-gt-MOST_ENTRIES
returns-then-n-gt-MOST_ENTRIES c =
    let a = c.args in
    let range = sym c.in_range.ensures ∙ c.if-not-in_range.false in
    let e = refuse-11 (layout_of a.layout) a.keys.now a.values.now a.header a.out.now range c.if-n-values.false c.if-n-gt-MOST_ENTRIES.true in
    record { answer = e.0; bytes = e.1 }

pub returns-then-not-ascending : goal.returns-then-not-ascending
returns-then-not-ascending c =
    let a = c.args in
    let range = sym c.in_range.ensures ∙ c.if-not-in_range.false in
    let e =
    refuse-12 (layout_of a.layout) a.keys.now a.values.now a.header a.out.now range c.if-n-values.false c.if-n-gt-MOST_ENTRIES.false
    (sym c.ascending.ensures ∙ c.if-not-ascending.true) in
    record { answer = e.0; bytes = e.1 }

pub returns-then-header-gt-LONGEST_HEADER : goal.returns-then-header-gt-LONGEST_HEADER
returns-then-header-gt-LONGEST_HEADER c =
    let a = c.args in
    let range = sym c.in_range.ensures ∙ c.if-not-in_range.false in
    let e =
    refuse-13 (layout_of a.layout) a.keys.now a.values.now a.header a.out.now range c.if-n-values.false c.if-n-gt-MOST_ENTRIES.false
    (sym c.ascending.ensures ∙ c.if-not-ascending.false) c.if-header-gt-LONGEST_HEADER.true in
    record { answer = e.0; bytes = e.1 }

pub returns-then-out-end : goal.returns-then-out-end
returns-then-out-end c =
    let a = c.args in
    let range = sym c.in_range.ensures ∙ c.if-not-in_range.false in
    let e =
    refuse-14 (layout_of a.layout) a.keys.now a.values.now a.header a.out.now range c.if-n-values.false c.if-n-gt-MOST_ENTRIES.false
    (sym c.ascending.ensures ∙ c.if-not-ascending.false) c.if-header-gt-LONGEST_HEADER.false c.plan_of-p.ensures c.if-out-end.true in
    record { answer = e.0; bytes = e.1 }

pub returns-then-not-p : goal.returns-then-not-p
returns-then-not-p c =
    let a = c.args in
    let range = sym c.in_range.ensures ∙ c.if-not-in_range.false in
    let e =
    refuse-16 (layout_of a.layout) a.keys.now a.values.now a.header a.out.now range c.if-n-values.false c.if-n-gt-MOST_ENTRIES.false
    (sym c.ascending.ensures ∙ c.if-not-ascending.false) c.if-header-gt-LONGEST_HEADER.false c.plan_of-p.ensures (omega arith) (not-true _ c.if-not-p.true) in
    record { answer = e.0; bytes = e.1 }

pub returns : goal.returns
returns c =
    let a = c.args in
    let range = sym c.in_range.ensures ∙ c.if-not-in_range.false in
    let e =
    accepted (layout_of a.layout) a.keys.now a.values.now a.header a.out.now range c.if-n-values.false c.if-n-gt-MOST_ENTRIES.false
    (sym c.ascending.ensures ∙ c.if-not-ascending.false) c.if-header-gt-LONGEST_HEADER.false c.plan_of-p.ensures (omega arith) (not-false _ c.if-not-p.false)
    _ c.put_archive.ensures in
    record { answer = e.0; bytes = e.1 }
