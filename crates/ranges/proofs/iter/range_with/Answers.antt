-- `ranges::iter::range_with` meets its contract: the ends that are decided on select what the bounds select.
use Rattle.std.specs.Prelude.{None}
use Rattle.std.proofs.Common.{arith, sym, ◌∙◌}
use Rattle.format.specs.Layout.{layout_of, server, nested}
use Rattle.format.specs.Bytes.{AllBytes}
use Rattle.format.specs.Entries.{list_at}
use Rattle.format.proofs.Laws.Range.Ends.{none-held, node-ends}
use Rattle.ranges.proofs.EntryByEntry.{range-written}
use Rattle.ranges.proofs.Ranges.{none_written}
use Rattle.ranges.proofs.iter.range_with.Goals as goal

pub returns-in_default : goal.returns-in_default
returns-in_default c =
    let a = c.args in
    let bytes : AllBytes a.archive.now = λ k. (c.type_inv.archive k).fits in
    let same = node-ends a.lower a.upper (layout_of a.layout) _ bytes (nested server) a.root.0 None (sym c.in_default.is ∙ c.ends_of.ensures) in
    let done = none_written _ a.keys.now a.values.now (same ∙ none-held (list_at (layout_of a.layout) a.archive.now (nested server) a.root.0)) in
    record { written_after = done.0; matching_value = done.1 }

pub returns : goal.returns
returns c =
    let a = c.args in
    let bytes : AllBytes a.archive.now = λ k. (c.type_inv.archive k).fits in
    let same = node-ends a.lower a.upper (layout_of a.layout) _ bytes (nested server) a.root.0 _ (sym c.in-Some.is ∙ c.ends_of.ensures) in
    let run = c.range_node-matching in
    let done = range-written _ _ _ _ _ run.ensures run.auto.keys run.auto.values (omega arith) in
    rw same (record { written_after = done.0; matching_value = done.1 })
