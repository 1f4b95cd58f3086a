-- The first line, and unless the walk is refused the lines of what it left in two lists of 4,096 places.
use Rattle.std.proofs.Common.{◌≡◌, ℕ, ◌≤◌, List, length, replicate, ap, sym, ◌∙◌, arith}
use Rattle.std.proofs.lemmas.List.{length-replicate, length-take}
use Rattle.format.specs.Layout.{server, counts_as}
use Rattle.format.specs.Refusal.{answer_of}
use Rattle.listing.specs.Listing.{title, title_line}
use Rattle.listing.proofs.Listed.{listing-refused, Listed, listed}
use Rattle.listing.proofs.Texts.{put-first, room}
use Rattle.listing.proofs.put_listing.Goals as goal
use Rattle.listing.proofs.put_listing.Goals.{After-put_title, In-Ok}

-- 4,096 zeros, as the two lists are lent.
abbrev zeros : List ℕ
zeros = replicate 4096 0

zeros-long : 4096 ≤ length zeros
zeros-long = omega (arith, length-replicate {A = ℕ} 4096 0)

-- What the text is after a walk that is not refused.
after : (c : In-Ok) → Listed c.args.archive.now zeros zeros c.in-Ok.walk.written
unfolding server counts_as
after c = listed _ _ _ _ _ c.in-Ok.ensures.answer (omega arith) zeros-long zeros-long

few : (c : In-Ok) → c.in-Ok.walk.written ≤ 4096
few c = (after c).few

-- The first line.
first : (c : After-put_title) → c.put_title.new.text ≡ title_line (title c.args.archive.now)
first c = put-first c.put_title.ensures c.requires.empty ∙ ap title_line c.title_of.ensures

pub slice_bounds-keys-end : goal.slice_bounds-keys-end
slice_bounds-keys-end c = omega (arith, few (goal.at.slice_bounds-keys-end c).In-Ok)

pub slice_bounds-values-end : goal.slice_bounds-values-end
slice_bounds-values-end c = omega (arith, few (goal.at.slice_bounds-values-end c).In-Ok)

pub slice_bounds-put_entries-end : goal.slice_bounds-put_entries-end
slice_bounds-put_entries-end c = omega (arith, few (goal.at.slice_bounds-put_entries-end c).In-Ok, length-take {A = ℕ})

pub slice_bounds-put_entries-end-in-Ok : goal.slice_bounds-put_entries-end-in-Ok
slice_bounds-put_entries-end-in-Ok c = omega (arith, few (goal.at.slice_bounds-put_entries-end-in-Ok c).In-Ok, length-take {A = ℕ})

pub put_entries-requires-clause-room : goal.put_entries-requires-clause-room
put_entries-requires-clause-room c =
    let f = first (goal.at.put_entries-requires-clause-room c).After-put_title in
    grind (arith, room, length-take, few (goal.at.put_entries-requires-clause-room c).In-Ok)

pub returns-in_default : goal.returns-in_default
unfolding server counts_as
returns-in_default c = first (goal.at.returns-in_default c).After-put_title ∙ listing-refused _ _ _ _ (sym (ap answer_of c.in_default.is) ∙ c.walk-walked.ensures.answer)

pub returns-in-Ok : goal.returns-in-Ok
unfolding server counts_as
returns-in-Ok c =
    let f = first (goal.at.returns-in-Ok c).After-put_title in
    (after (goal.at.returns-in-Ok c).In-Ok).lines (rw f at c.put_entries.ensures) c.walk-walked.ensures.keys c.walk-walked.ensures.values
