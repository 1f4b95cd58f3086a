-- Each turn puts one entry's line behind those that are there.
use Rattle.std.proofs.Common.{◌≡◌, ℕ, ◌<◌, length, get_or, sym, append-nil, arith, rules, length-append}
use Rattle.std.proofs.lemmas.Slice.Zip.{zip_turn}
use Rattle.listing.specs.Listing.{first_lines}
use Rattle.listing.proofs.Texts.{room, line-more}
use Rattle.listing.proofs.put_entries.Goals as goal
use Rattle.listing.proofs.put_entries.Goals.{In-Some}

-- The key and the value of a turn are the next ones.
turn : (c : In-Some)
    → let i = length c.loop-key.yielded in
    (i < length c.args.keys.now)
    × (i < length c.args.values.now)
    × ((d : ℕ) → c.in-Some.key.now ≡ get_or c.args.keys.now i d)
    × ((d : ℕ) → c.in-Some.value.now ≡ get_or c.args.values.now i d)
turn c =
    zip_turn _ _ _ c.into_iter-key-iterator.result _ c.next.new.self _ (search rules) (search rules) c.loop-key.yielded_by _ c.in-Some.is c.next.ensures.steps

pub loop-key-init : goal.loop-key-init
unfolding first_lines
loop-key-init c = sym (append-nil c.args.text.now)

pub put_entry-requires : goal.put_entry-requires
put_entry-requires c = let t = turn (goal.at.put_entry-requires c).In-Some in grind (arith, room, t.0)

pub loop-key-preserved : goal.loop-key-preserved
loop-key-preserved c =
    let t = turn (goal.at.loop-key-preserved c).In-Some in
    line-more c.args.text.now _ _ _ _ (length-append c.loop-key.yielded _) (t.2 0) (t.3 0) c.loop-key.invariant c.put_entry.ensures
