-- `readers::lookup_bytes` meets its contract. Assumes nothing.
use mathlib.Core.Path.{refl, sym, ap, ◌∙◌}
use Rattle.format.specs.Refusal.{answer_of}
use native.Mathlib.Omega.{arith}
use Rattle.format.proofs.Laws.Numbers.Limits.{within-server}
use Rattle.format.proofs.Laws.Calls.Accepted.{entries-few, node, bytes-refuses, bytes-none, bytes_gives, place-refuses, place_none, place-gives}
use Rattle.lookups.proofs.Finds.{same_place}
use Rattle.readers.proofs.Told.{root-requires}
use Rattle.readers.proofs.lookup_bytes.Goals as goal

pub returns-in_default : goal.returns-in_default
returns-in_default c =
    let refused = sym c.check.ensures ∙ ap answer_of c.in_default.is in
    record { place = same_place refl (omega arith) ∙ sym (place-refuses _ _ _ _ refused _ _); bytes = sym (bytes-refuses _ _ _ _ refused _) }

pub returns-then-count-eq0 : goal.returns-then-count-eq0
returns-then-count-eq0 c =
    let accepted = sym c.check.ensures ∙ ap answer_of c.in-Ok.is in record {
      place = same_place refl (omega arith) ∙ sym (place_none _ _ _ _ accepted (search) _ _);
      bytes = sym (bytes-none _ _ _ _ accepted (search) _);
    }

pub root_of-requires : goal.root_of-requires
root_of-requires c =
    root-requires _ _ _ _ (sym c.check.ensures ∙ ap answer_of c.in-Ok.is) (search)

pub get_bytes-requires : goal.get_bytes-requires
get_bytes-requires c =
    let accepted = sym c.check.ensures ∙ ap answer_of c.in-Ok.is in
    (entries-few _ _ _ _ accepted, node _ _ _ _ accepted (search) _ c.root_of.ensures (within-server _))

pub returns : goal.returns
returns c =
    let accepted = sym c.check.ensures ∙ ap answer_of c.in-Ok.is in
    let leads = c.root_of.ensures in record {
      place = c.get_bytes.ensures.place ∙ sym (place-gives _ _ _ _ accepted (search) _ leads (within-server _) _ _);
      bytes = c.get_bytes.ensures.bytes ∙ sym (bytes_gives _ _ _ _ accepted (search) _ leads (within-server _) _);
    }
