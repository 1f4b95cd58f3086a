-- Document 01's example: "For case 6 it prints", computed by the definitions. Assumes nothing.
use Rattle.std.specs.Prelude.{◌≡◌, refl, [], ◌∷◌}
use Rattle.format.specs.Layout.{layout32, server, nested}
use Rattle.format.specs.Bytes.{le_at, le_bytes}
use Rattle.format.specs.Signed.{twos, of_twos}
use Rattle.format.specs.RelPtr.{fit_signed, signed_offset, stored_offset, absent_offset, target, absent}
use Rattle.format.specs.Align.{is_alignment, align_step}
use Rattle.format.specs.Node.{kind, slot}
use Rattle.format.specs.Check.{check_body, enter, check_at, check_node, root, recorded, check_root, check_archive}
use Rattle.format.specs.Entries.{slots, list_body, list_at, list}
use Rattle.format.specs.Certify.{hollow, any_body, hollow_at, certify}
use Rattle.format.specs.Tree.{head, leaf_bytes, inner_bytes}
use Rattle.format.specs.Build.{pairs, fill, log_from, height, last_level, tree_of, behind, archive}
use Rattle.text.specs.Decimal.{decimal}
use Rattle.listing.specs.Listing.{title, entry_lines, entries, listing, printed}

-- `certified 1` and `7 9` in ASCII, each with its line's end.
pub case-6 : printed (archive layout32 [] (pairs (7 ∷ []) (9 ∷ [])))
    ≡ 99 ∷ 101 ∷ 114 ∷ 116 ∷ 105 ∷ 102 ∷ 105 ∷ 101 ∷ 100 ∷ 32 ∷ 49 ∷ 10 ∷ 55 ∷ 32 ∷ 57 ∷ 10 ∷ []
unfolding fit_signed signed_offset stored_offset absent_offset is_alignment align_step decimal title entry_lines entries listing printed certify
    hollow any_body hollow_at check_body enter check_at check_node root recorded check_root check_archive slots list_body list_at list kind slot
    target absent twos of_twos le_at le_bytes nested server head leaf_bytes inner_bytes fill log_from height last_level tree_of behind archive
case-6 = refl
