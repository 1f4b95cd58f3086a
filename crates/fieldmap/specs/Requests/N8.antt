-- Document 02, N8, "Archives of 16 and 64-bit pointer width", as theorems. The words in quotes are its own. Assumes nothing.
use Rattle.std.specs.Prelude.{ℕ, ◌+◌, ◌-◌, ◌*◌, ◌^◌, ◌≤◌, ◌<◌, ◌≡◌, true, false, List, ◌↔◌, ◌⊎◌, leb, pos, ◌+ℤ◌, length}
use Rattle.std.proofs.Math.Path.{refl}
use Rattle.std.proofs.Common.{inl, inr}
use Rattle.format.specs.declared.Width.{Width as NamedWidth}
use Rattle.format.specs.declared.Width.TheVariants.{Two, Four, Eight}
use Rattle.format.specs.Layout.{Width, two, eight, sign_bits, Layout, at_width, entries_in_range, pointer, leaf_size, inner_size, record_size}
use Rattle.format.specs.Layout.{record_align, Limits}
use Rattle.format.specs.Refusal.{gives, refuses, provided, RefusesBy}
use Rattle.format.specs.Bytes.{le_at}
use Rattle.format.specs.Signed.{of_twos}
use Rattle.format.specs.RelPtr.{position, target}
use Rattle.format.specs.Check.{counted, root, recorded, check_archive}
use Rattle.format.specs.Tree.{Branch}
use Rattle.format.specs.Build.{height, last_level, tree_of, start, behind, pairs, build, build_length}
use Rattle.format.specs.Built.{Taken}
use Rattle.format.specs.Offsets.{archive_emplaces}
use Rattle.format.specs.Weight.{reach}
use Rattle.format.proofs.Laws.Numbers.Widths.{in-range}
use Rattle.format.proofs.Laws.Check.Refusals.{too_short}
use Rattle.format.proofs.Laws.Build.Taken.{taken, by-16}
use Rattle.format.proofs.Laws.Build.Certifies.{by_number, wide-gives}
use Rattle.fieldmap.specs.Refusals.{wide-build-by, wide-length-by}

-- "Walk, lookup and certification are proved over the width as a parameter": each call that builds,
-- checks or reads is stated at the layout that it is given, and Demands.antt has the demands over every layout.

-- "With 64 bits the leaf is 96 bytes, the inner node 136, the record 16 on 8."
pub record Sizes (w : Width) (leaf inner size on : ℕ) : Type 0 where
  pub leaf-size : leaf_size (at_width w) ≡ leaf
  pub inner-size : inner_size (at_width w) ≡ inner
  pub record-size : record_size (at_width w) ≡ size
  pub record-on : record_align (at_width w) ≡ on

pub n8-with-64-bits : Sizes eight 96 136 16 8
n8-with-64-bits = record { leaf-size = refl; inner-size = refl; record-size = refl; record-on = refl }

-- "With 16 bits they are 96, 104, and 4 on 2."
pub n8-with-16-bits : Sizes two 96 104 4 2
n8-with-16-bits = record { leaf-size = refl; inner-size = refl; record-size = refl; record-on = refl }

module _ (L : Layout) (s : List ℕ) where
  -- "Offset and count take the chosen width": an offset is a signed number of so many bytes, the record's count an unsigned one behind its offset.
  pub n8-offset : (f : ℕ) → target L s f ≡ position (pos f +ℤ of_twos (sign_bits L.width) (le_at (pointer L) s f))
  unfolding target
  n8-offset f = refl

  pub n8-count : recorded L s ≡ le_at (pointer L) s (root L s + pointer L)
  unfolding recorded
  n8-count = refl

  -- "and P and refusal 2 use the chosen record's size instead of 8"
  pub n8-record : root L s ≡ length s - 2 * pointer L
  unfolding root
  n8-record = refl

  pub n8-too-short : (M : Limits) → entries_in_range L ≡ true → length s ≤ M.longest → length s < 2 * pointer L
      → counted (check_archive L M s) ≡ refuses 2
  n8-too-short M i small l = too_short L M s i small l

-- "Builder, check and every reader take one of these three widths from the caller, and no other can be named"
pub n8-three : (w : NamedWidth) → (w ≡ Two) ⊎ ((w ≡ Four) ⊎ (w ≡ Eight))
n8-three Two = inl refl
n8-three Four = inr (inl refl)
n8-three Eight = inr (inr refl)

-- "Refused: 16 also when a 16-bit distance doesn't fit, after 14."
module _ (L : Layout) (least : 3 ≤ L.entries) (most : L.entries ≤ 15) (ks vs : List ℕ) (h room : ℕ) where
  -- The tree of the given entries, and the archive's end.
  abbrev t : Branch
  t = tree_of L (pairs ks vs)

  abbrev end : ℕ
  end = h + length (behind L h t (length ks))

  -- A build is refused by 16 exactly if 10 to 14 let it through and the offset of some field does not fit the width,
  pub n8-exactly : (build L ks vs h room ≡ refuses 16) ↔ (Taken L ks vs h room end × (archive_emplaces L t (start L t h) ≡ false))
  n8-exactly = by-16 L ks vs h room least most

  -- which one distance decides, that from the root's first field.
  pub n8-by-number : (n : ℕ) → Taken L ks vs h room n
      → let m = length ks in
      build L ks vs h room ≡ provided (leb (reach L (height L m - 1) (last_level L m)) (2 ^ sign_bits L.width)) 16 (gives n)
  n8-by-number n T = by_number L ks vs h room least most n T

  -- With 32 and 64 bits it never arises: a build takes exactly what 10 to 14 let through.
  pub n8-wide : 4 ≤ pointer L → RefusesBy 10 14 (build L ks vs h room)
  n8-wide l = (wide-build-by L l ks vs h room).1 (in-range L least most)

  pub n8-wide-takes : 4 ≤ pointer L → (n : ℕ) → (build L ks vs h room ≡ gives n) ↔ Taken L ks vs h room n
  n8-wide-takes l n = (taken L ks vs h room n, wide-gives L ks vs h room least most l n)

  -- The length for so many entries is refused by 11 and 13 alone there.
  pub n8-wide-length : 4 ≤ pointer L → (n r : ℕ) → build_length L n h ≡ refuses r → (r ≡ 11) ⊎ (r ≡ 13)
  n8-wide-length l n r e = (wide-length-by L l n h).1 (in-range L least most) r e
