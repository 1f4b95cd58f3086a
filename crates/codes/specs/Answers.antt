-- Answers as one signed number, and what lent numbers hold afterwards. Assumes nothing: these are definitions.
use Rattle.std.specs.Prelude.{ℕ, zero, suc, ◌≤◌, Bool, true, false, ◌≡◌, ◌⊎◌, eqb, ℤ, pos, negsuc, neg_ℤ, ◌≤ℤ◌, ◌<ℤ◌, None, Option, Some}
use Rattle.format.specs.declared.Entry.{Entry}
use Rattle.std.specs.declared.ops.Bound.{Bound}
use Rattle.std.specs.declared.ops.Bound.TheVariants.{Included, Excluded, Unbounded}
use Rattle.format.specs.declared.Packing.{Packing}
use Rattle.format.specs.declared.Packing.TheVariants.{TwosComplement, Plus128}
use Rattle.format.specs.declared.Width.{Width}
use Rattle.format.specs.declared.Width.TheVariants.{Two, Four, Eight}
use Rattle.format.specs.Layout.{Layout, width_of, Limits, counts_as}
use Rattle.format.specs.Refusal.{Answer, gives, refuses}
use Rattle.format.specs.declared.Step.{Step}
use Rattle.format.specs.declared.Matched.{Matched}
use Rattle.format.specs.declared.Walk.{Walk}

-- An answer as one number: that of what is given, from 0 on, or minus the refusal's.
abbrev pub coded : {A : Type 0} → (A → ℕ) → Answer A → ℤ
coded f (gives a) = pos (f a)
coded f (refuses r) = neg_ℤ (pos r)

-- A number of a refusal: one of 1 to 18, or 24.
abbrev pub Listed : ℕ → Type 0
Listed r = ((1 ≤ r) × (r ≤ 18)) ⊎ (r ≡ 24)

-- What the number z of a call tells: from 0 on that something is given, below 0 that it is refused, by a listed number.
abbrev pub Tells : {A : Type 0} → ℤ → Answer A → Type 0
Tells z (gives a) = pos 0 ≤ℤ z
Tells z (refuses r) = (z <ℤ pos 0) × Listed r

-- What a place that held x holds afterwards: a part of what is given, or x on a refusal.
abbrev pub stored : {A B : Type 0} → (A → B) → Answer A → B → B
stored f (gives a) x = f a
stored f (refuses r) x = x

-- Of a lookup, 1 for an entry and 0 for none.
abbrev pub found_flag : Option Entry → ℕ
found_flag (Some e) = 1
found_flag None = 0

-- How many bytes the value's part of the archive has: eight, or none where no entry is found.
abbrev pub part_length : Option Entry → ℕ
part_length (Some e) = 8
part_length None = 0

-- The length that an answer tells: the number, or 0 where it is below 0.
abbrev pub length_told : ℤ → ℕ
length_told (pos n) = n
length_told (negsuc n) = 0

-- 1 for seen, and 0.
abbrev pub seen_flag : Bool → ℕ
seen_flag true = 1
seen_flag false = 0

-- What a place that held x holds after a lookup: a part of the entry, or x where there is none.
abbrev pub stored_found : (Entry → ℕ) → Answer (Option Entry) → ℕ → ℕ
stored_found f (gives (Some e)) x = f e
stored_found f (gives None) x = x
stored_found f (refuses r) x = x

-- The parts of what is given, by name.
abbrev pub entry_value : Entry → ℕ
entry_value e = e.value

abbrev pub entry_position : Entry → ℕ
entry_position e = e.position.0

abbrev pub walk_written : Walk → ℕ
walk_written w = w.written

abbrev pub walk_count : Walk → ℕ
walk_count w = w.count

abbrev pub range_written : Matched → ℕ
range_written m = m.written

abbrev pub range_matching : Matched → ℕ
range_matching m = m.matching

abbrev pub step_next : Step → ℕ
step_next s = s.next

abbrev pub step_zeros : Step → ℕ
step_zeros s = s.zeros

-- A bound by its kind and key.
abbrev pub bound_of : ℕ → ℕ → Bound ℕ
bound_of zero k = Included k
bound_of (suc zero) k = Excluded k
bound_of (suc (suc n)) k = Unbounded

-- A packing by its number.
abbrev pub packing_of : ℕ → Packing
packing_of zero = TwosComplement
packing_of (suc n) = Plus128

-- A width by its bits: 16, 64, and 32 for any other number.
abbrev pub width_by : ℕ → Width
width_by n = elim (eqb n 16) [ true ↦ Two | false ↦ elim (eqb n 64) [ true ↦ Eight | false ↦ Four ] ]

-- A layout by the width's bits and the entries a node.
abbrev pub layout_by : ℕ → ℕ → Layout
layout_by bits e = record { width = width_of (width_by bits); entries = e }

-- Limits by the longest archive in bytes and the depth: what they count as.
abbrev pub limits_by : ℕ → ℕ → Limits
limits_by longest depth = counts_as (record { longest = longest; depth = depth })
