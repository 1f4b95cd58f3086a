-- Document 02, N2, "Bounds sorted out before the scan", as theorems. The words in quotes are its own. Assumes nothing.
use Rattle.std.specs.Prelude.{ℕ, ◌^◌, ◌<◌, ◌≡◌, true, ◌&&◌, List, None}
use Rattle.std.specs.declared.ops.Bound.{Bound}
use Rattle.std.specs.declared.ops.Bound.TheVariants.{Included, Excluded, Unbounded}
use Rattle.format.specs.Layout.{Layout, Limits}
use Rattle.format.specs.Bytes.{AllBytes}
use Rattle.format.specs.Entries.{list}
use Rattle.format.specs.Range.{key_meets_lower, key_meets_upper, select, crosses, range, Fits, ends_of, holds, held}
use Rattle.format.proofs.Laws.Range.Ends.{ends-hold, excluded-at-0-below, excluded-at-0-above, open-below, open_above, crossed-nothing, range-ends}
use Rattle.format.proofs.Laws.Range.Ends.{excluded-at-the-largest-below, excluded-at-the-largest-above}

-- `ends::ends_of` gives `ends_of` of the two bounds, before the first node

-- "for every key these numbers and the two bounds say the same"
pub n2-every-key : (lower upper : Bound ℕ) (k : ℕ) → k < 2 ^ 64 → holds (ends_of lower upper) k ≡ (key_meets_lower lower k && key_meets_upper upper k)
n2-every-key lower upper k h = ends-hold lower upper k h

-- "also for one excluded at 0 or at the largest key"
pub n2-excluded-at-0-below : (upper : Bound ℕ) → ends_of (Excluded 0) upper ≡ ends_of (Included 1) upper
n2-excluded-at-0-below upper = excluded-at-0-below upper

pub n2-excluded-at-0-above : (lower : Bound ℕ) → ends_of lower (Excluded 0) ≡ None
n2-excluded-at-0-above lower = excluded-at-0-above lower

pub n2-excluded-at-the-largest-below : (upper : Bound ℕ) → Fits upper → ends_of (Excluded 0xffff_ffff_ffff_ffff) upper ≡ None
n2-excluded-at-the-largest-below upper f = excluded-at-the-largest-below upper f

pub n2-excluded-at-the-largest-above : (lower : Bound ℕ) → ends_of lower (Excluded 0xffff_ffff_ffff_ffff) ≡ ends_of lower (Included 0xffff_ffff_ffff_fffe)
n2-excluded-at-the-largest-above lower = excluded-at-the-largest-above lower

-- "open" on either side, and bounds that cross.
pub n2-open-below : (upper : Bound ℕ) → ends_of Unbounded upper ≡ ends_of (Included 0) upper
n2-open-below upper = open-below upper

pub n2-open-above : (lower : Bound ℕ) → ends_of lower Unbounded ≡ ends_of lower (Included 0xffff_ffff_ffff_ffff)
n2-open-above lower = open_above lower

pub n2-crossed : (lower upper : Bound ℕ) → crosses lower upper ≡ true → ends_of lower upper ≡ None
n2-crossed lower upper c = crossed-nothing lower upper c

-- "Range's contract and answers are the same before and after": the range by which its contract is stated has the entries that the numbers select.
pub n2-range : (L : Layout) (M : Limits) (s : List ℕ) → AllBytes s → (lower upper : Bound ℕ)
    → range L M s lower upper ≡ select (held (ends_of lower upper)) (list L M s)
n2-range L M s b lower upper = range-ends lower upper L s b M
