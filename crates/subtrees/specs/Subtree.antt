-- Where bytes may stand: the tests of a place in a range and of the depth left. Document 01, "src/validation/archive", and "The refusals", 2, 3 and 5.
-- Assumes nothing: these are definitions.
use Rattle.std.specs.Prelude.{ℕ, ◌+◌, ◌%◌, ◌≤◌, ◌≡◌, true, false, leb, ltb, eqb, Result, Ok, Err}
use Rattle.format.specs.declared.Position.{Position}
use Rattle.format.specs.declared.Refusal.{Refusal}
use Rattle.format.specs.declared.Refusal.TheVariants.{InvalidSubtreePointer, UnalignedPointer, ExceededMaximumSubtreeDepth}
use Rattle.subtrees.specs.declared.archive.SubtreeRange.{SubtreeRange}

-- `size` bytes at p: 2, they leave the range from `start` to `end`; 3, they are not on their alignment.
unfoldable pub placed : ℕ → ℕ → ℕ → ℕ → ℕ → Result (Unit {0}) Refusal
placed start end p size align =
    elim (leb start p) [
      | true ↦ elim (leb (p + size) end) [
        | true ↦ elim (eqb (p % align) 0) [ true ↦ Ok tt | false ↦ Err UnalignedPointer ]
        | false ↦ Err InvalidSubtreePointer
      ]
      | false ↦ Err InvalidSubtreePointer
    ]

-- 5: "entering would bring depth to 0".
abbrev pub shallow : ℕ → Result (Unit {0}) Refusal
shallow depth = elim (ltb 1 depth) [ true ↦ Ok tt | false ↦ Err ExceededMaximumSubtreeDepth ]

unfoldable pub opened : ℕ → ℕ → ℕ → ℕ → ℕ → ℕ → Result (Unit {0}) Refusal
opened start end depth p size align = elim (placed start end p size align) [ Ok u ↦ shallow depth | Err r ↦ Err r ]

-- What a place in the range is.
pub record Held (start end p size align : ℕ) : Type 0 where
  pub low : start ≤ p
  pub high : p + size ≤ end
  pub even : p % align ≡ 0

-- "Inside it the range ends at the node's start"
abbrev pub pushed : SubtreeRange → Position → SubtreeRange
pushed range root = record { start = range.start; end = root }

-- "after it the range starts at the node's end and the old end returns"
abbrev pub popped : SubtreeRange → Position → SubtreeRange
popped range end = record { start = end; end = range.end }
