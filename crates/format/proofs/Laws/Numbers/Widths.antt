-- Bounds of a layout's width and of its entries a node, and where an inner node's fields lie. Assumes nothing.
use Rattle.std.specs.Prelude.{◌≡◌, ℕ, suc, ◌+◌, ◌*◌, ◌≤◌, ◌<◌, true, leb}
use Rattle.std.proofs.Common.{mul-le-mul, mul-le-mul_left, mul-suc, arith, leb-true, le-leb}
use Rattle.format.specs.declared.Layout.{Layout as NamedLayout}
use Rattle.format.specs.declared.Width.TheVariants.{Four}
use Rattle.format.specs.Layout.{Width, two, four, eight, bytes, Layout, entries_in_range, layout_of, layout32, pointer, head_size, inner_size}
use Rattle.format.specs.Node.{child}
use Rattle.format.proofs.Laws.Numbers.Tests.{and-true}

pub bytes-some : (w : Width) → 0 < bytes w
bytes-some two = omega arith
bytes-some four = omega arith
bytes-some eight = omega arith

pub bytes-few : (w : Width) → bytes w ≤ 8
bytes-few two = omega arith
bytes-few four = omega arith
bytes-few eight = omega arith

pub in-range : (L : Layout) → 3 ≤ L.entries → L.entries ≤ 15 → entries_in_range L ≡ true
in-range L least most = (and-true _ _).1 (le-leb 3 L.entries least, le-leb L.entries 15 most)

pub range-in : (L : Layout) → entries_in_range L ≡ true → (3 ≤ L.entries) × (L.entries ≤ 15)
range-in L e = let t = (and-true (leb 3 L.entries) (leb L.entries 15)).0 e in (leb-true _ _ t.0, leb-true _ _ t.1)

-- The fields of an inner node take at most 128 bytes.
pub area : (w n : ℕ) → w ≤ 8 → n ≤ 16 → w * n ≤ 128
area w n a b = mul-le-mul a b

within : (w i n : ℕ) → i ≤ n → w * i + w ≤ w * suc n
within w i n h = let g : suc i ≤ suc n = omega arith in rw (← mul-suc) (mul-le-mul_left w g)

-- They lie in the node.
pub reach : (L : Layout) (p end i : ℕ) → p + inner_size L ≤ end → i ≤ L.entries → child L p i + pointer L ≤ end
reach L p end i h l = omega (arith, within (pointer L) i L.entries l)

-- A field that is computed with n and w as sizes.
pub field_is : (L : Layout) (p i n w : ℕ) → n ≡ head_size L → w ≡ pointer L → p + n + w * i ≡ child L p i
field_is L p i n w e f = rw (e, f)

-- The layout of four bytes and five entries is the common one.
pub common-is : (l : NamedLayout) → l.width ≡ Four → l.entries ≡ 5 → layout_of l ≡ layout32
common-is l w e = rw (w, e)
