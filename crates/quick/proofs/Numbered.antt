-- The layout of a width and of the entries a node as numbers, and where an offset leads back to in these numbers. Assumes nothing.
use mathlib.Core.Path.{◌≡◌, refl, sym, ap, ◌∙◌}
use mathlib.Core.List.{List}
use Prim.Native.Nat.{ℕ, suc, ◌+◌, ◌-◌, ◌*◌, ◌%◌, ◌^◌, ◌<◌, ◌≤◌}
use native.Mathlib.Nat.{mul_assoc}
use native.Mathlib.Omega.{arith}
use borrow.Author.Tests.{ne_eqb}
use Rattle.format.specs.Layout.{Layout, Width, two, four, eight, bytes, sign_bits, pointer, head_size, leaf_size, inner_size}
use Rattle.format.specs.Bytes.{le_at}
use Rattle.format.specs.RelPtr.{target, absent}
use Rattle.format.specs.Node.{child}
use Rattle.format.specs.Readable.{LeadsTo}
use Rattle.format.proofs.Laws.Numbers.Widths.{bytes-some, bytes-few, area, reach, field_is}
use Rattle.offsets.proofs.Offsets.{leads-behind}
use Rattle.quick.specs.Sizes.{width_for, numbered}

pub fields_fit : (w n : ℕ) → bytes (width_for w) ≡ w → n ≤ 16 → w * n ≤ 128
fields_fit w n wide h = area w n (omega (arith, bytes-few (width_for w), wide)) h

-- Leaves are a multiple of 8 bytes.
pub leaves-even : (e k : ℕ) → (16 + 16 * e) * k % 8 ≡ 0
leaves-even e k =
    let is : (16 + 16 * e) * k ≡ 16 * ((1 + e) * k) = ap (λ (n : ℕ). n * k) (omega arith) ∙ mul_assoc 16 (1 + e) k in
    omega (arith, is)

pub leaf-is : (L : Layout) → leaf_size L ≡ head_size L + 8
leaf-is L = omega (arith, bytes-some L.width, bytes-few L.width)

-- The bits of an offset.
pub big : (v : Width) → 0x1_0000 ≤ 2 ^ suc (sign_bits v)
big two = omega arith
big four = omega arith
big eight = omega arith

pub more-bits : (v : Width) (w : ℕ) → bytes v ≡ w → (w ≡ 2 → ⊥) → 0x1_0000_0000 ≤ 2 ^ suc (sign_bits v)
more-bits two w e h = absurd (h (sym e))
more-bits four w e h = omega arith
more-bits eight w e h = omega arith

-- x is the offset that the code reads at the field f, and `ones` are the bits of -1.
pub leads-by : (L : Layout) (s : List ℕ) (f x ones : ℕ) → x ≡ le_at (pointer L) s f → x < 2 ^ suc (sign_bits L.width)
    → ones ≡ 2 ^ suc (sign_bits L.width) - 1 → ones - x < x → ones - x < f → LeadsTo L s f (f - 1 - (ones - x))
unfolding target absent
leads-by L s f x ones e l o g k =
    let m = big L.width in
    record {
      present = ne_eqb (le_at (pointer L) s f) 1 (λ z. omega (arith, m, o, e, g, z));
      leads = rw (o, ← e) (leads-behind (sign_bits L.width) f x l (omega (arith, o, g)) (omega (arith, o, k)));
    }

-- The field that the code computes is child i's, and it lies in the archive.
pub child-is : (w e p i : ℕ) → bytes (width_for w) ≡ w → p + (8 + 16 * e) + w * i ≡ child (numbered w e) p i
child-is w e p i wide = field_is (numbered w e) p i _ w refl (sym wide)

pub field-near : (w e p i end : ℕ) → bytes (width_for w) ≡ w → p + inner_size (numbered w e) ≤ end → i ≤ e → p + (8 + 16 * e) + w * i + w ≤ end
field-near w e p i end wide h l = omega (arith, child-is w e p i wide, wide, reach (numbered w e) p end i h l)
