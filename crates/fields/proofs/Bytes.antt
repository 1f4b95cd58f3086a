-- The bytes that std reads and writes are the format's. Assumes nothing.
use Rattle.std.specs.Prelude.{◌≡◌, refl, List, ◌++◌, ℕ, zero, suc, ◌+◌, ◌-◌, ◌/◌, ◌^◌, ◌≤◌, ◌<◌, length, get_or, take, drop, replicate}
use Rattle.std.proofs.Common.{ap, ◌∙◌, append_assoc, zero-add, arith, le_refl, length-take, length-drop, get_or-drop, get_or-take}
use Rattle.std.proofs.lemmas.List.{get_or_append_left, get_or-append_right, get_or-replicate, take_at, drop-drop}
use Rattle.std.proofs.lemmas.List.Edits.{sets-eq}
use mir.Val.{Fits}
use Rattle.std.specs.Int.{w8, w64, from_le_bytes, to_le_bytes}
use native.Mathlib.Nat.{div-div-eq-div-mul}
use borrow.Rule.Slice.PartMut.{put_mid}
use Rattle.format.specs.Bytes.{le_at, le_bytes, put}
use Rattle.format.proofs.Laws.Numbers.Bytes.{le_at-lt, le_at-add, le_bytes-add, length-le_bytes}

-- ---- a number that is read

from_8 : (bs : List ℕ) → from_le_bytes w64 bs ≡ le_at 8 bs 0
unfolding le_at
from_8 bs = omega arith

same : (n : ℕ) (s t : List ℕ) (p q : ℕ) → ((k : ℕ) → k < n → get_or t (q + k) 0 ≡ get_or s (p + k) 0) → le_at n t q ≡ le_at n s p
unfolding le_at
same zero s t p q h = refl
same (suc n) s t p q h = rw (h n (le_refl (suc n)), same n s t p q (λ k l. h k (omega arith))) refl

nothing : (n : ℕ) (t : List ℕ) (q : ℕ) → ((k : ℕ) → k < n → get_or t (q + k) 0 ≡ 0) → le_at n t q ≡ 0
unfolding le_at
nothing zero t q h = refl
nothing (suc n) t q h = rw (h n (le_refl (suc n)), nothing n t q (λ k l. h k (omega arith))) (omega arith)

module _ (n p : ℕ) (s ys : List ℕ) (few : n ≤ 8) (inside : p + n ≤ length s) (e : ys ≡ take (p + n - p) (drop p s)) where
  abbrev all : List ℕ
  all = ys ++ drop n (replicate 8 0)

  part : ys ≡ take n (drop p s)
  part = let m : p + n - p ≡ n = omega arith in rw m at e

  len : length ys ≡ n
  len = rw (part, length-take, length-drop) (omega arith)

  front : (k : ℕ) → k < n → get_or all (0 + k) 0 ≡ get_or s (p + k) 0
  front k l =
      rw (zero-add, get_or_append_left ys (drop n (replicate 8 0)) 0 k (rw len l), part, get_or-take n (drop p s) k 0 l) (get_or-drop p s k 0)

  back : (k : ℕ) → k < 8 - n → get_or all (0 + n + k) 0 ≡ 0
  back k l =
      let m : 0 + n + k - n ≡ k = omega arith in
      rw (get_or-append_right ys (drop n (replicate 8 0)) n (0 + n + k) 0 len (omega arith), m, get_or-drop {A = ℕ} n (replicate 8 0) k 0) (get_or-replicate 8 (n + k) 0 0 (omega arith))

  pub number_is : from_le_bytes w64 all ≡ le_at n s p
  number_is =
      let eight : 8 ≡ n + (8 - n) = omega arith in
      from_8 all ∙ ap (λ (k : ℕ). le_at k all 0) eight ∙ le_at-add n (8 - n) all 0
      ∙ rw (same n s all p 0 front, nothing (8 - n) all (0 + n) back) (omega arith)

  pub number_lt : ((k : ℕ) → Fits w8 (get_or s k 0)) → from_le_bytes w64 all < 256 ^ n
  number_lt b = rw number_is (le_at-lt n s p (λ k. (b k).fits))

-- ---- a number that is written

to_8 : (v : ℕ) → to_le_bytes w64 v ≡ le_bytes 8 v
unfolding le_bytes
to_8 v = simp div-div-eq-div-mul

low : (n v : ℕ) → n ≤ 8 → take n (le_bytes 8 v) ≡ le_bytes n v
low n v few =
    let eight : 8 ≡ n + (8 - n) = omega arith in
    ap (λ (k : ℕ). take n (le_bytes k v)) eight ∙ rw (le_bytes-add n (8 - n) v) (take_at (le_bytes n v) (le_bytes (8 - n) (v / 256 ^ n)) n (length-le_bytes n v))

pub written_is : (n v p : ℕ) (s ys bs : List ℕ) → n ≤ 8 → p + n ≤ length s → bs ≡ to_le_bytes w64 v → ys ≡ take n bs → put_mid p (p + n - p) s ys ≡ put s p (le_bytes n v)
written_is n v p s ys bs few inside b e =
    let k : p + (p + n - p) ≡ p + n = omega arith in
    let m : length (le_bytes n v) ≡ n = length-le_bytes n v in
    rw (e, b, to_8 v, low n v few, drop-drop (p + n - p) p s, k, sets-eq (le_bytes n v) s p (rw m inside), m, append_assoc) refl
