-- Bytes that stand at a position of a list, and that a number or an offset that is written so is read back. Assumes nothing.
use Rattle.std.specs.Prelude.{ℕ, zero, suc, ◌+◌, ◌-◌, ◌^◌, ◌≤◌, ◌<◌, ◌≡◌, refl, true, false, List, [], ◌∷◌, ◌++◌, length, get_or, pos, None, Some}
use Rattle.std.proofs.Common.{sym, ◌∙◌, subst₂, add-zero, add-suc, suc-add, mod-eq_of_lt, not-suc-le-zero, lit≤}
use Rattle.std.proofs.Math.Path.{ap, subst}
use native.Mathlib.Omega.{arith}
use Rattle.std.proofs.Math.Nat.{pow-suc}
use Rattle.std.proofs.Math.IntN.{negsuc, sub_ℕ}
use borrow.Author.Tests.{lt-ltb, eq-eqb, ne_eqb}
use Rattle.format.specs.declared.Position.{Position}
use Rattle.format.specs.Layout.{Width, two, four, eight, bytes, sign_bits, Layout, pointer}
use Rattle.format.specs.Refusal.{gives}
use Rattle.format.specs.Bytes.{le_at, le_bytes}
use Rattle.format.specs.Signed.{twos, of_twos}
use Rattle.format.specs.RelPtr.{fit_signed, signed_offset, stored_offset, absent_offset, at, target, absent}
use Rattle.format.specs.Tree.{emplaced, offset_bytes}
use Rattle.format.proofs.Laws.Numbers.Bytes.{le_at-digits, length-le_bytes, get_or-le_bytes}
use Rattle.format.proofs.Laws.Numbers.RelPtr.{leads-back, fits_gives, offset-ahead, offset-behind, stored-given, absent-next}
use Rattle.format.proofs.Laws.Numbers.Signed.{of_twos-twos}

-- The bytes bs stand in s from p on.
pub data BytesAt (s : List ℕ) : ℕ → List ℕ → Type 0 where
  end : {p : ℕ} → BytesAt s p []
  byte : {p b : ℕ} {bs : List ℕ} → get_or s p 0 ≡ b → BytesAt s (suc p) bs → BytesAt s p (b ∷ bs)

pub stands-left : {s : List ℕ} {p : ℕ} (xs ys : List ℕ) → BytesAt s p (xs ++ ys) → BytesAt s p xs
stands-left [] ys a = end
stands-left (x ∷ xs) ys (byte e a) = byte e (stands-left xs ys a)

stands-right : {s : List ℕ} {p : ℕ} (xs : List ℕ) {ys : List ℕ} → BytesAt s p (xs ++ ys) → BytesAt s (p + length xs) ys
stands-right [] a = rw add-zero a
stands-right {p = p} (x ∷ xs) (byte h a) =
    let e : p + suc (length xs) ≡ suc p + length xs = omega arith in
    rw e (stands-right xs a)

pub stands-next : {s : List ℕ} {p p' : ℕ} (xs : List ℕ) {ys : List ℕ} → p + length xs ≡ p' → BytesAt s p (xs ++ ys) → BytesAt s p' ys
stands-next {s} xs {ys} e a = subst (λ (x : ℕ). BytesAt s x ys) e (stands-right xs a)

pub first_byte : {s : List ℕ} {p b : ℕ} {bs : List ℕ} → BytesAt s p (b ∷ bs) → (get_or s p 0 ≡ b) × BytesAt s (suc p) bs
first_byte (byte e a) = (e, a)

-- ---- where bytes stand in a list

stands-skip : {s : List ℕ} {p x : ℕ} {ys : List ℕ} → BytesAt s p ys → BytesAt (x ∷ s) (suc p) ys
stands-skip end = end
stands-skip (byte e a) = byte e (stands-skip a)

stands-start : (ys zs : List ℕ) → BytesAt (ys ++ zs) 0 ys
stands-start [] zs = end
stands-start (y ∷ ys) zs = byte refl (stands-skip (stands-start ys zs))

pub stands_here : (xs ys zs : List ℕ) → BytesAt (xs ++ (ys ++ zs)) (length xs) ys
stands_here [] ys zs = stands-start ys zs
stands_here (x ∷ xs) ys zs = stands-skip (stands_here xs ys zs)

stands-all : (ys : List ℕ) → BytesAt ys 0 ys
stands-all [] = end
stands-all (y ∷ ys) = byte refl (stands-skip (stands-all ys))

pub stands-end : (xs ys : List ℕ) → BytesAt (xs ++ ys) (length xs) ys
stands-end [] ys = stands-all ys
stands-end (x ∷ xs) ys = stands-skip (stands-end xs ys)

pub stands-as : {s s' : List ℕ} {p p' : ℕ} {ys : List ℕ} → s ≡ s' → p ≡ p' → BytesAt s p ys → BytesAt s' p' ys
stands-as {ys = ys} es ep a = subst₂ (λ (x : List ℕ) (y : ℕ). BytesAt x y ys) es ep a

-- ---- what is written is read back

stands-get : (s bs : List ℕ) (p k : ℕ) → BytesAt s p bs → k < length bs → get_or s (p + k) 0 ≡ get_or bs k 0
stands-get s [] p k a l = absurd (not-suc-le-zero l)
stands-get s (b ∷ bs) p zero (byte e a) l = rw add-zero e
stands-get s (b ∷ bs) p (suc k) (byte e a) l = rw (add-suc, ← suc-add p k) (stands-get s bs (suc p) k a (omega arith))

pub read_back : {s : List ℕ} {p : ℕ} (w x : ℕ) → x < 256 ^ w → BytesAt s p (le_bytes w x) → le_at w s p ≡ x
read_back {s} {p} w x h a =
    le_at-digits w x s p (λ k l. stands-get s (le_bytes w x) p k a (rw length-le_bytes l) ∙ get_or-le_bytes w x k l) ∙ mod-eq_of_lt h

-- ---- offsets

-- A number of the pointer's width has a sign and `sign_bits` other bits.
width-bits : (w : Width) → 256 ^ bytes w ≡ 2 ^ suc (sign_bits w)
width-bits two = refl
width-bits four = refl
width-bits eight = refl

pub wide : (w : Width) → 65536 ≤ 256 ^ bytes w
wide two = lit≤ tt
wide four = lit≤ tt
wide eight = lit≤ tt

difference-back : (q f : ℕ) → q < f → sub_ℕ q f ≡ negsuc (f - q - 1)
difference-back q f h = rw (lt-ltb q f h) (ap negsuc (omega arith))

-- The offset back from f to q, as it is written.
twos_back : (h f q : ℕ) → q < f → twos h (sub_ℕ q f) ≡ 2 ^ suc h - (f - q)
unfolding twos
twos_back h f q l = rw (difference-back q f l) (omega arith)

-- Neither 15 nor 16 arises where a position lies before the field, less far than the width reaches.
pub offset-fits : (h f q : ℕ) → q < f → f - q ≤ 2 ^ h → f - q ≤ 2 ^ 63 → stored_offset h f q ≡ gives (sub_ℕ q f)
offset-fits h f q l near short =
    let m = f - q - 1 in
    let e : signed_offset f q ≡ gives (negsuc m) = offset-behind f q l ∙ fits_gives 63 15 (negsuc m) (omega arith) in
    stored-given h f q (negsuc m) e ∙ fits_gives h 16 (negsuc m) (omega arith) ∙ ap gives (sym (difference-back q f l))

-- The mark of absence is 1, but for the largest position.
pub absent-fits : (h f : ℕ) → 1 < 2 ^ h → f + 1 < 2 ^ 64 → absent_offset h f ≡ gives (pos 1)
absent-fits h f big l =
    let e : f + 1 - f ≡ 1 = omega arith in
    absent-next h f l
    ∙ stored-given h f (f + 1) (pos 1) (offset-ahead f (f + 1) (omega arith) ∙ ap (λ (d : ℕ). fit_signed 63 15 (pos d)) e ∙ fits_gives 63 15 (pos 1) (lit≤ tt))
    ∙ fits_gives h 16 (pos 1) big

pub bits-least : (w : Width) → 1 < 2 ^ sign_bits w
bits-least two = lit≤ tt
bits-least four = lit≤ tt
bits-least eight = lit≤ tt

bits_most : (w : Width) → 2 ^ sign_bits w ≤ 2 ^ 63
bits_most two = lit≤ tt
bits_most four = lit≤ tt
bits_most eight = lit≤ tt

module _ (L : Layout) (s : List ℕ) where
  -- A field that is written so leads back to q, and is not absent.
  pub offset-back : (f : ℕ) (q : Position) → q.0 < f → f - q.0 ≤ 2 ^ sign_bits L.width → BytesAt s f (offset_bytes L f (Some q))
      → (target L s f ≡ at q.0) × (absent L s f ≡ false)
  unfolding target absent
  offset-back f q h far a₀ =
      let hb = sign_bits L.width in
      let e = width-bits L.width in
      let most = bits_most L.width in
      let ep = pow-suc 2 hb in
      let big = wide L.width in
      let m = f - q.0 - 1 in
      let et = twos_back hb f q.0 h in
      let a : BytesAt s f (le_bytes (pointer L) (twos hb (sub_ℕ q.0 f))) =
      subst (BytesAt s f) (ap (emplaced L) (offset-fits hb f q.0 h (omega arith) (omega arith))) a₀ in
      let r : le_at (pointer L) s f ≡ twos hb (sub_ℕ q.0 f) = read_back (pointer L) (twos hb (sub_ℕ q.0 f)) (omega arith) a in
      let ez : of_twos hb (le_at (pointer L) s f) ≡ negsuc m =
      ap (of_twos hb) (r ∙ ap (twos hb) (difference-back q.0 f h)) ∙ of_twos-twos hb (negsuc m) (omega arith) in
      let el : f - m - 1 ≡ q.0 = omega arith in
      (leads-back f m (of_twos hb (le_at (pointer L) s f)) ez (omega arith) ∙ ap at el, ne_eqb _ _ (λ (x : le_at (pointer L) s f ≡ 1). omega arith))

  -- The mark of absence.
  pub marked : (f : ℕ) → f < 2 ^ 63 → BytesAt s f (offset_bytes L f None) → absent L s f ≡ true
  unfolding absent twos
  marked f h a =
      let big = wide L.width in
      let a₁ : BytesAt s f (le_bytes (pointer L) 1) =
      subst (BytesAt s f) (ap (emplaced L) (absent-fits (sign_bits L.width) f (bits-least L.width) (omega arith))) a in
      eq-eqb _ _ (read_back (pointer L) 1 (omega arith) a₁)
