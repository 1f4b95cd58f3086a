-- Laws of relative pointers: one for each way an offset is made or followed. Assumes nothing.
use Rattle.std.specs.Prelude.{◌≡◌, refl, Bool, true, false, ℕ, suc, ◌+◌, ◌-◌, ◌^◌, ◌≤◌, ◌<◌, ℤ, pos, negsuc, ◌+ℤ◌, ltb}
use Rattle.std.proofs.Common.{ap, mod-eq_of_lt, arith, lt-ltb, le-ltb}
use Rattle.std.proofs.Math.IntN.{sub_ℕ}
use Rattle.std.specs.Int.Signed.{mag}
use Rattle.format.specs.Refusal.{gives, refuses, provided}
use Rattle.format.specs.RelPtr.{fit_signed, signed_offset, stored_offset, absent_offset, at, below, position}

-- ---- where an offset leads

pub leads-on : (p n : ℕ) (z : ℤ) → z ≡ pos n → position (pos p +ℤ z) ≡ at (p + n)
leads-on p n z e = rw e

pub leads-back : (p n : ℕ) (z : ℤ) → z ≡ negsuc n → n < p → position (pos p +ℤ z) ≡ at (p - n - 1)
leads-back p n z e l = rw (e, le-ltb p (suc n) l) (ap at (omega arith))

pub leads-below : (p n : ℕ) (z : ℤ) → z ≡ negsuc n → p ≤ n → position (pos p +ℤ z) ≡ below
leads-below p n z e l = rw (e, lt-ltb p (suc n) (omega arith))

-- ---- how an offset is made

pub fits_gives : (h n : ℕ) (z : ℤ) → mag z < 2 ^ h → fit_signed h n z ≡ gives z
unfolding fit_signed
fits_gives h n z l = rw (lt-ltb (mag z) (2 ^ h) l)

pub fits_refused : (h n : ℕ) (z : ℤ) → 2 ^ h ≤ mag z → fit_signed h n z ≡ refuses n
unfolding fit_signed
fits_refused h n z l = rw (le-ltb (mag z) (2 ^ h) l)

pub offset-ahead : (from to : ℕ) → from ≤ to → signed_offset from to ≡ fit_signed 63 15 (pos (to - from))
unfolding signed_offset
offset-ahead from to l = rw (le-ltb to from l)

pub offset-behind : (from to : ℕ) → to < from → signed_offset from to ≡ fit_signed 63 15 (negsuc (from - to - 1))
unfolding signed_offset
offset-behind from to l = rw (lt-ltb to from l) (ap (λ (d : ℕ). fit_signed 63 15 (negsuc d)) (omega arith))

-- The stored offset, by what the signed difference answers.
pub stored_refused : (h from to n : ℕ) → signed_offset from to ≡ refuses n → stored_offset h from to ≡ refuses n
unfolding stored_offset
stored_refused h from to n e = rw e

pub stored-given : (h from to : ℕ) (z : ℤ) → signed_offset from to ≡ gives z → stored_offset h from to ≡ fit_signed h 16 z
unfolding stored_offset
stored-given h from to z e = rw e

pub absent-last : (h p : ℕ) → p ≡ 0xffff_ffff_ffff_ffff → absent_offset h p ≡ stored_offset h p 0
unfolding absent_offset
absent-last h p e = rw e

pub absent-next : (h p : ℕ) → p + 1 < 2 ^ 64 → absent_offset h p ≡ stored_offset h p (p + 1)
unfolding absent_offset
absent-next h p l = rw (mod-eq_of_lt l)

-- ---- a distance has one refusal

-- What one test refuses, it refuses by its own number.
only : (b : Bool) (n k : ℕ) (z : ℤ) → provided b n (gives z) ≡ refuses k → provided b n (gives z) ≡ refuses n
only true n k z e = let x : ◌≡◌ {A = ℕ} 0 1 = cc in absurd (omega arith)
only false n k z e = refl

pub stored-15 : (h from to k : ℕ) → signed_offset from to ≡ refuses k → stored_offset h from to ≡ refuses 15
unfolding signed_offset fit_signed
stored-15 h from to k e = stored_refused h from to 15 (only (ltb (mag (sub_ℕ to from)) (2 ^ 63)) 15 k (sub_ℕ to from) e)
