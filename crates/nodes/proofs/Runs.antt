-- Bytes that calls write one after the other: zeros, words, and two columns of words at once. Assumes nothing.
use mathlib.Core.Path.{◌≡◌, refl, sym, ap, ◌∙◌}
use mathlib.Core.List.{List, [], ◌∷◌, ◌++◌, append_assoc}
use Prim.Native.Nat.{ℕ, zero, suc, ◌+◌, ◌-◌, ◌*◌, ◌<◌, ◌≤◌}
use native.Mathlib.Nat.{sub-zero}
use native.Mathlib.Omega.{arith}
use lib.ListN.{length, get_or, set, replicate, take, drop, length-map, length-replicate, length-take, length-drop}
use lib.Seq.{drop-cons, set_comm}
use borrow.Rule.Slice.PartMut.{put_mid}
use Rattle.std.proofs.lemmas.Slice.{put_mid-paste}
use Rattle.std.proofs.lemmas.List.Edits.{paste_all, sets-eq}
use Rattle.format.specs.Bytes.{le_bytes, put}
use Rattle.format.proofs.Laws.Numbers.Bytes.{put-append, length-le_bytes}
use Rattle.format.proofs.Laws.Build.NodeBytes.{length-column}
use Rattle.nodes.specs.declared.inline_vec.Slot.{Slot}
use Rattle.nodes.specs.Nodes.{words, picked, Within}

-- A part of the output is filled with zeros.
pub zeros_filled : (s ys : List ℕ) (from to : ℕ) → from ≤ to → to ≤ length s → ys ≡ replicate (length (take (to - from) (drop from s))) 0
    → put_mid from (to - from) s ys ≡ put s from (replicate (to - from) 0)
zeros_filled s ys from to h l e =
    let k = to - from in
    let bs : List ℕ = replicate k 0 in
    let many : length bs ≡ k = length-replicate k 0 in
    let all : length (take k (drop from s)) ≡ k = simp (length-take, length-drop) (omega arith) in
    put_mid-paste from k s ys bs k (rw all at e) refl (sym many) ∙ paste_all s from bs k (sym many)
    ∙ sym (sets-eq bs s from (omega (arith, many)) ∙ rw many (append_assoc (take from s) bs (drop (from + k) s)))

-- Bytes, and more behind them.
pub put_then : (s : List ℕ) (p n : ℕ) (a b : List ℕ) → length a ≡ n → put s p (a ++ b) ≡ put (put s p a) (p + n) b
put_then s p n a b h = put-append s p a b ∙ ap (λ (x : ℕ). put (put s p a) (p + x) b) h

-- ---- runs that do not overlap

set_before : (s : List ℕ) (i x p : ℕ) (b : List ℕ) → i < p → put (set s i x) p b ≡ set (put s p b) i x
set_before s i x p [] h = refl
set_before s i x p (y ∷ b) h =
    ap (λ (l : List ℕ). put l (suc p) b) (set_comm s i p x y (λ e. omega arith)) ∙ set_before (set s p y) i x (suc p) b (omega arith)

exchange : (s : List ℕ) (p : ℕ) (a : List ℕ) (q : ℕ) (b : List ℕ) → p + length a ≤ q → put (put s p a) q b ≡ put (put s q b) p a
exchange s p [] q b h = refl
exchange s p (x ∷ a) q b h =
    exchange (set s p x) (suc p) a q b (omega arith) ∙ ap (λ (l : List ℕ). put l (suc p) a) (set_before s p x q b (omega arith))

-- Two runs, and more behind each of them.
both-then : (s : List ℕ) (p n : ℕ) (a c : List ℕ) (q m : ℕ) (b d : List ℕ) → length a ≡ n → length b ≡ m → p + n + length c ≤ q
    → put (put (put (put s p a) q b) (p + n) c) (q + m) d ≡ put (put s p (a ++ c)) q (b ++ d)
both-then s p n a c q m b d h g r =
    ap (λ (l : List ℕ). put l (q + m) d) (sym (exchange (put s p a) (p + n) c q b r)) ∙ sym (put_then _ q m b d g)
    ∙ ap (λ (l : List ℕ). put l q (b ++ d)) (sym (put_then s p n a c h))

-- ---- columns of words

zero-words : (n : ℕ) → words n [] ≡ replicate (8 * n) 0
unfolding le_bytes
zero-words zero = refl
zero-words (suc n) =
    let e : 8 * suc n ≡ suc (suc (suc (suc (suc (suc (suc (suc (8 * n)))))))) = omega arith in
    rw e (ap (λ (l : List ℕ). le_bytes 8 0 ++ l) (zero-words n))

words_more : (l : List ℕ) (e : ℕ) → length l ≤ e → words e l ≡ words (length l) l ++ replicate (8 * (e - length l)) 0
words_more [] e h = rw sub-zero (zero-words e)
words_more (x ∷ l) zero h = absurd (omega arith)
words_more (x ∷ l) (suc e) h =
    let a : suc e - suc (length l) ≡ e - length l = omega arith in
    rw (a, append_assoc (le_bytes 8 x) (words (length l) l) (replicate (8 * (e - length l)) 0))
    (ap (λ (r : List ℕ). le_bytes 8 x ++ r) (words_more l e (omega arith)))

length-words : (n : ℕ) (l : List ℕ) → length (words n l) ≡ 8 * n
length-words n l = length-column (λ (x : ℕ). x) n l

-- The words from the j-th on to the k-th of two lists, written to two columns of e places.
abbrev pub rest : (at e k : ℕ) (ks vs out : List ℕ) (j : ℕ) → List ℕ
rest at e k ks vs out j = put (put out (at + 8 * j) (words (k - j) (drop j ks))) (at + 8 * e + 8 * j) (words (k - j) (drop j vs))

-- A word is written to each column: what is left to write is what was left.
pub rest-step : (at e k : ℕ) (ks vs out : List ℕ) (j x y : ℕ) {o₁ o₂ r : List ℕ} → j < k → k ≤ e → k ≤ length ks → k ≤ length vs
    → x ≡ get_or ks j 0 → y ≡ get_or vs j 0 → o₁ ≡ put out (at + 8 * j) (le_bytes 8 x) → o₂ ≡ put o₁ (at + 8 * e + 8 * j) (le_bytes 8 y)
    → rest at e k ks vs out j ≡ r → rest at e k ks vs o₂ (j + 1) ≡ r
rest-step at e k ks vs out j x y h f hk hv ex ey e₁ e₂ g =
    let b : k - j ≡ suc (k - suc j) = omega arith in
    let c : j + 1 ≡ suc j = omega arith in
    let d : at + 8 * suc j ≡ at + 8 * j + 8 = omega arith in
    let d' : at + 8 * e + 8 * suc j ≡ at + 8 * e + 8 * j + 8 = omega arith in
    let more = words (k - suc j) (drop (suc j) ks) in
    let room : at + 8 * j + 8 + length more ≤ at + 8 * e + 8 * j = omega (arith, length-words (k - suc j) (drop (suc j) ks)) in
    rw (c, d, d', e₂, e₁, ex, ey)
    (both-then out (at + 8 * j) 8 (le_bytes 8 (get_or ks j 0)) more (at + 8 * e + 8 * j) 8 (le_bytes 8 (get_or vs j 0)) _
    (length-le_bytes 8 _) (length-le_bytes 8 _) room
    ∙ rw (b, drop-cons ks j 0 (omega arith), drop-cons vs j 0 (omega arith)) at g)

-- Two columns of e places have the words of two lists, then zeros.
abbrev Filled : (s : List ℕ) (at e : ℕ) (ks vs out : List ℕ) → Type 0
Filled s at e ks vs out = out ≡ put (put s at (words e ks)) (at + 8 * e) (words e vs)

pub columns-filled : (s : List ℕ) (at e : ℕ) (ks vs : List ℕ) {o₁ o₂ o₃ : List ℕ} → length ks ≡ length vs → length ks ≤ e
    → o₁ ≡ put (put s at (words (length ks) ks)) (at + 8 * e) (words (length vs) vs)
    → o₂ ≡ put o₁ (at + 8 * length ks) (replicate (at + 8 * e - (at + 8 * length ks)) 0)
    → o₃ ≡ put o₂ (at + 8 * e + 8 * length ks) (replicate (at + 16 * e - (at + 8 * e + 8 * length ks)) 0) → Filled s at e ks vs o₃
columns-filled s at e ks vs same h e₁ e₂ e₃ =
    let k = length ks in
    let a : at + 8 * e - (at + 8 * k) ≡ 8 * (e - k) = omega arith in
    let b : at + 16 * e - (at + 8 * e + 8 * k) ≡ 8 * (e - k) = omega arith in
    let room : at + 8 * k + length {A = ℕ} (replicate (8 * (e - k)) 0) ≤ at + 8 * e = rw length-replicate (omega arith) in
    let all : words e vs ≡ words k vs ++ replicate (8 * (e - k)) 0 = rw same (words_more vs e (omega arith)) in
    rw (e₃, e₂, e₁, a, b, words_more ks e h, all, ← same)
    (both-then s at (8 * k) (words k ks) _ (at + 8 * e) (8 * k) (words k vs) _ (length-words k _) (length-words k _) room)

pub columns-full : (s : List ℕ) (at e : ℕ) (ks vs : List ℕ) {o : List ℕ} → length ks ≡ length vs → length ks ≤ e → e ≤ length ks
    → o ≡ put (put s at (words (length ks) ks)) (at + 8 * e) (words (length vs) vs) → Filled s at e ks vs o
columns-full s at e ks vs same h g eo =
    let full : e ≡ length ks = omega arith in
    rw (eo, full, same)

-- ---- words at the places of slots

pub within-get : {m n : ℕ} → m ≡ n → (ss : List Slot) (j : ℕ) (d : Slot) → Within m ss → j < length ss → (get_or ss j d).place < n
within-get e [] j d w l = absurd (omega arith)
within-get e (s ∷ ss) zero d w l = omega (arith, w.0)
within-get e (s ∷ ss) (suc j) d w l = within-get e ss j d w.1 (omega arith)

picked-get : (l : List ℕ) (ss : List Slot) (j : ℕ) (d : Slot) → j < length ss → get_or l (get_or ss j d).place 0 ≡ get_or (picked l ss) j 0
picked-get l [] j d h = absurd (omega arith)
picked-get l (s ∷ ss) zero d h = refl
picked-get l (s ∷ ss) (suc j) d h = picked-get l ss j d (omega arith)

-- The same as `rest-step`, for the words at the places of slots.
pub slots-step : (at : ℕ) (ks vs : List ℕ) (ss : List Slot) (out : List ℕ) (j : ℕ) (d : Slot) {o₁ o₂ r : List ℕ} → let e = length ss in j < e
    → o₁ ≡ put out (at + 8 * j) (le_bytes 8 (get_or ks (get_or ss j d).place 0))
    → o₂ ≡ put o₁ (at + 8 * e + 8 * j) (le_bytes 8 (get_or vs (get_or ss j d).place 0))
    → rest at e e (picked ks ss) (picked vs ss) out j ≡ r → rest at e e (picked ks ss) (picked vs ss) o₂ (j + 1) ≡ r
slots-step at ks vs ss out j d h e₁ e₂ g =
    let long : (l : List ℕ) → length ss ≤ length (picked l ss) = λ l. rw length-map (omega arith) in
    rest-step at (length ss) (length ss) (picked ks ss) (picked vs ss) out j _ _ h (omega arith) (long ks) (long vs)
    (picked-get ks ss j d h) (picked-get vs ss j d h) e₁ e₂ g
