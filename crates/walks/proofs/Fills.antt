-- Laws of a walk that writes to two lists: at full lists, from their fronts, and many slots at once. Assumes nothing.
use Rattle.std.specs.Prelude.{◌≡◌, ℕ, zero, suc, ◌+◌, ◌*◌, ◌≤◌, min, List, length, set, map}
use Rattle.std.proofs.Math.Path.{refl}
use Rattle.std.proofs.Common.{sym, ap, subst, ◌∙◌, add-one, arith, length-set}
use Rattle.format.specs.declared.Entry.{Entry}
use Rattle.format.specs.Layout.{Layout, keys_from, values_from}
use Rattle.format.specs.Bytes.{le_at}
use Rattle.format.specs.Node.{slot}
use Rattle.format.specs.Entries.{slots}
use Rattle.format.specs.Written.{Out, out, put, fill, walked}
use Rattle.format.proofs.Laws.Read.Written.{runs_none, runs-cons, put-room, fill-full, all-filled}
use Rattle.std.specs.List.{range_with_len}
use Rattle.std.proofs.lemmas.List.Edits.{sets}

pub full-kept : (es : List Entry) (ks vs : List ℕ) (n : ℕ) → min (length ks) (length vs) ≤ n → out ks vs n ≡ fill es (out ks vs n)
full-kept es ks vs n h = sym (fill-full es ks vs n h)

pub walk-done : (es : List Entry) (ks vs : List ℕ) (o : Out) → o ≡ fill es (out ks vs 0) → o ≡ walked es ks vs
walk-done es ks vs o e = e ∙ all-filled es ks vs

-- ---- many slots at once, where both lists have room

sets-more : (f : ℕ → ℕ) (l : List ℕ) (start i n : ℕ)
    → sets (set l start (f i)) (start + 1) (map f (range_with_len (suc i) n)) ≡ sets l start (map f (range_with_len i (suc n)))
sets-more f l start i n = rw (add-one start, add-one i) refl

module _ (L : Layout) (s : List ℕ) (p : ℕ) where
  abbrev numbers : ℕ → ℕ → ℕ → List ℕ
  numbers from i n = map (λ (k : ℕ). le_at 8 s (p + from + 8 * k)) (range_with_len i n)

  slots-set : (n i : ℕ) (ks vs : List ℕ) (start : ℕ) → start + n ≤ length ks → start + n ≤ length vs
      → fill (slots L s p n i) (out ks vs start) ≡ out (sets ks start (numbers keys_from i n)) (sets vs start (numbers (values_from L) i n)) (start + n)
  unfolding slots slot
  slots-set zero i ks vs start h g = let z : start + 0 ≡ start = omega arith in rw z (runs_none put (out ks vs start))
  slots-set (suc n) i ks vs start h g =
      let e = slot L s p i in
      let z : start + 1 + n ≡ start + suc n = omega arith in
      let k : start + 1 + n ≤ length (set ks start e.key) = simp length-set (omega arith) in
      let v : start + 1 + n ≤ length (set vs start e.value) = simp length-set (omega arith) in
      let keys = sets-more (λ (x : ℕ). le_at 8 s (p + keys_from + 8 * x)) ks start i n in
      let values = sets-more (λ (x : ℕ). le_at 8 s (p + values_from L + 8 * x)) vs start i n in
      runs-cons put e (slots L s p n (suc i)) (out ks vs start)
      ∙ ap (fill (slots L s p n (suc i))) (put-room e ks vs start (omega arith) (omega arith))
      ∙ slots-set n (suc i) (set ks start e.key) (set vs start e.value) (start + 1) k v
      ∙ cc (keys, values, z)

  -- The code reads the keys as a and the values as b, these from x on.
  pub slots_put : (n : ℕ) (ks vs : List ℕ) (start : ℕ) (a b : List ℕ) (x : ℕ) → start + n ≤ length ks → start + n ≤ length vs
      → a ≡ map (λ (k : ℕ). le_at 8 s (p + 8 + 8 * k)) (range_with_len 0 n) → x ≡ values_from L
      → b ≡ map (λ (k : ℕ). le_at 8 s (p + x + 8 * k)) (range_with_len 0 n)
      → out (sets ks start a) (sets vs start b) (start + n) ≡ fill (slots L s p n 0) (out ks vs start)
  slots_put n ks vs start a b x h g ea ex eb =
      let read : b ≡ numbers (values_from L) 0 n = subst (λ (y : ℕ). b ≡ numbers y 0 n) ex eb in
      cc (slots-set n 0 ks vs start h g)
