-- The bytes of a closed leaf and of a closed inner node, from what the calls write. Assumes nothing.
use Rattle.std.specs.Prelude.{Option}
use mathlib.Core.Path.{◌≡◌, refl, sym, ap, ◌∙◌}
use mathlib.Core.List.{List, [], ◌∷◌, ◌++◌, map}
use Prim.Native.Nat.{ℕ, zero, suc, ◌+◌, ◌-◌, ◌*◌, ◌/◌, ◌^◌, ◌≤◌}
use native.Mathlib.Nat.{suc-ne-zero, suc_inj}
use native.Mathlib.Omega.{arith}
use lib.ListN.{length, get_or, replicate, length-append, length-map}
use Rattle.format.specs.Layout.{Width, two, four, eight, Layout, bytes, pointer, head_size, leaf_size, inner_size}
use Rattle.format.specs.declared.Position.{Position}
use Rattle.format.specs.Bytes.{le_bytes, put}
use Rattle.format.specs.Tree as tree
use Rattle.format.specs.Tree.{KeyValue, column, head, offset_bytes, lesser_bytes, leaf_bytes, inner_bytes}
use Rattle.nodes.specs.declared.inline_vec.Slot.{Slot}
use Rattle.format.specs.Build.{pairs}
use Rattle.format.proofs.Laws.Build.Given.{length_pairs}
use Rattle.format.proofs.Laws.Build.NodeBytes.{length-column, length-head, length-offset}
use Rattle.format.proofs.Laws.Numbers.Bytes.{length-le_bytes, le_bytes-add}
use Rattle.nodes.specs.Nodes.{child_at, words, picked, lessers, slots_in}
use Rattle.nodes.proofs.Runs.{put_then}

-- Kind byte, keys, values.
head-put : (L : Layout) (s : List ℕ) (p kind : ℕ) (es : List KeyValue) → kind ∷ replicate 7 0 ≡ le_bytes 8 kind → let e = L.entries in
    put s p (head L kind es)
    ≡ put (put (put s p (le_bytes 8 kind)) (p + 8) (column (λ (x : KeyValue). x.key) e es)) (p + 8 + 8 * e) (column (λ (x : KeyValue). x.value) e es)
unfolding head
head-put L s p kind es h =
    let keys = column (λ (x : KeyValue). x.key) L.entries es in
    let values = column (λ (x : KeyValue). x.value) L.entries es in
    ap (λ (l : List ℕ). put s p (l ++ (keys ++ values))) h ∙ put_then s p 8 (le_bytes 8 kind) (keys ++ values) (length-le_bytes 8 kind)
    ∙ put_then _ (p + 8) (8 * L.entries) keys values (length-column _ _ es)

-- ---- a leaf

leaf-size : (L : Layout) → leaf_size L ≡ head_size L + 8
leaf-size L = by L.width
  where
    by : (w : Width) → (head_size L + bytes w + 7) / 8 * 8 ≡ head_size L + 8
    by two = omega arith
    by four = omega arith
    by eight = omega arith

zero-bytes : (n : ℕ) → le_bytes n 0 ≡ replicate n 0
unfolding le_bytes
zero-bytes zero = refl
zero-bytes (suc n) = ap (λ (l : List ℕ). 0 ∷ l) (zero-bytes n)

padded : (a b k : ℕ) → k / 256 ^ a ≡ 0 → le_bytes a k ++ replicate b 0 ≡ le_bytes (a + b) k
padded a b k none = sym (le_bytes-add a b k ∙ ap (λ (x : ℕ). le_bytes a k ++ le_bytes b x) none ∙ ap (λ (l : List ℕ). le_bytes a k ++ l) (zero-bytes b))

-- The count and the zeros behind it are one word.
count-bytes : (w : Width) (k : ℕ) → k ≤ 15 → le_bytes (bytes w) k ++ replicate (8 - bytes w) 0 ≡ le_bytes 8 k
count-bytes two k h = padded 2 6 k (omega arith)
count-bytes four k h = padded 4 4 k (omega arith)
count-bytes eight k h = padded 8 0 k (omega arith)

pair-columns : (n : ℕ) (a b : List ℕ) → length a ≡ length b
    → (words n a ≡ column (λ (x : KeyValue). x.key) n (pairs a b)) × (words n b ≡ column (λ (x : KeyValue). x.value) n (pairs a b))
pair-columns zero a b h = (refl, refl)
pair-columns (suc n) [] [] h =
    let more = pair-columns n [] [] refl in
    (ap (λ (l : List ℕ). le_bytes 8 0 ++ l) more.0, ap (λ (l : List ℕ). le_bytes 8 0 ++ l) more.1)
pair-columns (suc n) [] (y ∷ b) h = absurd (suc-ne-zero (length b) (sym h))
pair-columns (suc n) (x ∷ a) [] h = absurd (suc-ne-zero (length a) h)
pair-columns (suc n) (x ∷ a) (y ∷ b) h =
    let more = pair-columns n a b (suc_inj h) in
    (ap (λ (l : List ℕ). le_bytes 8 x ++ l) more.0, ap (λ (l : List ℕ). le_bytes 8 y ++ l) more.1)

pub leaf-closed : (L : Layout) (s : List ℕ) (p n : ℕ) (ks vs : List ℕ) {o₁ o₂ o₃ : List ℕ} → let e = L.entries in
    length ks ≡ length vs → length ks ≤ e → e ≤ 15 → n ≡ head_size L → o₁ ≡ put s p (le_bytes 8 0)
    → o₂ ≡ put (put o₁ (p + 8) (words e ks)) (p + 8 + 8 * e) (words e vs)
    → o₃ ≡ put o₂ (p + n) (le_bytes 8 (length ks)) → o₃ ≡ put s p (leaf_bytes L (pairs ks vs))
unfolding leaf_bytes le_bytes
leaf-closed L s p n ks vs same h few en e₁ e₂ e₃ =
    let k = length ks in
    let cols = pair-columns L.entries ks vs same in
    let unused : leaf_size L - (head_size L + pointer L) ≡ 8 - pointer L = omega (arith, leaf-size L) in
    rw (e₃, e₂, e₁, en, cols.0, cols.1, length_pairs ks vs same, unused, count-bytes L.width k (omega arith))
    (sym (put_then s p (head_size L) (head L 0 (pairs ks vs)) (le_bytes 8 k) (length-head L 0 _)
    ∙ ap (λ (l : List ℕ). put l (p + head_size L) (le_bytes 8 k)) (head-put L s p 0 (pairs ks vs) refl)))

-- ---- an inner node

-- The entries of the slots: what the lists have at their places.
slot-words : (get : KeyValue → ℕ) (ks vs l : List ℕ) → ((i : ℕ) → get_or l i 0 ≡ get (record { key = get_or ks i 0; value = get_or vs i 0 }))
    → (n : ℕ) (ss : List Slot) → words n (picked l ss) ≡ column get n (map (λ (x : tree.Slot). x.pair) (slots_in ks vs ss))
slot-words get ks vs l g zero ss = refl
slot-words get ks vs l g (suc n) [] = ap (λ (r : List ℕ). le_bytes 8 0 ++ r) (slot-words get ks vs l g n [])
slot-words get ks vs l g (suc n) (s ∷ ss) =
    rw (g s.place) (ap (λ (r : List ℕ). le_bytes 8 (get (record { key = get_or ks s.place 0; value = get_or vs s.place 0 })) ++ r)
    (slot-words get ks vs l g n ss))

slot-lessers : (ks vs : List ℕ) (ss : List Slot) → lessers ss ≡ map (λ (x : tree.Slot). x.lesser) (slots_in ks vs ss)
slot-lessers ks vs [] = refl
slot-lessers ks vs (s ∷ ss) = ap (λ (l : List (Option Position)). child_at s.lesser ∷ l) (slot-lessers ks vs ss)

length-lessers : (L : Layout) (f : ℕ) (cs : List (Option Position)) → length (lesser_bytes L f (length cs) cs) ≡ pointer L * length cs
length-lessers L f [] = omega arith
length-lessers L f (c ∷ cs) =
    length-append (offset_bytes L f c) _ ∙ omega (arith, length-offset L f c, length-lessers L (f + pointer L) cs)

-- With the numbers that the calls answer: the head's size h, the width w, the node's size n, and the bits v of the greater child's offset.
pub inner-closed : (L : Layout) (s : List ℕ) (p h w n v : ℕ) (ks vs : List ℕ) (ss : List Slot) (g : Option Position) {o₁ o₂ o₃ o₄ o₅ : List ℕ} → let e = length ss in
    e ≡ L.entries → h ≡ head_size L → w ≡ pointer L → n ≡ inner_size L → le_bytes (pointer L) v ≡ offset_bytes L (p + h + w * L.entries) g
    → o₁ ≡ put s p (le_bytes 8 1) → o₂ ≡ put (put o₁ (p + 8) (words e (picked ks ss))) (p + 8 + 8 * e) (words e (picked vs ss))
    → o₃ ≡ put o₂ (p + h) (lesser_bytes L (p + h) e (lessers ss)) → o₄ ≡ put o₃ (p + h + w * L.entries) (le_bytes (pointer L) v)
    → o₅ ≡ put o₄ (p + h + w * L.entries + w) (replicate (p + n - (p + h + w * L.entries + w)) 0) → o₅ ≡ put s p (inner_bytes L p (slots_in ks vs ss) g)
unfolding inner_bytes le_bytes
inner-closed L s p h w n v ks vs ss g full eh ew en ev e₁ e₂ e₃ e₄ e₅ =
    let e = L.entries in
    let es = map (λ (x : tree.Slot). x.pair) (slots_in ks vs ss) in
    let f = p + head_size L in
    let fields = lesser_bytes L f e (lessers ss) in
    let last = offset_bytes L (f + pointer L * e) g in
    let unused = replicate {A = ℕ} (inner_size L - (head_size L + pointer L * suc e)) 0 in
    let zeros : p + inner_size L - (f + pointer L * e + pointer L) ≡ inner_size L - (head_size L + pointer L * suc e) = omega arith in
    let many : length (lessers ss) ≡ e = length-map ss (λ (x : Slot). child_at x.lesser) ∙ full in
    let long : length fields ≡ pointer L * e = rw many at (length-lessers L f (lessers ss)) in
    rw (
      e₅,
      e₄,
      e₃,
      e₂,
      e₁,
      ev,
      eh,
      ew,
      en,
      full,
      zeros,
      ← slot-lessers ks vs ss,
      slot-words (λ (x : KeyValue). x.key) ks vs ks (λ i. refl) e ss,
      slot-words (λ (x : KeyValue). x.value) ks vs vs (λ i. refl) e ss,
    )
    (sym (put_then s p (head_size L) (head L 1 es) _ (length-head L 1 es) ∙ put_then _ f (pointer L * e) fields _ long
    ∙ put_then _ (f + pointer L * e) (pointer L) last _ (length-offset L _ g)
    ∙ ap (λ (l : List ℕ). put (put (put l f fields) (f + pointer L * e) last) (f + pointer L * e + pointer L) unused) (head-put L s p 1 es refl)))
