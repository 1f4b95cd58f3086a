-- The bytes of a node and of a tree: how many they are, and the offset fields of an inner node by its children. Assumes nothing.
use Rattle.std.specs.Prelude.{ℕ, zero, suc, ◌+◌, ◌-◌, ◌*◌, ◌%◌, ◌≤◌, ◌<◌, ◌≡◌, refl, ℤ, length, replicate, None, Option, Some}
use Rattle.format.specs.declared.Position.{Position}
use Rattle.std.proofs.Common.{sym, ◌∙◌, arith, length-append}
use Rattle.std.proofs.Math.Path.{ap}
use mathlib.Core.List.{List, [], ◌∷◌, ◌++◌, map, append_assoc}
use Rattle.std.proofs.lemmas.List.{length-replicate}
use Rattle.format.specs.Layout.{sign_bits, Layout, pointer, head_size, inner_size}
use Rattle.format.specs.Refusal.{Answer, gives, refuses}
use Rattle.format.specs.RelPtr.{stored_offset, absent_offset}
use Rattle.format.specs.Tree.{Slot, column, head, emplaced, offset_bytes, lesser_bytes, leaf_bytes, inner_bytes, Tree, leaf_t, inner_t, Branches, KeyValue}
use Rattle.format.specs.Tree.{last_b, more_b, Branch, none_b, some_b, length_t, length_branches, length_branch, top_t, child_of, slots_of, greater_of}
use Rattle.format.specs.Tree.{write_t, write_branches, write_branch}
use Rattle.format.specs.TreeShape.{own, field_b, fields_b}
use Rattle.format.proofs.Laws.Numbers.Bytes.{length-le_bytes}

pub length-column : {A : Type 0} (get : A → ℕ) (n : ℕ) (es : List A) → length (column get n es) ≡ 8 * n
length-column get zero es = refl
length-column get (suc n) [] = simp (length-append, length-le_bytes) (omega (arith, length-column get n []))
length-column get (suc n) (e ∷ es) = simp (length-append, length-le_bytes) (omega (arith, length-column get n es))

module _ (L : Layout) where
  length-emplaced : (a : Answer ℤ) → length (emplaced L a) ≡ pointer L
  length-emplaced (gives z) = length-le_bytes _ _
  length-emplaced (refuses r) = length-le_bytes _ _

  pub length-head : (k : ℕ) (es : List KeyValue) → length (head L k es) ≡ head_size L
  unfolding head
  length-head k es = simp (length-append, length-column) (omega arith)

  pub length-offset : (f : ℕ) (c : Option Position) → length (offset_bytes L f c) ≡ pointer L
  length-offset f (Some q) = length-emplaced (stored_offset (sign_bits L.width) f q.0)
  length-offset f None = length-emplaced (absent_offset (sign_bits L.width) f)

  pub length-field_b : (k : Branch) (b f : ℕ) → length (field_b L k b f) ≡ pointer L
  length-field_b k b f = length-offset f (child_of L k b)

  -- ---- the bytes of an inner node, by its branches

  own-pairs : (bs : Branches) (p : ℕ) → map (λ (x : Slot). x.pair) (slots_of L bs p) ≡ own bs
  own-pairs (last_b b) p = refl
  own-pairs (more_b b e bs) p = ap (λ (l : List KeyValue). e ∷ l) (own-pairs bs (p + length_branch L b))

  lesser-fields : (bs : Branches) (p f : ℕ)
      → lesser_bytes L f (length (own bs)) (map (λ (x : Slot). x.lesser) (slots_of L bs p))
      ++ offset_bytes L (f + pointer L * length (own bs)) (greater_of L bs p)
      ≡ fields_b L bs p f
  lesser-fields (last_b b) p f = ap (λ (x : ℕ). offset_bytes L x (child_of L b p)) (omega arith)
  lesser-fields (more_b b e bs) p f =
      let c = child_of L b p in
      let q = p + length_branch L b in
      let n = length (own bs) in
      let e₁ : f + pointer L * suc n ≡ f + pointer L + pointer L * n = omega arith in
      append_assoc (offset_bytes L f c) (lesser_bytes L (f + pointer L) n (map (λ (x : Slot). x.lesser) (slots_of L bs q)))
      (offset_bytes L (f + pointer L * suc n) (greater_of L bs q))
      ∙ ap (λ (l : List ℕ). offset_bytes L f c ++ l)
      (ap (λ (x : ℕ). lesser_bytes L (f + pointer L) n (map (λ (x : Slot). x.lesser) (slots_of L bs q)) ++ offset_bytes L x (greater_of L bs q)) e₁
      ∙ lesser-fields bs q (f + pointer L))

  abbrev pub inner_pad : List ℕ
  inner_pad = replicate (inner_size L - (head_size L + pointer L * suc L.entries)) 0

  pub inner-fields : (bs : Branches) (p top : ℕ) → length (own bs) ≡ L.entries
      → inner_bytes L top (slots_of L bs p) (greater_of L bs p) ≡ head L 1 (own bs) ++ (fields_b L bs p (top + head_size L) ++ inner_pad)
  unfolding inner_bytes
  inner-fields bs p top e =
      let f = top + head_size L in
      let ls = map (λ (x : Slot). x.lesser) (slots_of L bs p) in
      let g = greater_of L bs p in
      ap (λ (l : List KeyValue). head L 1 l ++ (lesser_bytes L f L.entries ls ++ (offset_bytes L (f + pointer L * L.entries) g ++ inner_pad))) (own-pairs bs p)
      ∙ ap (λ (l : List ℕ). head L 1 (own bs) ++ l)
      (sym (append_assoc (lesser_bytes L f L.entries ls) (offset_bytes L (f + pointer L * L.entries) g) inner_pad)
      ∙ ap (λ (l : List ℕ). l ++ inner_pad) (ap (λ (n : ℕ). lesser_bytes L f n ls ++ offset_bytes L (f + pointer L * n) g) (sym e) ∙ lesser-fields bs p f))

  -- ---- the length of what is written

  length-lesser : (f n : ℕ) (cs : List (Option Position)) → length (lesser_bytes L f n cs) ≡ pointer L * n
  length-lesser f zero cs = omega arith
  length-lesser f (suc n) [] = simp (length-append, length-replicate) (omega (arith, length-lesser (f + pointer L) n []))
  length-lesser f (suc n) (c ∷ cs) = simp (length-append, length-offset) (omega (arith, length-lesser (f + pointer L) n cs))

  mutual
    unfolding leaf_bytes inner_bytes

    length-write_t : (t : Tree) (b : ℕ) → length (write_t L t b) ≡ length_t L t
    length-write_t (leaf_t es) b = simp (length-append, length-head, length-le_bytes, length-replicate) (omega arith)
    length-write_t (inner_t ks) b =
        simp (length-append, length-head, length-lesser, length-offset, length-replicate) (omega (arith, length-write_branches ks b))

    pub length-write_branches : (ks : Branches) (b : ℕ) → length (write_branches L ks b) ≡ length_branches L ks
    length-write_branches (last_b k) b = length-write_branch k b
    length-write_branches (more_b k e ks) b = simp length-append (omega (arith, length-write_branch k b, length-write_branches ks (b + length_branch L k)))

    pub length-write_branch : (k : Branch) (b : ℕ) → length (write_branch L k b) ≡ length_branch L k
    length-write_branch none_b b = refl
    length-write_branch (some_b t) b = length-write_t t b

module _ (L : Layout) where
  mutual
    pub eight_t : (t : Tree) → length_t L t % 8 ≡ 0
    eight_t (leaf_t es) = omega arith
    eight_t (inner_t ks) = let h = eight_branches ks in omega arith

    pub eight_branches : (ks : Branches) → length_branches L ks % 8 ≡ 0
    eight_branches (last_b k) = eight_branch k
    eight_branches (more_b k e ks) = let h = eight_branch k in let h' = eight_branches ks in omega arith

    pub eight_branch : (k : Branch) → length_branch L k % 8 ≡ 0
    eight_branch none_b = refl
    eight_branch (some_b t) = eight_t t

  pub top_in : (t : Tree) (b : ℕ) → (b ≤ top_t L t b) × (top_t L t b < b + length_t L t)
  top_in (leaf_t es) b = omega arith
  top_in (inner_t ks) b = omega arith
