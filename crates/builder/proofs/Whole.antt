-- The archive is put together from its parts. Assumes nothing.
use Rattle.std.specs.Prelude.{Option}
use mathlib.Core.Path.{◌≡◌, refl, sym, ap, ap₂, ◌∙◌}
use mathlib.Core.Bool.{Bool, true}
use mathlib.Core.List.{List, [], ◌∷◌, ◌++◌}
use Prim.Native.Nat.{ℕ, zero, suc, ◌+◌, ◌-◌, ◌^◌, ◌≤◌, ◌<◌}
use native.Mathlib.Omega.{arith}
use borrow.Author.Tests.{le-leb}
use lib.ListN.{length, replicate, length-replicate}
use Rattle.format.specs.Layout.{Width, two, four, eight, bytes, sign_bits, Layout, pointer, node_align, record_size}
use Rattle.format.specs.declared.Position.{Position}
use Rattle.format.specs.Bytes.{le_bytes, put}
use Rattle.format.specs.Align.{is_alignment, zeros_to}
use Rattle.format.specs.Tree.{offset_bytes, Branch, none_b, some_b, length_branch, child_of, write_branch, KeyValue}
use Rattle.format.specs.Weight.{weight, reach}
use Rattle.format.specs.Build.{log_from, height, last_level, tree_of, first_align, record_bytes, behind}
use Rattle.format.specs.TreeShape.{There}
use Rattle.format.proofs.Laws.Build.NodeBytes.{length-offset, length-write_branch}
use Rattle.format.proofs.Laws.Build.Weight.{tree-weighs}
use Rattle.format.proofs.Laws.Build.Built.{behind-length, tree-there}
use Rattle.nodes.proofs.Runs.{put_then}
use Rattle.builder.specs.declared.size.Levels.{Levels}
use Rattle.builder.specs.Size.{Named, first_align_of, nodes_of, end_of, reach_of, fits_width, Leveled, Planned}
use Rattle.builder.proofs.Levels.{fits}

-- ---- the start

pub record-aligns : (w : Width) → (0 < bytes w) × (bytes w ≤ 8) × (is_alignment (bytes w) ≡ true)
unfolding is_alignment
record-aligns two = (omega arith, omega arith, refl)
record-aligns four = (omega arith, omega arith, refl)
record-aligns eight = (omega arith, omega arith, refl)

-- ---- the end

module _ (L : Layout) where
  pub first-align : (es : List KeyValue) → 0 < L.entries → first_align L (tree_of L es) ≡ first_align_of L (length es)
  unfolding tree_of
  first-align [] some = refl
  first-align (e ∷ es) some = there (tree_of L (e ∷ es)) (tree-there L e es some)
    where
      there : (b : Branch) → There b → first_align L b ≡ node_align
      there none_b t = absurd t
      there (some_b x) t = refl

  -- The archive's end is that of the formula.
  pub end_is : (es : List KeyValue) (h n : ℕ) → 0 < L.entries → length es ≡ n → h + length (behind L h (tree_of L es) n) ≡ end_of L n h
  end_is es h n some e =
      let b = behind-length L h n (tree_of L es) in
      let a = ap (λ (x : ℕ). zeros_to x h) (first-align es some) in
      let w = tree-weighs L es some in
      omega (arith, b, a, w) ∙ ap (λ (x : ℕ). end_of L x h) e

-- ---- the bytes

module _ (L : Layout) where
  -- The record: the offset q, as the field holds it, and the count.
  pub record-by : (out o₁ o₂ : List ℕ) (p n q w : ℕ) (c : Option Position) → w ≡ pointer L → le_bytes (pointer L) q ≡ offset_bytes L p c
      → o₁ ≡ put out p (le_bytes (pointer L) q) → o₂ ≡ put o₁ (p + w) (le_bytes (pointer L) n) → o₂ ≡ put out p (record_bytes L p c n)
  record-by out o₁ o₂ p n q w c ew e e₁ e₂ =
      e₂
      ∙ ap₂ (λ (o : List ℕ) (x : ℕ). put o (p + x) (le_bytes (pointer L) n)) (e₁ ∙ ap (put out p) e) ew
      ∙ sym (put_then out p (pointer L) (offset_bytes L p c) (le_bytes (pointer L) n) (length-offset L p c))

  -- Zeros, the nodes and the record, one after the other.
  pub behind-by : (b : Branch) (h n a s q : ℕ) (c : Option Position) (out o₁ o₂ o₃ : List ℕ) → first_align L b ≡ a → s ≡ h + zeros_to a h
      → q ≡ s + length_branch L b → c ≡ child_of L b s
      → o₁ ≡ put out h (replicate (s - h) 0) → o₂ ≡ put o₁ s (write_branch L b s) → o₃ ≡ put o₂ q (record_bytes L q c n)
      → o₃ ≡ put out h (behind L h b n)
  unfolding behind
  behind-by b h n a s q c out o₁ o₂ o₃ ea es eq ec e₁ e₂ e₃ =
      let z = zeros_to (first_align L b) h in
      let p = h + z in
      let r = record_bytes L (p + length_branch L b) (child_of L b p) n in
      let ep : s ≡ p = es ∙ ap (λ (x : ℕ). h + zeros_to x h) (sym ea) in
      let ez : s - h ≡ z = omega (arith, ep) in
      let o : List ℕ = put out h (replicate z 0) in
      e₃
      ∙ ap₂ (λ (x : ℕ) (y : Option Position). put o₂ x (record_bytes L x y n)) (eq ∙ ap (λ (x : ℕ). x + length_branch L b) ep) (ec ∙ ap (child_of L b) ep)
      ∙ ap (λ (x : List ℕ). put x (p + length_branch L b) r)
      (e₂ ∙ ap₂ (λ (x : List ℕ) (y : ℕ). put x y (write_branch L b y)) (e₁ ∙ ap (λ (x : ℕ). put out h (replicate x 0)) ez) ep)
      ∙ sym (put_then o p (length_branch L b) (write_branch L b p) r (length-write_branch L b p))
      ∙ sym (put_then out h z (replicate z 0) (write_branch L b p ++ r) (length-replicate z 0))

-- ---- what is known before a byte is written

-- No entries make no nodes.
module _ (L : Layout) where
  pub none_last : last_level L 0 ≡ 0
  unfolding last_level
  none_last = omega arith

  pub none-height : height L 0 - 1 ≡ 0
  unfolding height log_from
  none-height = refl

  none-weight : weight L 0 0 ≡ 0
  unfolding weight
  none-weight = refl

  none-nodes : nodes_of L 0 ≡ 0
  none-nodes = ap₂ (weight L) none-height none_last ∙ none-weight

module _ (L : Layout) (n h : ℕ) where
  pub none-planned : n ≡ 0 → (s w r : ℕ) → s ≡ h + zeros_to w h → w ≡ pointer L → r ≡ record_size L
      → Planned L n h (record { entries = 0; above = 0; last = 0; first = s; end = s + r; fits = true })
  none-planned z s w r es ew er =
      let first = es ∙ ap (λ (x : ℕ). h + zeros_to x h) ew in
      let far : reach_of L 0 ≡ 0 = ap (λ (x : ℕ). reach L x (last_level L 0)) (none-height L) in
      rw z
      (record {
        entries = refl;
        above = sym (none-height L);
        last = sym (none_last L);
        first = first;
        end = omega (arith, first, er, none-nodes L);
        fits = sym (le-leb (reach_of L 0) (2 ^ sign_bits L.width) (omega (arith, far)));
      })

  pub some-planned : (N : Named L n) (p : 0 < n) {v : Levels} (K : Leveled L n v) (s w r : ℕ) (b : Bool) → s ≡ h + zeros_to node_align h → w ≡ nodes_of L n
      → r ≡ record_size L → b ≡ fits_width L n
      → Planned L n h (record { entries = n; above = v.above; last = n - (v.power - 1); first = s; end = s + w + r; fits = b })
  some-planned N p {v} K s w r b es ew er eb =
      let first : s ≡ h + zeros_to (first_align_of L n) h = es ∙ ap (λ (x : ℕ). h + zeros_to x h) (sym (some-align n p)) in
      record { entries = refl; above = K.above; last = (fits L n N p K).last; first = first; end = omega (arith, first, ew, er); fits = eb }
    where
      some-align : (n : ℕ) → 0 < n → first_align_of L n ≡ node_align
      some-align zero p = absurd (omega arith)
      some-align (suc n) p = refl
