-- Document 02, N9, "Fewer or more entries a node", as theorems. The words in quotes are its own. Assumes nothing.
use Rattle.std.specs.Prelude.{ℕ, suc, ◌+◌, ◌-◌, ◌*◌, ◌/◌, ◌^◌, ◌≤◌, ◌<◌, ◌≡◌, false, List, [], ◌↔◌, ◌⊎◌, ℤ, length}
use Rattle.std.proofs.Math.Path.{refl, ap}
use Rattle.std.proofs.Common.{inl, inr, arith}
use Rattle.std.specs.declared.ops.Bound.{Bound}
use Rattle.format.specs.declared.Packing.{Packing}
use Rattle.format.specs.Layout.{Width, four, Layout, entries_in_range, leaf_size, inner_size, Limits, server, nested}
use Rattle.format.specs.Refusal.{Answer, gives, refuses, From}
use Rattle.format.specs.Check.{Checked, refused, counted, check_body, check_archive}
use Rattle.format.specs.Certify.{certify}
use Rattle.format.specs.Calls.{column_call, column_keys, column_values}
use Rattle.format.specs.Build.{log_from, height, last_level, pairs, build, build_length, out_by, out_after}
use Rattle.format.proofs.Laws.Check.Refusals.{check-by, certify-by, leaf-6, only-24}
use Rattle.fieldmap.specs.Refusals.{build-by, length-by, column-refused-by}
use Rattle.format.specs.Calls.{lookup_call, bytes_call, place_call, walk_call, walk_keys, walk_values, range_call, range_keys, range_values}
use Rattle.format.specs.Node.{leaf, leaf_count}
use Rattle.format.proofs.Laws.Build.Height.{height-log}
use Rattle.format.proofs.Laws.Calls.Accepted.{is-archive, lookup-refuses, bytes-refuses, place-refuses, walk-refuses, walk-keys-refuses, walk-values-refuses}
use Rattle.format.proofs.Laws.Calls.Certified.{range-refuses, range-keys-refuses, range-values-refuses, column-uncertified}
use Rattle.format.proofs.Laws.Build.Longest.{height-most}
use Rattle.format.proofs.Laws.Build.Lengths.{build-most}

-- "Every size follows from it": the sizes of `Layout` are functions of the layout alone. "With 4-byte pointers a leaf is 16 + 16e bytes and an inner node
-- 12 + 20e rounded up to 8."
pub n9-leaf : (e : ℕ) → leaf_size (record { width = four; entries = e }) ≡ 16 + 16 * e
n9-leaf e = omega arith

pub n9-inner : (e : ℕ) → inner_size (record { width = four; entries = e }) ≡ (12 + 20 * e + 7) / 8 * 8
n9-inner e = ap (λ (n : ℕ). (n + 7) / 8 * 8) (omega arith)

module _ (L : Layout) (least : 3 ≤ L.entries) (most : L.entries ≤ 15) where
  -- "and in document 01's height and last level e + 1 replaces 6": the height is 1 + floor (log n) to that base.
  pub n9-height : (n : ℕ) → 0 < n → (suc L.entries ^ (height L n - 1) ≤ n) × (n < suc L.entries ^ height L n)
  n9-height n some = height-log L (omega arith) n some

  pub n9-last-level : (n : ℕ) → last_level L n ≡ n - (suc L.entries ^ (height L n - 1) - 1)
  unfolding last_level
  n9-last-level n = refl

  -- "Limits of 40,000 entries and depth 16 hold for every e": so many entries have at most 8 levels, of 14 that the check lets through, and an archive that
  -- is built of them, behind whatever header, is not too long for it. With 3 entries a node they have 8.
  pub n9-levels : (n : ℕ) → 0 < n → n ≤ 40000 → height L n ≤ 8
  n9-levels n some few = height-most L least most n some few

  pub n9-nested : nested server ≡ 14
  unfolding server nested
  n9-nested = refl

  pub n9-within : (ks vs : List ℕ) (h room n : ℕ) → build L ks vs h room ≡ gives n → n ≤ 1048576
  unfolding server
  n9-within ks vs h room n e = build-most L ks vs h room n e

  -- "and refusal 6 means a leaf's count above e"
  pub n9-refusal-6 : (s : List ℕ) (check : ℕ → ℕ → ℕ → Checked) (from p : ℕ) → (check_body L s check from p leaf ≡ refused 6) ↔ (L.entries < leaf_count L s p)
  n9-refusal-6 s check from p = leaf-6 L s check from p

pub n9-most-levels : (w : Width) → height (record { width = w; entries = 3 }) 40000 ≡ 8
unfolding height log_from
n9-most-levels w = refl

-- "What an accepted archive guarantees is shown for all these layouts together": Demands.antt has it over every layout, and what is accepted has one of these.
pub n9-accepted : (L : Layout) (M : Limits) (s : List ℕ) (n : ℕ) → counted (check_archive L M s) ≡ gives n → (3 ≤ L.entries) × (L.entries ≤ 15)
n9-accepted L M s n e = let A = is-archive L M s n e in (A.least, A.most)

-- "Refused: 24 when the number is outside 3 to 15, before every other refusal": each call that builds, checks or reads, whatever else it is given. Lent lists
-- stay, and the second form of lookup gives the empty part, at the archive's start.
module _ (L : Layout) (M : Limits) (outside : entries_in_range L ≡ false) where
  pub n9-check : (s : List ℕ) → counted (check_archive L M s) ≡ refuses 24
  n9-check s = (check-by L M s).0 outside

  pub n9-certify : (s : List ℕ) → counted (certify L M s) ≡ refuses 24
  n9-certify s = (certify-by L M s).0 outside

  pub record LookupOutside (s : List ℕ) (k : ℕ) : Type 0 where
    pub answer : lookup_call L M s k ≡ refuses 24
    pub part : bytes_call L M s k ≡ []
    pub place : (a : ℕ × ℕ) → place_call L M s a k ≡ a

  pub n9-lookup : (s : List ℕ) (k : ℕ) → LookupOutside s k
  n9-lookup s k =
      let c = n9-check s in
      record {
        answer = lookup-refuses L M s 24 c k;
        part = bytes-refuses L M s 24 c k;
        place = λ a. place-refuses L M s 24 c a k;
      }

  pub record WalkOutside (s ks vs : List ℕ) : Type 0 where
    pub answer : walk_call L M s ks vs ≡ refuses 24
    pub keys : walk_keys L M s ks vs ≡ ks
    pub values : walk_values L M s ks vs ≡ vs

  pub n9-walk : (s ks vs : List ℕ) → WalkOutside s ks vs
  n9-walk s ks vs =
      let c = n9-check s in
      record {
        answer = walk-refuses L M s 24 c ks vs;
        keys = walk-keys-refuses L M s 24 c ks vs;
        values = walk-values-refuses L M s 24 c ks vs;
      }

  pub record RangeOutside (s : List ℕ) (lo hi : Bound ℕ) (ks vs : List ℕ) : Type 0 where
    pub answer : range_call L M s lo hi ks vs ≡ refuses 24
    pub keys : range_keys L M s lo hi ks vs ≡ ks
    pub values : range_values L M s lo hi ks vs ≡ vs

  pub n9-range : (s : List ℕ) (lo hi : Bound ℕ) (ks vs : List ℕ) → RangeOutside s lo hi ks vs
  n9-range s lo hi ks vs =
      let c = n9-certify s in
      record {
        answer = range-refuses L M s 24 c lo hi ks vs;
        keys = range-keys-refuses L M s 24 c lo hi ks vs;
        values = range-values-refuses L M s 24 c lo hi ks vs;
      }

  pub record ColumnOutside (s : List ℕ) (P : Packing) (exam eye : ℕ) (a b : ℤ) (ks vs : List ℕ) : Type 0 where
    pub answer : column_call L M s P exam eye a b ks vs ≡ refuses 24
    pub keys : column_keys L M s P exam eye a b ks vs ≡ ks
    pub values : column_values L M s P exam eye a b ks vs ≡ vs

  pub n9-column : (s : List ℕ) (P : Packing) (exam eye : ℕ) (a b : ℤ) (ks vs : List ℕ) → ColumnOutside s P exam eye a b ks vs
  n9-column s P exam eye a b ks vs =
      let answer = column-uncertified L M s P exam eye a b ks vs 24 (n9-certify s) in
      let kept = (column-refused-by L M s P exam eye a b ks vs 24 answer).1 in
      record { answer = answer; keys = kept.0; values = kept.1 }

module _ (L : Layout) (outside : entries_in_range L ≡ false) where
  pub n9-build : (ks vs : List ℕ) (h : ℕ) (out : List ℕ) → (build L ks vs h (length out) ≡ refuses 24) × (out_after L ks vs h out ≡ out)
  unfolding out_after
  n9-build ks vs h out =
      let e = (build-by L ks vs h (length out)).0 outside in
      (e, ap (λ (a : Answer ℕ). out_by L a h (pairs ks vs) out) e)

  pub n9-length : (n h : ℕ) → build_length L n h ≡ refuses 24
  n9-length n h = (length-by L n h).0 outside

-- "check, certify and build give it beside their numbers in document 01": by 24 they refuse only there.
pub n9-check-only : (L : Layout) (M : Limits) (s : List ℕ) → counted (check_archive L M s) ≡ refuses 24 → entries_in_range L ≡ false
n9-check-only L M s e = only-24 L (From 1 7) (λ f. omega (arith, f)) (check-by L M s) e

pub n9-certify-only : (L : Layout) (M : Limits) (s : List ℕ) → counted (certify L M s) ≡ refuses 24 → entries_in_range L ≡ false
n9-certify-only L M s e = only-24 L (From 1 9) (λ f. omega (arith, f)) (certify-by L M s) e

pub n9-build-only : (L : Layout) (ks vs : List ℕ) (h room : ℕ) → build L ks vs h room ≡ refuses 24 → entries_in_range L ≡ false
n9-build-only L ks vs h room e = only-24 L (λ r. From 10 14 r ⊎ (r ≡ 16)) other (build-by L ks vs h room) e
  where
    other : From 10 14 24 ⊎ (◌≡◌ {A = ℕ} 24 16) → ⊥
    other (inl f) = omega (arith, f)
    other (inr z) = omega (arith, z)
