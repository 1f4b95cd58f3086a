-- The nodes that the quick way passes, by their places, and an inner node's children, one after the other. Assumes nothing.
use mathlib.Core.Path.{◌≡◌, refl}
use mathlib.Core.List.{List}
use Prim.Native.Nat.{ℕ, zero, suc, ◌+◌, ◌-◌, ◌%◌, ◌<◌, ◌≤◌}
use native.Mathlib.Nat.{sub-zero, zero-add, add_assoc}
use native.Mathlib.Numerals.{add-one}
use native.Mathlib.Omega.{arith}
use lib.ListN.{get_or}
use borrow.Author.Tests.{eq-eqb}
use Rattle.format.specs.Layout.{Layout, pointer, leaf_size, inner_size}
use Rattle.format.specs.Bytes.{le_at}
use Rattle.format.specs.RelPtr.{absent}
use Rattle.format.specs.Node.{inner, kind, child, leaf_count}
use Rattle.format.specs.Readable.{LeadsTo}
use Rattle.format.specs.NodeRelation.{ChildOk, gone, there, ChildrenOk, last, more, leaf_ok, inner_ok, Holds}
use Rattle.format.proofs.Laws.Check.Complete.{complete}
use Rattle.format.proofs.Laws.Read.Node.{kind-leaf}
use Rattle.quick.specs.Quick.{Below, Root}
use Rattle.format.proofs.Laws.Check.Bounds.{child-bytes, holds-bytes}

module _ (L : Layout) (s : List ℕ) where
  pub kind-inner : (p : ℕ) → get_or s p 0 ≡ 1 → kind L s p ≡ inner
  unfolding kind
  kind-inner p e = rw e

  module _ (start end f : ℕ) where
    pub absent-child : (d : ℕ) → le_at (pointer L) s f ≡ 1 → ChildOk L s (Holds L s d) start end f start 0
    unfolding absent
    absent-child d e = gone (eq-eqb _ _ e) refl refl

    module _ {p : ℕ} (to : LeadsTo L s f p) (low : start ≤ p) (even : p % 8 ≡ 0) where
      -- t is where the node ends.
      pub leaf-child : (d : ℕ) {n t : ℕ} → 0 < d → get_or s p 0 ≡ 0 → t ≡ p + leaf_size L → t ≤ end → n ≡ leaf_count L s p → n ≤ L.entries
          → ChildOk L s (Holds L s d) start end f t n
      leaf-child zero some z e high en few = absurd (omega arith)
      leaf-child (suc d) some z e high en few =
          let k = kind-leaf L s p z in
          there to.present p to.leads
          (leaf_ok k (record { low = low; high = rw k (omega arith); solid = rw k (omega arith); aligned = even }) (omega arith) en) (rw k e)

      module _ {n t : ℕ} (z : get_or s p 0 ≡ 1) (e : t ≡ p + inner_size L) (high : t ≤ end) where
        inner-holds : (d : ℕ) → Below L s d start p n → Holds L s (suc d) start end p n
        inner-holds d w =
            let k = kind-inner p z in
            inner_ok k (record { low = low; high = rw k (omega arith); solid = rw k (omega arith); aligned = even }) w.under w.children w.all

        pub inner-child : (d : ℕ) → 0 < d → Below L s (d - 1) start p n → ChildOk L s (Holds L s d) start end f t n
        inner-child d some w =
            let o : d ≡ suc (d - 1) = omega arith in
            there to.present p to.leads (rw o (inner-holds (d - 1) w)) (rw (kind-inner p z) e)

  -- A child's entries are no more than its bytes.
  child_fits : (d : ℕ) {start end f t n : ℕ} → ChildOk L s (Holds L s d) start end f t n → start ≤ end → (n + start ≤ t) × (t ≤ end)
  child_fits d c h = child-bytes L s (Holds L s d) (holds-bytes L s d) c h

  -- ---- an inner node's children

  module _ (d p start : ℕ) where
    -- The first i children are passed: the range starts at `from` now, and `total` counts the node's own entries too.
    pub record SoFar (i from total : ℕ) : Type 0 where
      pub low : from ≤ p
      pub few : total + start ≤ from + L.entries
      pub under : ℕ
      pub all : total ≡ L.entries + under
      pub rest : i ≤ L.entries → (m : ℕ) → ChildrenOk L s (Holds L s d) p (L.entries - i) i from m
          → ChildrenOk L s (Holds L s d) p L.entries 0 start (under + m)
      pub whole : L.entries < i → ChildrenOk L s (Holds L s d) p L.entries 0 start under

    pub none_passed : start ≤ p → SoFar 0 start L.entries
    none_passed h = record {
      low = h;
      few = omega arith;
      under = 0;
      all = omega arith;
      rest = λ l m ks. rw (zero-add m) (rw (sub-zero L.entries) at ks);
      whole = λ l. absurd (omega arith);
    }

    module _ {i from total t n : ℕ} (w : SoFar i from total) (c : ChildOk L s (Holds L s d) from p (child L p i) t n) (h : i ≤ L.entries) where
      more-rest : i + 1 ≤ L.entries → (m : ℕ) → ChildrenOk L s (Holds L s d) p (L.entries - (i + 1)) (i + 1) t m
          → ChildrenOk L s (Holds L s d) p L.entries 0 start (w.under + n + m)
      more-rest l m ks =
          let left : L.entries - i ≡ suc (L.entries - (i + 1)) = omega arith in
          rw (add_assoc w.under n m) (w.rest h (n + m) (rw left (more {k = L.entries - (i + 1)} {b = m} c (rw (← add-one i) ks) refl)))

      more-whole : L.entries < i + 1 → ChildrenOk L s (Holds L s d) p L.entries 0 start (w.under + n)
      more-whole l = let left : L.entries - i ≡ 0 = omega arith in w.rest h n (rw left (last c))

      pub one-passed : SoFar (i + 1) t (total + n)
      one-passed =
          let b = child_fits d c w.low in
          let a = w.all in
          let g = w.few in
          record { low = b.1; few = omega (arith, b.0); under = w.under + n; all = omega arith; rest = more-rest; whole = more-whole }

    pub all-passed : {i from total : ℕ} → SoFar i from total → L.entries < i → Below L s d start p total
    all-passed w h = record { under = w.under; children = w.whole h; all = w.all }

  -- The record's field, where t is the end of the node that it leads to.
  pub root-passes : (d f : ℕ) {p n t : ℕ} → LeadsTo L s f p → p % 8 ≡ 0 → get_or s p 0 ≡ 1 → t ≡ p + inner_size L → t ≤ f → 0 < d
      → Below L s (d - 1) 0 p n → Root L s d f n
  root-passes d f to even z e high some w =
      let o : d ≡ suc (d - 1) = omega arith in
      rw o (record { next = _; is = complete L s (record { holds = inner-holds 0 f f to (omega arith) even z e high (d - 1) w }) f to.leads })
