-- The definitions of the check of the record and of the whole archive, case by case, by the answers of the code's tests. Assumes nothing.
use Rattle.std.specs.Prelude.{Result, Ok, Err}
use mathlib.Core.Path.{◌≡◌, refl, sym, ◌∙◌, ap}
use mathlib.Core.Bool.{Bool, true, false}
use mathlib.Core.List.{List}
use Prim.Native.Nat.{ℕ, zero, suc, ◌+◌, ◌-◌, ◌<◌, ◌≤◌}
use native.Mathlib.Omega.{arith}
use lib.ListN.{length}
use lib.Dec.{eqb}
use borrow.Author.Tests.{le-leb, lt-leb, eq-eqb, ne_eqb}
use Rattle.format.specs.Layout.{Layout, entries_in_range, record_size, record_align, pointer, Limits, nested}
use Rattle.format.specs.Refusal.{gives, refuses, number, provided, and_then}
use Rattle.format.specs.Bytes.{le_at}
use Rattle.format.specs.Check.{Checked, accepted, refused, bind, guard, counted, check_node, root, recorded, check_root, check_archive}
use Rattle.format.specs.declared.Refusal.{Refusal}
use Rattle.subtrees.specs.Subtree.{opened}
use Rattle.subtrees.specs.Answers.{ptr_of}
use Rattle.subtrees.proofs.Places.{placed-guards, opened-guards}

module _ (L : Layout) (M : Limits) (s : List ℕ) where
  -- The code reads n as the count of the record at f.
  module _ {f n : ℕ} (ef : f ≡ length s - record_size L) (c : n ≡ le_at (pointer L) s (f + pointer L)) where
    pub root_none : n ≡ 0 → gives 0 ≡ counted (check_root L M s (recorded L s))
    unfolding check_root recorded root
    root_none z = sym (ap (λ (x : ℕ). counted (check_root L M s x)) (rw ef at (sym c ∙ z)))

    module _ (z : n ≡ 0 → ⊥) {d start end : ℕ} (ed : d ≡ M.depth - 1) (es : start ≡ 0) (ee : end ≡ f) where
      some : check_root L M s (recorded L s) ≡ bind (check_node L s (d - 1) end start f) (λ m next. guard (eqb m n) 7 (accepted m next))
      unfolding check_root recorded root nested
      some = go n z (rw ef at c)
        where
          go : (n : ℕ) → (n ≡ 0 → ⊥) → n ≡ le_at (pointer L) s (length s - record_size L + pointer L)
              → check_root L M s (recorded L s) ≡ bind (check_node L s (d - 1) end start f) (λ m next. guard (eqb m n) 7 (accepted m next))
          go zero z c = absurd (z refl)
          go (suc n) z c = let w : d - 1 ≡ M.depth - 2 = omega arith in ap (check_root L M s) (sym c) ∙ rw (w, es, ee, ef)

      -- The record's answer, by what the nodes give.
      by-nodes : counted (check_root L M s (recorded L s)) ≡ and_then (counted (check_node L s (d - 1) end start f)) (λ m. provided (eqb m n) 7 (gives m))
      by-nodes = ap counted some ∙ go (check_node L s (d - 1) end start f)
        where
          test : (m next : ℕ) (b : Bool) → counted (guard b 7 (accepted m next)) ≡ provided b 7 (gives m)
          test m next true = refl
          test m next false = refl

          go : (a : Checked) → counted (bind a (λ m next. guard (eqb m n) 7 (accepted m next))) ≡ and_then (counted a) (λ m. provided (eqb m n) 7 (gives m))
          go (accepted m next) = test m next (eqb m n)
          go (refused r) = refl

      pub root-refused : {r : ℕ} → refuses r ≡ counted (check_node L s (d - 1) end start f) → refuses r ≡ counted (check_root L M s (recorded L s))
      root-refused v = rw (by-nodes, ← v)

      module _ {m : ℕ} (v : gives m ≡ counted (check_node L s (d - 1) end start f)) where
        pub root-differs : (m ≡ n → ⊥) → refuses 7 ≡ counted (check_root L M s (recorded L s))
        root-differs o = rw (by-nodes, ← v, ne_eqb m n o)

        pub root-agrees : m ≡ n → gives n ≡ counted (check_root L M s (recorded L s))
        root-agrees o = rw (by-nodes, ← v, eq-eqb m n o) (ap gives (sym o))

  -- ---- the whole archive

  pub archive-out : entries_in_range L ≡ false → refuses 24 ≡ counted (check_archive L M s)
  unfolding check_archive
  archive-out o = rw o

  module _ (i : entries_in_range L ≡ true) where
    pub archive-long : M.longest < length s → refuses 1 ≡ counted (check_archive L M s)
    unfolding check_archive
    archive-long h = rw (i, lt-leb _ _ h)

    module _ (h : length s ≤ M.longest) where
      pub archive-short : length s < record_size L → refuses 2 ≡ counted (check_archive L M s)
      unfolding check_archive
      archive-short l = rw (i, le-leb _ _ h, lt-leb _ _ l)

      module _ (l : record_size L ≤ length s) where
        whole : check_archive L M s
            ≡ ptr_of (opened 0 (length s) M.depth (length s - record_size L) (record_size L) (record_align L)) (check_root L M s (recorded L s))
        unfolding check_archive root
        whole =
            let e : length s - record_size L + record_size L ≤ length s = omega arith in
            rw (
              i,
              opened-guards 0 (length s) (length s - record_size L) (record_size L) (record_align L) M.depth,
              placed-guards 0 (length s) (length s - record_size L) (record_size L) (record_align L),
              le-leb _ _ h,
              le-leb _ _ l,
              le-leb 0 (length s - record_size L) (omega arith),
              le-leb _ _ e,
            )

        abbrev pub opens : Result (Unit {0}) Refusal
        opens = opened 0 (length s) M.depth (length s - record_size L) (record_size L) (record_align L)

        pub archive-refused : {r : Refusal} → Err r ≡ opens → refuses (number r) ≡ counted (check_archive L M s)
        archive-refused e = rw (whole, ← e)

        pub archive-opened : Ok tt ≡ opens → counted (check_root L M s (recorded L s)) ≡ counted (check_archive L M s)
        archive-opened e = rw (whole, ← e)
