-- How large the numbers are that the calls give: an archive has no more entries than bytes, and no more bytes than the server's limit. Assumes nothing.
use Prim.Native.Nat.{ℕ, ◌≤◌, ◌<◌}
use mathlib.Core.Path.{◌≡◌, refl, sym, ◌∙◌, ap}
use mathlib.Core.List.{List}
use native.Mathlib.Decide.{dec_lt}
use native.Mathlib.Omega.{arith}
use lib.IntN.{ℤ}
use lib.ListN.{length}
use Rattle.std.specs.declared.ops.Bound.{Bound}
use Rattle.format.specs.declared.Packing.{Packing}
use Rattle.format.specs.Layout.{Layout, Limits, server, Within, nested}
use Rattle.format.specs.Refusal.{Answer, gives, refuses}
use Rattle.format.specs.Key.{column_bounds}
use Rattle.format.specs.declared.Column.{Column}
use Rattle.format.specs.Check.{Checked, accepted, refused, counted, root, recorded, check_archive}
use Rattle.format.specs.Accepted.{Archive}
use Rattle.format.specs.Certify.{certify}
use Rattle.format.specs.Entries.{list}
use Rattle.format.specs.Range.{matches, range}
use Rattle.format.specs.Written.{written}
use Rattle.format.specs.Calls.{walk_call, range_call, column_call}
use Rattle.format.specs.declared.Matched.{Matched}
use Rattle.format.specs.declared.Walk.{Walk}
use Rattle.format.proofs.Laws.Check.Archive.{list_length}
use Rattle.format.proofs.Laws.Check.Bounds.{holds-bytes}
use Rattle.format.proofs.Laws.Range.List.{select-few}
use Rattle.format.proofs.Laws.Calls.Accepted.{is-archive, is-recorded, walk-refuses, walk-accepted}
use Rattle.format.proofs.Laws.Calls.Certified.{certified-accepts, range-refuses, range-certified, column-ranges, column-uncertified, column-refused}
use Rattle.fieldmap.specs.Refusals.{given}

module _ (L : Layout) {M : Limits} (w : Within M server) (s : List ℕ) where
  recorded-most : Archive L M s → recorded L s ≤ server.longest
  unfolding root
  recorded-most A = go (dec_lt 0 (recorded L s))
    where
      go : Dec (0 < recorded L s) → recorded L s ≤ server.longest
      go (no l) = omega arith
      go (yes l) =
          let r = A.rooted l in
          omega (arith, holds-bytes L s (nested M) 0 (root L s) r.pos (recorded L s) r.valid.holds, A.small, w.longest)

  module _ (n : ℕ) (e : counted (check_archive L M s) ≡ gives n) where
    pub count_most : n ≤ server.longest
    count_most = omega (arith, is-recorded L M s n e, recorded-most (is-archive L M s n e))

    list-most : length (list L M s) ≤ server.longest
    list-most = omega (arith, list_length L M s (is-archive L M s n e), recorded-most (is-archive L M s n e))

  module _ (ks vs : List ℕ) where
    pub walk-most : (x : Walk) → walk_call L M s ks vs ≡ gives x → x.written ≤ server.longest
    walk-most x e = by (check_archive L M s) refl
      where
        by : (a : Checked) → check_archive L M s ≡ a → x.written ≤ server.longest
        by (accepted n t) ea =
            let ew : written (list L M s) ks vs ≡ x.written = cc (walk-accepted L M s n (ap counted ea) ks vs) in
            omega (arith, list-most n (ap counted ea))
        by (refused r) ea = absurd (given (sym e ∙ walk-refuses L M s r (ap counted ea) ks vs))

    pub range-most : (lo hi : Bound ℕ) (m : Matched) → range_call L M s lo hi ks vs ≡ gives m → m.written ≤ server.longest
    unfolding range
    range-most lo hi m e = by (certify L M s) refl
      where
        by : (a : Checked) → certify L M s ≡ a → m.written ≤ server.longest
        by (accepted n t) ea =
            let ew : written (range L M s lo hi) ks vs ≡ m.written = cc (range-certified L M s n (ap counted ea) lo hi ks vs) in
            omega (arith, list-most n (certified-accepts L M s n (ap counted ea)), select-few (matches lo hi) (list L M s))
        by (refused r) ea = absurd (given (sym e ∙ range-refuses L M s r (ap counted ea) lo hi ks vs))

    module _ (P : Packing) (exam eye : ℕ) (x y : ℤ) (m : Matched) (e : column_call L M s P exam eye x y ks vs ≡ gives m) where
      no-column : (q : ℕ) → column_bounds P exam eye x y ≡ refuses q → (a : Checked) → certify L M s ≡ a → ⊥
      no-column q ec (accepted n t) ea = given (sym e ∙ column-refused L M s P exam eye x y ks vs q ec n (ap counted ea))
      no-column q ec (refused r) ea = given (sym e ∙ column-uncertified L M s P exam eye x y ks vs r (ap counted ea))

      pub column-most : m.written ≤ server.longest
      column-most = by (column_bounds P exam eye x y) refl
        where
          by : (c : Answer Column) → column_bounds P exam eye x y ≡ c → m.written ≤ server.longest
          by (gives c) ec = range-most c.lower c.upper m (sym (column-ranges L M s P exam eye x y ks vs c ec) ∙ e)
          by (refuses q) ec = absurd (no-column q ec (certify L M s) refl)
