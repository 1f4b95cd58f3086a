-- Entries take room: an archive of 65,536 bytes has at most 4,096. A node holds at most 5 entries of its own and has at least 96 bytes, and no two
-- nodes of an accepted archive share a byte. Assumes nothing.
use Prim.Native.Nat.{ℕ, zero, suc, ◌+◌, ◌*◌, ◌≤◌, ◌<◌}
use mathlib.Core.List.{List}
use native.Mathlib.Decide.{dec_lt}
use native.Mathlib.Omega.{arith}
use lib.ListN.{length}
use Rattle.format.specs.Layout.{layout32, server, nested}
use Rattle.format.specs.Node.{size_at}
use Rattle.format.specs.Check.{root, recorded}
use Rattle.format.specs.Entries.{list}
use Rattle.format.specs.Accepted.{Archive}
use Rattle.format.specs.NodeRelation.{ChildOk, gone, there, ChildrenOk, last, more, NodeOk, leaf_ok, inner_ok, Holds}
use Rattle.format.proofs.Laws.Check.Archive.{list_length}

module _ (s : List ℕ) where
  -- The n entries of a node at p and of those below it fit between lo and its end, and the end lies in the range.
  record Fitting (lo hi p n : ℕ) : Type 0 where
    room : 96 * n + 5 * lo ≤ 5 * (p + size_at layout32 s p)
    ends : p + size_at layout32 s p ≤ hi

  module _ (N : ℕ → ℕ → ℕ → ℕ → Type 0) (ih : (lo hi p n : ℕ) → N lo hi p n → Fitting lo hi p n) where
    child-room : {lo hi f stop n : ℕ} → ChildOk layout32 s N lo hi f stop n → lo ≤ hi → (96 * n + 5 * lo ≤ 5 * stop) × (stop ≤ hi)
    child-room (gone ea es en) h = (omega arith, omega arith)
    child-room (there ea q el nd es) h = let f = ih _ _ _ _ nd in (omega (arith, f.room), omega (arith, f.ends))

    children-room : {p k i lo n : ℕ} → ChildrenOk layout32 s N p k i lo n → lo ≤ p → 96 * n + 5 * lo ≤ 5 * p
    children-room (last c) h = let r = child-room c h in omega (arith, r.0, r.1)
    children-room (more c ks en) h = let r = child-room c h in omega (arith, r.0, r.1, children-room ks r.1)

    node-room : {lo hi p n : ℕ} → NodeOk layout32 s N lo hi p n → Fitting lo hi p n
    node-room (leaf_ok ek i l e) = record { room = rw ek (omega (arith, i.low)); ends = i.high }
    node-room (inner_ok ek i m ks e) = record { room = rw ek (omega (arith, children-room ks i.low)); ends = i.high }

  holds-room : (d lo hi p n : ℕ) → Holds layout32 s d lo hi p n → Fitting lo hi p n
  holds-room zero lo hi p n v = absurd v
  holds-room (suc d) lo hi p n v = node-room (Holds layout32 s d) (holds-room d) v

  recorded-room : Archive layout32 server s → 96 * recorded layout32 s ≤ 5 * length s
  unfolding root
  recorded-room A = go (dec_lt 0 (recorded layout32 s))
    where
      go : Dec (0 < recorded layout32 s) → 96 * recorded layout32 s ≤ 5 * length s
      go (no l) = omega arith
      go (yes l) =
          let r = A.rooted l in
          let f = holds-room (nested server) 0 (root layout32 s) r.pos (recorded layout32 s) r.valid.holds in
          omega (arith, f.room, f.ends)

  pub few-entries : Archive layout32 server s → length s ≤ 65536 → length (list layout32 server s) ≤ 4096
  few-entries A h = omega (arith, recorded-room A, list_length layout32 server s A)
