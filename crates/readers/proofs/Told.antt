-- What reading the root of an accepted archive requires.
-- Assumes nothing.
use mathlib.Core.Path.{◌≡◌}
use mathlib.Core.List.{List}
use Prim.Native.Nat.{ℕ, ◌-◌, ◌≤◌}
use lib.ListN.{length}
use Rattle.format.specs.Refusal.{gives}
use Rattle.format.specs.Layout.{Layout, Limits, record_size}
use Rattle.format.specs.Check.{counted, check_archive}
use Rattle.format.specs.Readable.{Down}
use Rattle.format.proofs.Laws.Calls.Accepted.{room_for, root-back}

-- The record lies in the archive, and its pointer leads back.
pub root-requires : (L : Layout) (M : Limits) (s : List ℕ) (n : ℕ) → counted (check_archive L M s) ≡ gives n → (n ≡ 0 → ⊥)
    → (record_size L ≤ length s) × Down L s (length s - record_size L) (length s - record_size L)
root-requires L M s n accepted some = (room_for L M s n accepted, root-back L M s n accepted some)
