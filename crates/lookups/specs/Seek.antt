-- The scan of a node's slots for a key, as `seek_slot` answers it: `Ok i` where slot i has the key, `Err i` where slot i is the first with a greater
-- one, or the place past them. Of the layout it depends on nothing. Assumes nothing: these are definitions.
use Rattle.std.specs.Prelude.{ℕ, zero, suc, ◌+◌, ◌*◌, List, eqb, ltb, Result, Ok, Err}
use Rattle.format.specs.Layout.{keys_from}
use Rattle.format.specs.Bytes.{le_at}
use Rattle.format.specs.Lookup.{Order, less, equal, greater, order_of}

abbrev compared : ℕ → ℕ → Order
compared key k = order_of (ltb key k) (eqb key k)

module _ (s : List ℕ) (p key : ℕ) where
  -- How the key compares with that of slot i of the node at p.
  abbrev pub order_at : ℕ → Order
  order_at i = compared key (le_at 8 s (p + keys_from + 8 * i))

  -- n slots of the node at p from slot i on.
  unfoldable pub seek_at : ℕ → ℕ → Result ℕ ℕ
  seek_at zero i = Err i
  seek_at (suc n) i = elim (order_at i) [ less ↦ Err i | equal ↦ Ok i | greater ↦ seek_at n (suc i) ]
