-- What the readers require of a node: one that the check accepted, without the check's ranges. Assumes nothing: these are definitions.
use Rattle.std.specs.Prelude.{ℕ, zero, suc, ◌+◌, ◌≤◌, ◌<◌, ◌≡◌, true, false, List, length, None, Option, Some}
use Rattle.format.specs.declared.Position.{Position}
use Rattle.format.specs.Layout.{Layout, leaf_size, inner_size, Limits, nested}
use Rattle.format.specs.RelPtr.{at, below, target, absent, Destination}
use Rattle.format.specs.Node.{leaf, inner, child, kind, leaf_count}

abbrev child_to : Destination → Option Position
child_to (at q) = Some (record { 0 = q })
child_to below = None

module _ (L : Layout) (s : List ℕ) where
  -- The child that the field f leads to.
  unfoldable pub child_at : ℕ → Option Position
  child_at f = elim (absent L s f) [ true ↦ None | false ↦ child_to (target L s f) ]

  -- The field f is there and leads to q.
  pub record LeadsTo (f q : ℕ) : Type 0 where
    pub present : absent L s f ≡ false
    pub leads : target L s f ≡ at q

  -- The field f leads to a position below p.
  pub record Down (p f : ℕ) : Type 0 where
    pub node : ℕ
    pub leads : target L s f ≡ at node
    pub lower : node < p

  pub record LeafNode (p : ℕ) : Type 0 where
    pub room : p + leaf_size L ≤ length s
    pub is : kind L s p ≡ leaf
    pub count : leaf_count L s p ≤ L.entries

  pub record InnerNode (p : ℕ) : Type 0 where
    pub room : p + inner_size L ≤ length s
    pub is : kind L s p ≡ inner
    pub back : (j : ℕ) → j ≤ L.entries → absent L s (child L p j) ≡ false → Down p (child L p j)

  -- The node at p, where N is what holds of its children.
  pub data NodeGood (N : ℕ → Type 0) (p : ℕ) : Type 0 where
    leaf_g : LeafNode p → NodeGood N p
    inner_g : InnerNode p → ((j q : ℕ) → j ≤ L.entries → LeadsTo (child L p j) q → N q) → NodeGood N p

  -- At most d nodes are nested from the node at p on.
  abbrev pub Good : ℕ → ℕ → Type 0
  Good zero p = ⊥
  Good (suc d) p = NodeGood (Good d) p

module _ (L : Layout) (M : Limits) (s : List ℕ) where
  -- A node that the readers may read. Where `nested M` is 0 there is none.
  pub record Node (p : ℕ) : Type 0 where
    pub level : ℕ
    pub fits : level ≤ nested M
    pub good : Good L s level p
