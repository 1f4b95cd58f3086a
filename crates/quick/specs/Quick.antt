-- What the quick way says of the nodes that it passes. Assumes nothing: these are definitions.
use Rattle.std.specs.Prelude.{ℕ, ◌+◌, ◌≡◌, List}
use Rattle.format.specs.Layout.{Layout}
use Rattle.format.specs.Check.{accepted, check_node}
use Rattle.format.specs.NodeRelation.{ChildOk, ChildrenOk, Holds}
use Rattle.quick.specs.declared.Passed.{Passed}

module _ (L : Layout) (s : List ℕ) where
  -- The field f in the range from start to end, where d nodes may be nested below it.
  abbrev pub Passes : ℕ → ℕ → ℕ → ℕ → Passed → Type 0
  Passes d start end f c = ChildOk L s (Holds L s d) start end f c.next c.entries

  -- The children of the inner node at p, in the range from start on; n counts its own entries too.
  pub record Below (d start p n : ℕ) : Type 0 where
    pub under : ℕ
    pub children : ChildrenOk L s (Holds L s d) p L.entries 0 start under
    pub all : n ≡ L.entries + under

  -- The nodes that the record's field f leads to.
  pub record Root (d f n : ℕ) : Type 0 where
    pub next : ℕ
    pub is : check_node L s d f 0 f ≡ accepted n next
