-- What the functions of the builder ask for and what they leave: the bytes of what was filled, where it stands, and what is left. Assumes nothing:
-- these are definitions.
use Rattle.std.specs.Prelude.{ℕ, ◌+◌, ◌≤◌, min, ◌≡◌, List, length, drop, Option, Some}
use Rattle.format.specs.Layout.{Layout, layout_of}
use Rattle.format.specs.Bytes.{put}
use Rattle.format.specs.Tree.{length_branch, child_of, write_branch, KeyValue}
use Rattle.format.specs.Build.{Filled, fill_leaf, fill, pairs}
use Rattle.format.specs.Weight.{upper, room}
use Rattle.nodes.specs.declared.inline_vec.ChildPos.{ChildPos}
use Rattle.nodes.specs.Nodes.{child_at}
use Rattle.serialize.specs.declared.given.Given.{Given}
use Rattle.serialize.specs.declared.map.Place.{Place}

-- Positions are kept in four bytes.
abbrev pub most : ℕ
most = 0xffff_ffff

-- The given entries from the i-th on.
abbrev pub from : List ℕ → List ℕ → ℕ → List KeyValue
from ks vs i = drop i (pairs ks vs)

-- A child that is closed at p, and the place behind its n bytes.
abbrev pub child_there : ℕ → Option ChildPos
child_there p = Some (record { 0 = p })

abbrev pub after : Place → ℕ → Place
after p n = record { next = p.next; last = p.last; at = record { 0 = p.at.0 + n } }

module _ (L : Layout) (ks vs : List ℕ) where
  -- Enough entries are left for a subtree with h levels above the last one, and an output of n bytes has room for it.
  pub record Ready (h : ℕ) (p : Place) (n : ℕ) : Type 0 where
    pub enough : p.next + (upper L h + min p.last (room L h)) ≤ length ks
    pub fits : p.at.0 + length_branch L (fill L h p.last (from ks vs p.next)).branch ≤ min n most

  -- A subtree stands from the place p to the place r, and its top at c.
  pub record Wrote (F : Filled) (p : Place) (out : List ℕ) (c : Option ChildPos) (r : Place) (out' : List ℕ) : Type 0 where
    pub bytes : out' ≡ put out p.at.0 (write_branch L F.branch p.at.0)
    pub child : child_at c ≡ child_of L F.branch p.at.0
    pub at : r.at.0 ≡ p.at.0 + length_branch L F.branch
    pub rest : from ks vs r.next ≡ F.rest
    pub next : r.next ≤ length ks
    pub last : r.last ≡ F.last

module _ (g : Given) where
  -- A subtree with h levels above the last one can be written, or is.
  abbrev pub CanWrite : ℕ → Place → ℕ → Type 0
  CanWrite h p n = Ready (layout_of g.layout) g.keys.now g.values.now h p n

  abbrev pub WroteTree : ℕ → Place → List ℕ → Option ChildPos → Place → List ℕ → Type 0
  WroteTree h p out c r out' =
      let L = layout_of g.layout in
      Wrote L g.keys.now g.values.now (fill L h p.last (from g.keys.now g.values.now p.next)) p out c r out'

  -- A leaf of k entries is written.
  abbrev pub WroteLeaf : ℕ → Place → List ℕ → Option ChildPos → Place → List ℕ → Type 0
  WroteLeaf k p out c r out' =
      let L = layout_of g.layout in
      Wrote L g.keys.now g.values.now (fill_leaf L k p.last (from g.keys.now g.values.now p.next)) p out c r out'
