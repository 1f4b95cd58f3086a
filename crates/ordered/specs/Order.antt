-- What the quick way of certification says of the nodes that it passes. Assumes nothing: these are definitions.
use Rattle.std.specs.Prelude.{ℕ, ◌+◌, ◌-◌, ◌*◌, ◌<◌, ◌≤◌, ◌≡◌, Bool, false, List, ◌++◌, Option, Some, None, IfSome}
use Rattle.format.specs.declared.Entry.{Entry}
use Rattle.format.specs.Layout.{Layout, keys_from, leaf_size}
use Rattle.format.specs.Bytes.{le_at}
use Rattle.format.specs.RelPtr.{absent}
use Rattle.format.specs.Node.{child, leaf_count}
use Rattle.format.specs.NodeRelation.{ChildOk, Holds}
use Rattle.format.specs.Entries.{list_child, list_children, list_at}
use Rattle.format.specs.Certify.{ascends_from, ascends, any_child, any_children, hollow_at}
use Rattle.quick.specs.Quick.{Below}
use Rattle.ordered.specs.declared.Passed.{Passed}

-- Whether the keys ascend, from above the key before them where there is one.
abbrev pub ascends_after : Option ℕ → List Entry → Bool
ascends_after (Some k) l = ascends_from k l
ascends_after None l = ascends l

-- They ascend, and `last` is the last of them: whatever follows has only to ascend from above it.
abbrev pub Leads : Option ℕ → List Entry → ℕ → Type 0
Leads before l last = (rest : List Entry) → ascends_after before (l ++ rest) ≡ ascends_from last rest

-- Key i of the node at p.
abbrev pub key_in : List ℕ → ℕ → ℕ → ℕ
key_in s p i = le_at 8 s (p + keys_from + 8 * i)

-- The first n keys of the node at p ascend, from above the key before them where there is one.
pub record Rise (s : List ℕ) (p n : ℕ) (before : Option ℕ) : Type 0 where
  pub first : IfSome before (λ k. k < key_in s p 0)
  pub each : (j : ℕ) → j + 1 < n → key_in s p j < key_in s p (j + 1)

-- The last key after slot i of the node at p, which has e slots: the slot's, above k, or k where there is no such slot.
abbrev pub NextKey : List ℕ → ℕ → ℕ → ℕ → ℕ → ℕ → Type 0
NextKey s e p i k key = (i < e → (key ≡ key_in s p i) × (k < key)) × (e ≤ i → key ≡ k)

module _ (L : Layout) (s : List ℕ) where
  abbrev pub LeafKeys : ℕ → Option ℕ → Passed → Type 0
  LeafKeys p before c =
      (c.next ≡ p + leaf_size L) × (c.entries ≡ leaf_count L s p) × (0 < c.entries) × (c.entries ≤ L.entries) × Rise s p c.entries before
      × (c.last ≡ key_in s p (c.entries - 1))

  -- The field f in the range from start to end, where d nodes may be nested below it: n entries, after which the range starts at t. None of its
  -- nodes is hollow.
  pub record KeysPass (d start end f : ℕ) (before : Option ℕ) (n t last : ℕ) : Type 0 where
    pub ok : ChildOk L s (Holds L s d) start end f t n
    pub keys : Leads before (list_child L s (list_at L s d) f) last
    pub solid : any_child L s (hollow_at L s d) f ≡ false

  abbrev pub ChildKeys : ℕ → ℕ → ℕ → ℕ → Option ℕ → Passed → Type 0
  ChildKeys d start end f before c = KeysPass d start end f before c.entries c.next c.last

  -- The same of the children of the inner node at p; n counts its own entries too.
  pub record KeysBelow (d start p : ℕ) (before : Option ℕ) (n last : ℕ) : Type 0 where
    pub below : Below L s d start p n
    pub keys : Leads before (list_children L s (list_at L s d) p L.entries 0) last
    pub solid : any_children L s (hollow_at L s d) p L.entries 0 ≡ false
    pub first : absent L s (child L p 0) ≡ false
