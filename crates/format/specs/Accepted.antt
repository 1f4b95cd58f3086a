-- What accepted and certified archives are, in the words of the node relation. Document 01, "The list that demand 3 speaks of": "Accepted and
-- certified mean that check and certify, called on those bytes, do not refuse". Assumes nothing: these are definitions.
use Rattle.std.specs.Prelude.{ℕ, ◌≤◌, ◌<◌, ◌≡◌, false, List, length}
use Rattle.format.specs.Layout.{Layout, record_size, Limits, nested}
use Rattle.format.specs.RelPtr.{at, target}
use Rattle.format.specs.Check.{root, recorded}
use Rattle.format.specs.Entries.{list}
use Rattle.format.specs.Certify.{Ascending, Solid, hollow_at}
use Rattle.format.specs.NodeRelation.{Valid}

module _ (L : Layout) (M : Limits) (s : List ℕ) where
  -- The root of an archive whose count is above 0.
  pub record Rooted : Type 0 where
    pub pos : ℕ
    pub leads : target L s (root L s) ≡ at pos
    pub valid : Valid L s (nested M) 0 (root L s) pos (recorded L s)

  -- What check accepts.
  pub record Archive : Type 0 where
    pub least : 3 ≤ L.entries
    pub most : L.entries ≤ 15
    pub small : length s ≤ M.longest
    pub room : record_size L ≤ length s
    pub rooted : 0 < recorded L s → Rooted

  -- What certify accepts. `firm` is `solid` by the computed test.
  pub record Certified : Type 0 where
    pub archive : Archive
    pub ascending : Ascending (list L M s)
    pub firm : 0 < recorded L s → (R : Rooted) → hollow_at L s (nested M) R.pos ≡ false
    pub solid : Solid L s
