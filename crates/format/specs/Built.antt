-- What demand 3 says of a build: which lists are taken, and what the archive's bytes then are. Document 01, "The list that demand 3 speaks of", "Build",
-- and "The refusals", 10 to 14; document 02, N8 and N9: 16 and 24. Assumes nothing: these are definitions.
use Rattle.std.specs.Prelude.{ℕ, ◌+◌, ◌≤◌, ◌≡◌, true, List, map, length}
use Rattle.format.specs.declared.Entry.{Entry}
use Rattle.format.specs.Layout.{Layout, server}
use Rattle.format.specs.Refusal.{gives}
use Rattle.format.specs.Check.{counted}
use Rattle.format.specs.Entries.{list}
use Rattle.format.specs.Certify.{certify}
use Rattle.format.specs.Offsets.{archive_emplaces}
use Rattle.format.specs.Build.{tree_of, start, behind, archive, pairs, rises}

module _ (L : Layout) (ks vs : List ℕ) (h : ℕ) where
  -- "Build takes exactly what 10 to 14 let through": the end n of the archive behind a header of h bytes, in an output of `out` bytes.
  pub record Taken (out n : ℕ) : Type 0 where
    pub lengths : length ks ≡ length vs
    pub few : length ks ≤ 40000
    pub ascends : rises ks ≡ true
    pub header : h ≤ 4096
    pub fits : n ≤ out
    pub size : n ≡ h + length (behind L h (tree_of L (pairs ks vs)) (length ks))

  -- What 24 and 16 let through: so many entries a node, and offsets that all fit the width.
  pub record LayoutTakes : Type 0 where
    pub least : 3 ≤ L.entries
    pub most : L.entries ≤ 15
    pub offsets : archive_emplaces L (tree_of L (pairs ks vs)) (start L (tree_of L (pairs ks vs)) h) ≡ true

-- The archive is certified with the given number of entries, N is its length, and its list has the given keys and values, entry for entry.
pub record Certifies (L : Layout) (front ks vs : List ℕ) (n : ℕ) : Type 0 where
  pub length-is : length (archive L front (pairs ks vs)) ≡ n
  pub certified : counted (certify L server (archive L front (pairs ks vs))) ≡ gives (length ks)
  pub keys : map (λ (e : Entry). e.key) (list L server (archive L front (pairs ks vs))) ≡ ks
  pub values : map (λ (e : Entry). e.value) (list L server (archive L front (pairs ks vs))) ≡ vs
