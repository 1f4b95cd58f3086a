-- What is known of an archive by the number of entries alone. Assumes nothing: these are definitions.
use Rattle.std.specs.Prelude.{ℕ, zero, suc, ◌+◌, ◌-◌, ◌^◌, ◌≤◌, ◌≡◌, Bool, leb}
use Rattle.format.specs.Layout.{Layout, sign_bits, node_align, record_size, record_align}
use Rattle.format.specs.Align.{zeros_to}
use Rattle.format.specs.Build.{height, last_level}
use Rattle.format.specs.Weight.{upper, weight, reach, inners_over}
use Rattle.builder.specs.declared.size.Levels.{Levels}
use Rattle.builder.specs.declared.size.Plan.{Plan}

-- What 24 and 11 let through.
pub record Named (L : Layout) (n : ℕ) : Type 0 where
  pub least : 3 ≤ L.entries
  pub most : L.entries ≤ 15
  pub few : n ≤ 40000

-- The alignment of what comes first after the header.
abbrev pub first_align_of : Layout → ℕ → ℕ
first_align_of L zero = record_align L
first_align_of L (suc n) = node_align

module _ (L : Layout) (n : ℕ) where
  -- The bytes of the nodes of n entries.
  abbrev pub nodes_of : ℕ
  nodes_of = weight L (height L n - 1) (last_level L n)

  -- The end of an archive of n entries behind a header of h bytes.
  abbrev pub end_of : ℕ → ℕ
  end_of h = h + zeros_to (first_align_of L n) h + nodes_of + record_size L

  -- How far the longest offset leads, and whether the width holds it.
  abbrev pub reach_of : ℕ
  reach_of = reach L (height L n - 1) (last_level L n)

  abbrev pub fits_width : Bool
  fits_width = leb reach_of (2 ^ sign_bits L.width)

  -- The levels of n entries.
  pub record Leveled (v : Levels) : Type 0 where
    pub above : v.above ≡ height L n - 1
    pub power : v.power ≡ suc (upper L v.above)
    pub over : (k : ℕ) → v.above ≡ suc k → v.over ≡ suc (upper L k)
    pub inners : v.higher + v.over ≡ inners_over L v.above

  -- What a build of n entries behind a header of h bytes knows before it writes.
  pub record Planned (h : ℕ) (p : Plan) : Type 0 where
    pub entries : p.entries ≡ n
    pub above : p.above ≡ height L n - 1
    pub last : p.last ≡ last_level L n
    pub first : p.first ≡ h + zeros_to (first_align_of L n) h
    pub end : p.end ≡ end_of h
    pub fits : p.fits ≡ fits_width
