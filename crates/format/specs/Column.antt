-- What a column query answers, by the fields of each key and not by bounds. Document 02, N5. Assumes nothing: these are definitions.
use Rattle.std.specs.Prelude.{ℕ, ◌<◌, Bool, false, ◌&&◌, ◌||◌, List, ◌⊎◌, ◌≡◌, ℤ, pos, negsuc, ◌<ℤ◌, eqb}
use Rattle.std.specs.Int.Signed.{le_z}
use Rattle.format.specs.declared.Entry.{Entry}
use Rattle.format.specs.declared.Packing.{Packing}
use Rattle.format.specs.declared.Packing.TheVariants.{TwosComplement, Plus128}
use Rattle.format.specs.Layout.{Layout, Limits}
use Rattle.format.specs.Entries.{list}
use Rattle.format.specs.Key.{fields_of}
use Rattle.format.specs.declared.KeyFields.{KeyFields}
use Rattle.format.specs.Range.{select}

-- "x from a to b, and none if a is above b"
abbrev pub from_to : ℤ → ℤ → ℤ → Bool
from_to a b x = le_z a x && le_z x b

-- Which x a query from a to b takes (negsuc n is -(n + 1)). Two's complement puts those below 0 above the others: from below 0 to 0 or above it
-- takes none, and from 0 or above to below 0 those from a on and those up to b.
unfoldable pub takes : Packing → ℤ → ℤ → ℤ → Bool
takes Plus128 a b x = from_to a b x
takes TwosComplement (pos a) (pos b) x = from_to (pos a) (pos b) x
takes TwosComplement (pos a) (negsuc b) x = le_z (pos a) x || le_z x (negsuc b)
takes TwosComplement (negsuc a) (pos b) x = false
takes TwosComplement (negsuc a) (negsuc b) x = from_to (negsuc a) (negsuc b) x

-- A key "of that examination and eye", the fields of which are given.
abbrev pub OfEye : ℕ → ℕ → KeyFields → Type 0
OfEye exam eye f = (f.examination ≡ exam) × (f.eye ≡ eye)

-- The same as a test of an entry's key, with an x that passes the test t.
abbrev pub eye_with : Packing → ℕ → ℕ → (ℤ → Bool) → Entry → Bool
eye_with P exam eye t e = let f = fields_of P e.key in eqb f.examination exam && (eqb f.eye eye && t f.x)

-- "columns left to right": of two points, by x, then y, then presentation.
abbrev pub Before : KeyFields → KeyFields → Type 0
Before f g = (f.x <ℤ g.x) ⊎ ((f.x ≡ g.x) × ((f.y <ℤ g.y) ⊎ ((f.y ≡ g.y) × (f.presentation < g.presentation))))

-- The entries of the list that the query takes.
abbrev pub column : Layout → Limits → List ℕ → Packing → ℕ → ℕ → ℤ → ℤ → List Entry
column L M s P exam eye a b = select (eye_with P exam eye (takes P a b)) (list L M s)
