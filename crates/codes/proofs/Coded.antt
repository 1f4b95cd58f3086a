-- What a call's answer says of the number that is returned and of the value's bytes. Assumes nothing.
use mir.Syntax.{w64}
use mir.Val.{to_z, of_z}
use mir.Facts.{to_z-of_z}
use Prim.Native.Nat.{ℕ, zero, suc, ◌^◌, ◌<◌}
use mathlib.Core.Path.{◌≡◌, refl, ap, ◌∙◌}
use mathlib.Core.List.{List, []}
use borrow.Author.Rules.{sfits_of}
use lib.IntN.{ℤ, pos, neg_ℤ}
use lib.ListN.{take, drop}
use lib.Signed.{mag}
use Rattle.std.specs.Prelude.{Option, Some, None}
use Rattle.format.specs.declared.Refusal.{Refusal}
use Rattle.format.specs.Refusal.{Answer, gives, refuses, number}
use Rattle.format.specs.Layout.{Layout, Limits}
use Rattle.format.specs.Check.{Checked, accepted, refused, check_archive}
use Rattle.format.specs.Lookup.{bytes_of, lookup}
use Rattle.format.specs.Calls.{lookup_call, bytes_call}
use Rattle.format.specs.declared.Entry.{Entry}
use Rattle.codes.specs.Answers.{length_told}

-- The machine's 64 bits hold the number that is returned.
pub returned : {y z : ℤ} → mag z < 2 ^ 63 → z ≡ y → to_z w64 (of_z w64 z) ≡ y
returned fits e = to_z-of_z {w = w64} (sfits_of fits) ∙ e

-- A refusal tells no length.
pub no_bytes : {z : ℤ} (why : Refusal) (l : List ℕ) → z ≡ neg_ℤ (pos (number why)) → take (length_told z) l ≡ []
no_bytes why l e = ap (λ (z : ℤ). take (length_told z) l) e ∙ by (number why)
  where
    by : (r : ℕ) → take (length_told (neg_ℤ (pos r))) l ≡ []
    by zero = refl
    by (suc r) = refl

-- The value's bytes, by what lookup answers.
abbrev bytes_by : List ℕ → Answer (Option Entry) → List ℕ
bytes_by s (gives x) = bytes_of s x
bytes_by s (refuses r) = []

module _ (L : Layout) (M : Limits) (s : List ℕ) (k : ℕ) where
  by-check : (a : Checked) → elim a [ accepted n start ↦ bytes_of s (lookup L M s k) | refused r ↦ [] ]
      ≡ bytes_by s (elim a [ accepted n start ↦ gives (lookup L M s k) | refused r ↦ refuses r ])
  by-check (accepted n start) = refl
  by-check (refused r) = refl

  bytes-by : bytes_call L M s k ≡ bytes_by s (lookup_call L M s k)
  unfolding bytes_call lookup_call
  bytes-by = by-check (check_archive L M s)

  pub found_part : {x : Entry} → lookup_call L M s k ≡ gives (Some x) → bytes_call L M s k ≡ take 8 (drop x.position.0 s)
  unfolding bytes_of
  found_part e = bytes-by ∙ ap (bytes_by s) e

  pub nothing-part : lookup_call L M s k ≡ gives None → bytes_call L M s k ≡ []
  unfolding bytes_of
  nothing-part e = bytes-by ∙ ap (bytes_by s) e

  pub refused-part : {r : ℕ} → lookup_call L M s k ≡ refuses r → bytes_call L M s k ≡ []
  refused-part e = bytes-by ∙ ap (bytes_by s) e
