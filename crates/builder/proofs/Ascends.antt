-- Keys that ascend, one or four at a time. Assumes nothing.
use mathlib.Core.Path.{◌≡◌, refl, sym, ◌∙◌}
use mathlib.Core.Bool.{true}
use mathlib.Core.List.{List, [], ◌∷◌}
use Prim.Native.Nat.{ℕ, ◌+◌, ◌≤◌}
use native.Mathlib.Omega.{arith}
use lib.ListN.{length, drop, length-drop}
use Rattle.format.specs.Build.{rises}

module _ (ks : List ℕ) (i : ℕ) where
  pub last : length ks ≤ i + 1 → rises ks ≡ rises (drop i ks) → true ≡ rises ks
  last l e = sym (e ∙ short (drop i ks) (simp length-drop (omega arith)))
    where
      short : (r : List ℕ) → length r ≤ 1 → rises r ≡ true
      short [] h = refl
      short (x ∷ []) h = refl
      short (x ∷ y ∷ r) h = absurd (omega arith)
