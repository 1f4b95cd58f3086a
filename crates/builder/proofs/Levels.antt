-- The levels of n entries, and the nodes on them. Assumes nothing.
use Prim.Native.Nat.{ℕ, zero, suc, ◌+◌, ◌-◌, ◌*◌, ◌≤◌, ◌<◌}
use mathlib.Core.Path.{◌≡◌, ap, ◌∙◌}
use native.Mathlib.Omega.{arith}
use native.Mathlib.Decide.{dec_lt}
use native.Mathlib.Nat.{mul-le-mul_left, mul-le-mul_right, mul-le-mul, suc_inj}
use Rattle.format.specs.Layout.{Layout}
use Rattle.format.specs.Build.{height, last_level}
use Rattle.format.specs.Weight.{upper, room, inners_over}
use Rattle.format.proofs.Laws.Build.Filling.{full}
use Rattle.format.proofs.Laws.Build.Height.{fitting}
use Rattle.format.proofs.Laws.Build.Sizes.{upper-inners}
use Rattle.builder.specs.declared.size.Levels.{Levels}
use Rattle.builder.specs.Size.{Named, Leveled}

-- With so many levels found.
pub record Climbing (L : Layout) (n : ℕ) (v : Levels) : Type 0 where
  pub power : v.power ≡ suc (upper L v.above)
  pub low : v.power ≤ n
  pub levels : v.above < v.power
  pub over : (k : ℕ) → v.above ≡ suc k → v.over ≡ suc (upper L k)
  pub inners : v.higher + v.over ≡ inners_over L v.above

module _ (L : Layout) (n : ℕ) (N : Named L n) where
  some : 0 < L.entries
  some = omega (arith, N.least)

  -- ---- which level is the last

  mono : (a b : ℕ) → a ≤ b → upper L a ≤ upper L b
  mono a zero h = let e : a ≡ 0 = omega arith in omega (arith, ap (upper L) e)
  mono a (suc b) h = by (dec_lt b a) (mono a b)
    where
      by : Dec (b < a) → (a ≤ b → upper L a ≤ upper L b) → upper L a ≤ upper L (suc b)
      by (yes g) ih = let e : a ≡ suc b = omega arith in omega (arith, ap (upper L) e)
      by (no g) ih = omega (arith, ih (omega arith), full L b)

  unique : (a b : ℕ) → upper L a < n → n ≤ upper L (suc a) → upper L b < n → n ≤ upper L (suc b) → a ≡ b
  unique a b al ah bl bh = by (dec_lt a b) (dec_lt b a)
    where
      by : Dec (a < b) → Dec (b < a) → a ≡ b
      by (yes g) z = absurd (omega (arith, mono (suc a) b g))
      by (no g) (yes k) = absurd (omega (arith, mono (suc b) a k))
      by (no g) (no k) = omega arith

  is-height : (a : ℕ) → upper L a < n → n ≤ upper L (suc a) → a ≡ height L n - 1
  is-height a l h =
      let F = fitting L some n (omega arith) in
      let e = unique a F.above l h (omega (arith, F.last-is, F.last-pos)) (omega (arith, full L F.above, F.last-is, F.last-room)) in
      omega (arith, e, F.height-is)

  -- ---- the loop

  power-more : (e u p : ℕ) → p ≡ suc u → p * (e + 1) ≡ suc (suc e * u + e)
  power-more e u p h = ap (λ (x : ℕ). x * (e + 1)) h ∙ omega arith

  -- There are more entries at each turn, and no more than are given.
  pub climbing-grows : {v : Levels} → Climbing L n v → v.power < v.power * (L.entries + 1)
  climbing-grows {v} C =
      let g = mul-le-mul_left {m = 2} {n = L.entries + 1} v.power (omega (arith, N.least)) in
      omega (arith, g, C.power)

  pub climbing-small : {v : Levels} → Climbing L n v → (v.power * (L.entries + 1) ≤ 640000) × (v.higher + v.over ≤ n)
  climbing-small {v} C =
      let g = mul-le-mul_right {m = 1} {n = L.entries} (inners_over L v.above) some in (
        mul-le-mul {n₁ = v.power} {m₁ = L.entries + 1} {n₂ = 40000} {m₂ = 16} (omega (arith, C.low, N.few)) (omega (arith, N.most)),
        omega (arith, C.inners, C.power, C.low, upper-inners L some v.above, g),
      )

  -- One level more.
  pub climbing-more : {v : Levels} → Climbing L n v → v.power * (L.entries + 1) ≤ n
      → Climbing L n (record { above = v.above + 1; power = v.power * (L.entries + 1); over = v.power; higher = v.higher + v.over })
  climbing-more {v} C l =
      let f : v.above + 1 ≡ suc v.above = omega arith in
      let u = upper-inners L some v.above in
      rw f
      (record {
        power = power-more L.entries (upper L v.above) v.power C.power;
        low = l;
        levels = omega (arith, climbing-grows C, C.levels);
        over = λ k e. C.power ∙ ap (λ (x : ℕ). suc (upper L x)) (suc_inj e);
        inners = nodes L.entries (inners_over L v.above) (v.higher + v.over) v.power C.inners (C.power ∙ ap suc u);
      })
    where
      nodes : (e q s p : ℕ) → s ≡ q → p ≡ suc (e * q) → s + p ≡ suc e * q + 1
      nodes e q s p a b = omega arith

  pub climbing-end : {v : Levels} → Climbing L n v → n < v.power * (L.entries + 1) → Leveled L n v
  climbing-end {v} C h =
      let p = power-more L.entries (upper L v.above) v.power C.power in
      record {
        above = is-height v.above (omega (arith, C.power, C.low)) (omega (arith, p));
        power = C.power;
        over = C.over;
        inners = C.inners;
      }

  -- ---- what the levels tell

  module _ (p : 0 < n) {v : Levels} (K : Leveled L n v) where
    -- The last level takes an entry and has room.
    pub record Fits : Type 0 where
      pub last : n - (v.power - 1) ≡ last_level L n
      pub some-last : 0 < last_level L n
      pub enough : upper L v.above + last_level L n ≡ n
      pub room-last : last_level L n ≤ room L v.above
      pub power-low : (0 < v.power) × (v.power ≤ n)

    pub fits : Fits
    fits =
        let F = fitting L some n p in
        let e : v.above ≡ F.above = omega (arith, K.above, F.height-is) in
        let u = ap (upper L) e in
        record {
          last = omega (arith, u, K.power, F.last-is);
          some-last = F.last-pos;
          enough = omega (arith, u, F.last-is);
          room-last = omega (arith, ap (room L) e, F.last-room);
          power-low = (omega (arith, K.power), omega (arith, u, K.power, F.last-is, F.last-pos));
        }

    -- The nodes over the last level, and those above them.
    pub over-is : (k : ℕ) → v.above ≡ suc k → (v.over ≡ suc (upper L k)) × (v.higher ≡ inners_over L k)
    over-is k e =
        let o = K.over k e in
        (o, nodes L.entries (inners_over L k) v.higher v.over (K.inners ∙ ap (inners_over L) e) (o ∙ ap suc (upper-inners L some k)))
      where
        nodes : (e q h o : ℕ) → h + o ≡ suc e * q + 1 → o ≡ suc (e * q) → h ≡ q
        nodes e q h o a b = omega arith
