-- The formula gives the bytes of a filled subtree, over every layout: the last level's leaves, their parents, the leaves beside those, and the nodes
-- above. Assumes nothing.
use Prim.Native.Nat.{ℕ, zero, suc, ◌+◌, ◌-◌, ◌*◌, ◌/◌, ◌≤◌, ◌<◌, min}
use Rattle.std.specs.Prelude.{◌≡◌}
use Rattle.std.proofs.Math.Path.{sym, ap, ap₂}
use Rattle.std.proofs.Common.{◌∙◌, mul-suc, mul-one, mul-le-mul_right, div-add-mod', mul_assoc, mul_comm, mul-pos}
use native.Mathlib.Omega.{arith}
use Rattle.std.proofs.Math.Decide.{dec_lt}
use Rattle.std.proofs.Math.Nat.{mul-zero, div-eq_of_lt, add-mul-div_left}
use Rattle.format.specs.Layout.{Layout, leaf_size, inner_size}
use Rattle.format.specs.Weight.{weighs, upper, room, weight, inners_over, up, size_by}

-- ---- parts of k entries

up-zero : (k : ℕ) → 0 < k → up 0 k ≡ 0
up-zero k h = div-eq_of_lt {n = 0 + (k - 1)} {m = k} (omega arith)

up_more : (x k y : ℕ) → 0 < k → up (x + k * y) k ≡ up x k + y
up_more x k y h =
    let e : x + k * y + (k - 1) ≡ x + (k - 1) + k * y = omega arith in
    ap (λ (n : ℕ). n / k) e ∙ add-mul-div_left (x + (k - 1)) y {y = k} h

up-whole : (k y : ℕ) → 0 < k → up (k * y) k ≡ y
up-whole k y h =
    let e : k * y ≡ 0 + k * y = omega arith in
    let z : up 0 k + y ≡ y = omega (arith, up-zero k h) in
    ap (λ (n : ℕ). up n k) e ∙ up_more 0 k y h ∙ z

pub up-most : (x k j : ℕ) → 0 < k → x ≤ k * j → up x k ≤ j
up-most x k j h l = by (dec_lt j (up x k))
  where
    by : Dec (j < up x k) → up x k ≤ j
    by (no g) = omega arith
    by (yes g) =
        let d = div-add-mod' (x + (k - 1)) k in
        let m = mul-le-mul_right k g in
        let c : k * j ≡ j * k = mul_comm k j in
        absurd (omega (arith, d, m, c, l, h))

up_one : (x k : ℕ) → 0 < x → x ≤ k → up x k ≡ 1
up_one zero k a l = absurd (omega arith)
up_one (suc x) k a l =
    let e : suc x + (k - 1) ≡ x + k * 1 = omega (arith, mul-one k) in
    ap (λ (n : ℕ). n / k) e ∙ add-mul-div_left x 1 {y = k} (omega arith) ∙ ap (λ (n : ℕ). n + 1) (div-eq_of_lt {n = x} {m = k} (omega arith))

-- ---- the formula of subtrees beside each other

module _ (A B e : ℕ) (some : 0 < e) where
  -- What a node over the last level takes there.
  abbrev K : ℕ
  K = e * suc e

  many : 0 < K
  many = mul-pos {m = e} {n = suc e} some (omega arith)

  abbrev size : ℕ → ℕ → ℕ → ℕ
  size = size_by A B e

  -- By the numbers of leaves, on the last level and over it, and of inner nodes.
  abbrev of : ℕ → ℕ → ℕ → ℕ
  of x d y = A * (x + d) + B * y

  add : (x y d q J Q : ℕ) → of x d (y + q) + of 0 J (0 + Q) ≡ of x (J + d) (y + (Q + q))
  add x y d q J Q = omega arith

  join : (p x d q a b J Q : ℕ) → of (suc e * p) 0 (p + q) + of a J (b + Q) ≡ of (a + suc e * p) J (b + p + (Q + q))
  join p x d q a b J Q = omega arith

  -- The last level's entries end in the first of two; or fill it.
  low : (m p q J Q : ℕ) → m ≤ K * p → size p q m + size J Q 0 ≡ size (J + p) (Q + q) m
  low m p q J Q h =
      let y = up m K in
      let l : y ≤ p = up-most m K p many h in
      let z₁ = up-zero e some in
      let z₂ = up-zero K many in
      let s : J + p - y ≡ J + (p - y) = omega arith in
      let z_j : J - 0 ≡ J = omega arith in
      ap₂ (λ (a b : ℕ). size p q m + (A * (a + (J - b)) + B * (b + Q))) z₁ z₂
      ∙ ap (λ (a : ℕ). size p q m + of 0 a (0 + Q)) z_j
      ∙ add (up m e) y (p - y) q J Q
      ∙ ap (λ (a : ℕ). of (up m e) a (y + (Q + q))) (sym s)

  high : (b p q J Q : ℕ) → b ≤ K * J → size p q (K * p) + size J Q b ≡ size (J + p) (Q + q) (b + K * p)
  high b p q J Q h =
      let y = up b K in
      let l : y ≤ J = up-most b K J many h in
      let ek : K * p ≡ e * (suc e * p) = mul_assoc e (suc e) p in
      let e₁ : up (K * p) e ≡ suc e * p = ap (λ (n : ℕ). up n e) ek ∙ up-whole e (suc e * p) some in
      let e₂ : up (K * p) K ≡ p = up-whole K p many in
      let e₃ : up (b + K * p) e ≡ up b e + suc e * p = ap (λ (n : ℕ). up (b + n) e) ek ∙ up_more b e (suc e * p) some in
      let e₄ : up (b + K * p) K ≡ y + p = up_more b K p many in
      let z : p - p ≡ 0 = omega arith in
      let s : J + p - (y + p) ≡ J - y = omega arith in
      ap₂ (λ (a c : ℕ). A * (a + (p - c)) + B * (c + q) + size J Q b) e₁ e₂
      ∙ ap (λ (a : ℕ). of (suc e * p) a (p + q) + size J Q b) z
      ∙ join p 0 0 q (up b e) y (J - y) Q
      ∙ ap (λ (a : ℕ). of (up b e + suc e * p) a (y + p + (Q + q))) (sym s)
      ∙ ap₂ (λ (a c : ℕ). A * (a + (J + p - c)) + B * (c + (Q + q))) (sym e₃) (sym e₄)

  step : (m p q J Q : ℕ) → size p q (min m (K * p)) + size J Q (min (m - K * p) (K * J)) ≡ size (J + p) (Q + q) (min m (K * (J + p)))
  step m p q J Q = go (dec_lt (K * p) m)
    where
      go : Dec (K * p < m) → size p q (min m (K * p)) + size J Q (min (m - K * p) (K * J)) ≡ size (J + p) (Q + q) (min m (K * (J + p)))
      go (no h) =
          let e₁ : min m (K * p) ≡ m = omega arith in
          let e₂ : min (m - K * p) (K * J) ≡ 0 = omega arith in
          let e₃ : min m (K * (J + p)) ≡ m = omega arith in
          ap₂ (λ (a b : ℕ). size p q a + size J Q b) e₁ e₂ ∙ low m p q J Q (omega arith) ∙ ap (size (J + p) (Q + q)) (sym e₃)
      go (yes h) =
          let b = min (m - K * p) (K * J) in
          let e₁ : min m (K * p) ≡ K * p = omega arith in
          let e₃ : min m (K * (J + p)) ≡ b + K * p = omega arith in
          ap (λ (a : ℕ). size p q a + size J Q b) e₁ ∙ high b p q J Q (omega arith) ∙ ap (size (J + p) (Q + q)) (sym e₃)

  none : size 0 0 0 ≡ 0
  none = ap₂ (λ (a b : ℕ). A * (a + (0 - b)) + B * (b + 0)) (up-zero e some) (up-zero K many) ∙ omega arith

  -- j of them that are alike.
  weighs-by : (p q : ℕ) (g : ℕ → ℕ) → ((m : ℕ) → g m ≡ size p q (min m (K * p))) → (j m : ℕ) → weighs g (K * p) j m ≡ size (p * j) (q * j) (min m (K * (p * j)))
  weighs-by p q g h zero m =
      let a = mul-zero p in
      let b = mul-zero q in
      let z : min m (K * 0) ≡ 0 = omega (arith, mul-zero K) in
      sym (ap₂ (λ (x y : ℕ). size x y (min m (K * x))) a b ∙ ap (size 0 0) z ∙ none)
  weighs-by p q g h (suc j) m =
      let i : weighs g (K * p) j (m - K * p) ≡ size (p * j) (q * j) (min (m - K * p) (K * (p * j))) = weighs-by p q g h j (m - K * p) in
      ap₂ (λ (x y : ℕ). x + y) (h m) i ∙ step m p q (p * j) (q * j)
      ∙ ap₂ (λ (x y : ℕ). size x y (min m (K * x))) (sym (mul-suc p j)) (sym (mul-suc q j))

-- ---- the levels

module _ (L : Layout) (some : 0 < L.entries) where
  pub upper-inners : (l : ℕ) → upper L l ≡ L.entries * inners_over L l
  upper-inners zero = sym (mul-zero L.entries)
  upper-inners (suc l) = by L.entries (upper L l) (inners_over L l) (upper-inners l)
    where
      by : (e u q : ℕ) → u ≡ e * q → suc e * u + e ≡ e * (suc e * q + 1)
      by e u q h = let g : suc e * u ≡ suc e * (e * q) = ap (λ (x : ℕ). suc e * x) h in omega arith

  power-more : (l : ℕ) → suc (upper L (suc l)) ≡ suc (upper L l) * suc L.entries
  power-more l = by L.entries (upper L l)
    where
      by : (e u : ℕ) → suc (suc e * u + e) ≡ suc u * suc e
      by e u = omega arith

  room-power : (l : ℕ) → room L l ≡ L.entries * suc (upper L l)
  room-power zero = sym (mul-one L.entries)
  room-power (suc l) =
      ap (λ (x : ℕ). suc L.entries * x) (room-power l) ∙ by L.entries (suc (upper L l)) ∙ ap (λ (x : ℕ). L.entries * x) (sym (power-more l))
    where
      by : (e x : ℕ) → suc e * (e * x) ≡ e * (x * suc e)
      by e x = omega arith

  room-more : (l : ℕ) → room L (suc l) ≡ L.entries * suc L.entries * suc (upper L l)
  room-more l = room-power (suc l) ∙ ap (λ (x : ℕ). L.entries * x) (power-more l) ∙ by L.entries (suc (upper L l))
    where
      by : (e x : ℕ) → e * (x * suc e) ≡ e * suc e * x
      by e x = omega arith

  -- The last level below one node.
  leaves-weigh : (j m : ℕ) → weighs (weight L 0) L.entries j m ≡ leaf_size L * up (min m (L.entries * j)) L.entries
  unfolding weight
  leaves-weigh zero m =
      let z : min m (L.entries * 0) ≡ 0 = omega (arith, mul-zero L.entries) in
      sym (ap (λ (x : ℕ). leaf_size L * up x L.entries) z ∙ ap (λ (x : ℕ). leaf_size L * x) (up-zero L.entries some) ∙ mul-zero (leaf_size L))
  leaves-weigh (suc j) zero =
      let e = L.entries in
      let i : weighs (weight L 0) e j (0 - e) ≡ leaf_size L * up (min (0 - e) (e * j)) e = leaves-weigh j (0 - e) in
      let z : min (0 - e) (e * j) ≡ min 0 (e * suc j) = omega arith in
      zero-sum _ ∙ i ∙ ap (λ (x : ℕ). leaf_size L * up x e) z
    where
      zero-sum : (n : ℕ) → 0 + n ≡ n
      zero-sum n = omega arith
  leaves-weigh (suc j) (suc m) =
      let e = L.entries in
      let i : weighs (weight L 0) e j (suc m - e) ≡ leaf_size L * up (min (suc m - e) (e * j)) e = leaves-weigh j (suc m - e) in
      ap (λ (x : ℕ). leaf_size L + x) i ∙ go (dec_lt e (suc m))
    where
      more : (a x y : ℕ) → y ≡ x + 1 → a + a * x ≡ a * y
      more a x y h = let g : a * y ≡ a * (x + 1) = ap (λ (z : ℕ). a * z) h in omega arith

      go : Dec (L.entries < suc m)
          → leaf_size L + leaf_size L * up (min (suc m - L.entries) (L.entries * j)) L.entries
          ≡ leaf_size L * up (min (suc m) (L.entries * suc j)) L.entries
      go (yes g) =
          let e = L.entries in
          let x = min (suc m - e) (e * j) in
          let s : min (suc m) (e * suc j) ≡ x + e * 1 = omega arith in
          more (leaf_size L) (up x e) _ (ap (λ (n : ℕ). up n e) s ∙ up_more x e 1 some)
      go (no g) =
          let e = L.entries in
          let z : min (suc m - e) (e * j) ≡ 0 = omega arith in
          let s : min (suc m) (e * suc j) ≡ suc m = omega arith in
          more (leaf_size L) (up (min (suc m - e) (e * j)) e) _
          (ap (λ (n : ℕ). up n e) s ∙ up_one (suc m) e (omega arith) (omega arith)
          ∙ sym (ap (λ (n : ℕ). up n e + 1) z ∙ ap (λ (n : ℕ). n + 1) (up-zero e some)))

  -- k + 1 levels above the last one.
  abbrev formula : ℕ → ℕ → ℕ
  formula k m = size_by (leaf_size L) (inner_size L) L.entries (suc (upper L k)) (inners_over L k) (min m (L.entries * suc L.entries * suc (upper L k)))

  formula-none : formula 0 0 ≡ leaf_size L
  formula-none =
      let e = L.entries in
      let K = e * suc e in
      let z : min 0 (K * 1) ≡ 0 = omega arith in
      ap (λ (t : ℕ). size_by (leaf_size L) (inner_size L) e 1 0 t) z
      ∙ ap₂ (λ (a b : ℕ). leaf_size L * (a + (1 - b)) + inner_size L * (b + 0)) (up-zero e some) (up-zero K (mul-pos {m = e} {n = suc e} some (omega arith)))
      ∙ by (leaf_size L) (inner_size L)
    where
      by : (a b : ℕ) → a * (0 + (1 - 0)) + b * (0 + 0) ≡ a
      by a b = omega arith

  formula-low : (m : ℕ) → leaf_size L * up (min (suc m) (L.entries * suc L.entries)) L.entries + inner_size L ≡ formula 0 (suc m)
  formula-low m =
      let e = L.entries in
      let K = e * suc e in
      let h = mul-pos {m = e} {n = suc e} some (omega arith) in
      let t = min (suc m) K in
      let z : t ≡ min (suc m) (K * 1) = omega (arith, mul-one K) in
      let o : up t K ≡ 1 = up_one t K (omega arith) (omega arith) in
      by (leaf_size L) (inner_size L) (up t e) ∙ ap (λ (b : ℕ). leaf_size L * (up t e + (1 - b)) + inner_size L * (b + 0)) (sym o)
      ∙ ap (λ (t : ℕ). size_by (leaf_size L) (inner_size L) e 1 0 t) z
    where
      by : (a b x : ℕ) → a * x + b ≡ a * (x + (1 - 1)) + b * (1 + 0)
      by a b x = omega arith

  pub weight-size : (k m : ℕ) → let e = L.entries in
      let p = suc (upper L k) in
      weight L (suc k) m ≡ size_by (leaf_size L) (inner_size L) e p (inners_over L k) (min m (e * suc e * p))
  unfolding weight
  weight-size zero zero = sym formula-none
  weight-size zero (suc m) = ap (λ (x : ℕ). x + inner_size L) (leaves-weigh (suc L.entries) (suc m)) ∙ formula-low m
  weight-size (suc k) m =
      let e = L.entries in
      let p = suc (upper L k) in
      let q = inners_over L k in
      let i = weighs-by (leaf_size L) (inner_size L) e some p q (weight L (suc k)) (weight-size k) (suc e) m in
      ap (λ (c : ℕ). weighs (weight L (suc k)) c (suc e) m + inner_size L) (room-more k)
      ∙ ap (λ (x : ℕ). x + inner_size L) i
      ∙ one (p * suc e) (q * suc e) (min m (e * suc e * (p * suc e)))
      ∙ ap₂ (λ (x y : ℕ). size_by (leaf_size L) (inner_size L) e x y (min m (e * suc e * x))) (sym (power-more k)) (nodes-more e q)
    where
      nodes-more : (e q : ℕ) → q * suc e + 1 ≡ suc e * q + 1
      nodes-more e q = omega arith

      last : (b y Q : ℕ) → b * (y + Q) + b ≡ b * (y + (Q + 1))
      last b y Q = omega arith

      one : (J Q t : ℕ) → size_by (leaf_size L) (inner_size L) L.entries J Q t + inner_size L ≡ size_by (leaf_size L) (inner_size L) L.entries J (Q + 1) t
      one J Q t =
          let l = last (inner_size L) (up t (L.entries * suc L.entries)) Q in
          sum _ _ _ _ l
        where
          sum : (a x b y : ℕ) → x + b ≡ y → a + x + b ≡ a + y
          sum a x b y h = omega arith
