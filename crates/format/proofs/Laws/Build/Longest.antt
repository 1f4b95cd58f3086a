-- In every layout of 3 to 15 entries a node, 40,000 entries have at most 8 levels, and with a header of 4,096 bytes they make no archive that the check
-- finds too long. Assumes nothing.
use Prim.Native.Nat.{ℕ, zero, suc, ◌+◌, ◌-◌, ◌*◌, ◌/◌, ◌≤◌, ◌<◌, min}
use Rattle.std.specs.Prelude.{◌≡◌, List, length}
use Rattle.std.proofs.Common.{sym, ◌∙◌, subst, mul-le-mul_right, div-add-mod', lit≤}
use Rattle.std.proofs.Math.Path.{ap}
use native.Mathlib.Omega.{arith}
use Rattle.std.proofs.Math.Nat.{mul-le-mul}
use Rattle.std.proofs.Math.ListN.{length-append}
use Rattle.format.specs.Layout.{Width, two, four, eight, bytes, Layout, pointer, leaf_size, inner_size, server}
use Rattle.format.specs.Tree.{Branch, none_b, some_b, length_branch, KeyValue}
use Rattle.format.specs.Build.{log_from, height, last_level, tree_of, start, behind, archive}
use Rattle.format.specs.Weight.{upper, weight, inners_over, up, reach, first_own}
use Rattle.format.proofs.Laws.Numbers.Align.{zeros-lt}
use Rattle.format.proofs.Laws.Numbers.Widths.{bytes-some, bytes-few}
use Rattle.format.proofs.Laws.Build.Near.{leaf-inner}
use Rattle.format.proofs.Laws.Build.Height.{fitting}
use Rattle.format.proofs.Laws.Build.Built.{behind-length}
use Rattle.format.proofs.Laws.Build.Weight.{weight-le, tree-weighs}
use Rattle.format.proofs.Laws.Build.Sizes.{up-most, upper-inners, weight-size}

-- ---- by the entries a node

-- Of the last level, which takes t entries: its leaves, and the nodes over them, which are inner nodes and so 8 e bytes longer than leaves.
leaves : (e t u : ℕ) → 3 ≤ e → u * e ≤ t + e → 3 * ((16 + 16 * e) * u) ≤ 64 * (t + e)
leaves e t u least h = omega (arith, mul-le-mul_right u least)

parents : (e t y : ℕ) → 4 ≤ suc e → e ≤ 15 → y * (e * suc e) ≤ t + e * suc e → 8 * (e * y) ≤ 2 * t + 480
parents e t y least most h = omega (arith, mul-le-mul_right (e * y) least, mul-le-mul most most)

-- The nodes above those, by the number r of entries in all nodes over the last level but e.
above : (e q : ℕ) → 3 ≤ e → 4 ≤ suc e → 3 * ((16 + 24 * e) * q) ≤ 22 * (suc e * (e * q))
above e q least least' = omega (arith, mul-le-mul_right q least, mul-le-mul_right (e * q) least')

over : (e q : ℕ) → (16 + 16 * e) * suc (e * q) ≡ 16 + 16 * e + 16 * (suc e * (e * q))
over e q = omega arith

parts : (e u y d q : ℕ) → (16 + 16 * e) * (u + d) + (16 + 24 * e) * (y + q) ≡ (16 + 16 * e) * u + (16 + 16 * e) * (d + y) + 8 * (e * y) + (16 + 24 * e) * q
parts e u y d q = omega arith

sum : (a b c d t r e m : ℕ) → 3 * a ≤ 64 * (t + e) → b ≡ 16 + 16 * e + 16 * r → c ≤ 2 * t + 480 → 3 * d ≤ 22 * r → t ≤ m → r + e + m ≤ 40000 → e ≤ 15
    → a + b + c + d ≤ 1040000
sum a b c d t r e m ha hb hc hd ht few most = omega arith

-- u leaves on the last level, y inner nodes over them, d leaves beside those, q inner nodes above; m entries are left for the last level.
bound : (e t m q u y d : ℕ) → 3 ≤ e → e ≤ 15 → t ≤ m → u * e ≤ t + e → y * (e * suc e) ≤ t + e * suc e → d + y ≡ suc (e * q)
    → suc e * (e * q) + e + m ≤ 40000 → (16 + 16 * e) * (u + d) + (16 + 24 * e) * (y + q) ≤ 1040000
bound e t m q u y d least most ht hu hy hd few =
    let least' : 4 ≤ suc e = omega arith in
    subst (λ (x : ℕ). x ≤ 1040000) (sym (parts e u y d q))
    (sum _ _ _ _ t (suc e * (e * q)) e m (leaves e t u least hu) (ap (λ (x : ℕ). (16 + 16 * e) * x) hd ∙ over e q) (parents e t y least' most hy)
    (above e q least least') ht few most)

-- ---- by the layout

leaf-by : (w : Width) (e : ℕ) → (8 + 16 * e + bytes w + 7) / 8 * 8 ≤ 16 + 16 * e
leaf-by two e = omega arith
leaf-by four e = omega arith
leaf-by eight e = omega arith

inner-by : (w : Width) (e : ℕ) → (8 + 16 * e + bytes w * suc e + 7) / 8 * 8 ≤ 16 + 24 * e
inner-by two e = omega arith
inner-by four e = omega arith
inner-by eight e = omega arith

-- With 3 entries a node the levels take fewest.
fewest : ℕ → ℕ
fewest zero = 0
fewest (suc h) = 4 * fewest h + 3

few-levels : (h : ℕ) → fewest h < 40000 → h ≤ 7
unfolding fewest
few-levels zero l = lit≤ tt
few-levels (suc zero) l = lit≤ tt
few-levels (suc (suc zero)) l = lit≤ tt
few-levels (suc (suc (suc zero))) l = lit≤ tt
few-levels (suc (suc (suc (suc zero)))) l = lit≤ tt
few-levels (suc (suc (suc (suc (suc zero))))) l = lit≤ tt
few-levels (suc (suc (suc (suc (suc (suc zero)))))) l = lit≤ tt
few-levels (suc (suc (suc (suc (suc (suc (suc zero))))))) l = lit≤ tt
few-levels (suc (suc (suc (suc (suc (suc (suc (suc h)))))))) l = absurd (omega arith)

module _ (L : Layout) (least : 3 ≤ L.entries) (most : L.entries ≤ 15) where
  some : 0 < L.entries
  some = omega arith

  fewest-upper : (h : ℕ) → fewest h ≤ upper L h
  unfolding fewest
  fewest-upper zero = omega arith
  fewest-upper (suc h) =
      let g = mul-le-mul {n₁ = 4} {m₁ = fewest h} {n₂ = suc L.entries} {m₂ = upper L h} (omega arith) (fewest-upper h) in omega (arith, g)

  -- Depth 16 is enough.
  pub height-most : (n : ℕ) → 0 < n → n ≤ 40000 → height L n ≤ 8
  height-most n p l =
      let F = fitting L some n p in
      omega (arith, F.height-is, few-levels F.above (omega (arith, fewest-upper F.above, F.last-is, F.last-pos)))

  leaf-most : leaf_size L ≤ 256
  leaf-most = omega (arith, leaf-by L.width L.entries)

  pub inner-most : inner_size L ≤ 376
  inner-most = omega (arith, inner-by L.width L.entries)

  size-most : (x y : ℕ) → leaf_size L * x + inner_size L * y ≤ (16 + 16 * L.entries) * x + (16 + 24 * L.entries) * y
  size-most x y = sum _ _ _ _ (mul-le-mul_right x (leaf-by L.width L.entries)) (mul-le-mul_right y (inner-by L.width L.entries))
    where
      sum : (a b c d : ℕ) → a ≤ c → b ≤ d → a + b ≤ c + d
      sum a b c d h g = omega arith

  weight-small : (h m n : ℕ) → upper L h + m ≡ n → n ≤ 40000 → weight L h m ≤ 1040000
  weight-small zero m n e l = omega (arith, weight-le L 0 m, leaf-most)
  weight-small (suc k) m n e l =
      let E = L.entries in
      let K = E * suc E in
      let q = inners_over L k in
      let w = upper-inners L some k in
      let t = min m (K * suc (upper L k)) in
      let few : suc E * (E * q) + E + m ≤ 40000 = omega (arith, ap (λ (x : ℕ). suc E * x) w) in
      let fits : up t K ≤ suc (upper L k) = up-most t K (suc (upper L k)) (omega (arith, mul-le-mul_right (suc E) least)) (omega arith) in
      let d = suc (upper L k) - up t K in
      let b = bound E t m q (up t E) (up t K) d least most (omega arith) (needed t E) (needed t K) (omega (arith, fits, w)) few in
      omega (arith, weight-size L some k m, size-most (up t E + d) (up t K + q), b)
    where
      needed : (t k : ℕ) → up t k * k ≤ t + k
      needed t k = omega (arith, div-add-mod' (t + (k - 1)) k)

  -- The nodes.
  pub nodes-small : (n : ℕ) → n ≤ 40000 → weight L (height L n - 1) (last_level L n) ≤ 1040000
  unfolding height log_from
  nodes-small zero l = omega (arith, weight-le L 0 (last_level L 0), leaf-most)
  nodes-small (suc n) l =
      let F = fitting L some (suc n) (omega arith) in
      let eh : height L (suc n) - 1 ≡ F.above = omega (arith, F.height-is) in
      let i = weight-small F.above (last_level L (suc n)) (suc n) F.last-is l in
      omega (arith, ap (λ (h : ℕ). weight L h (last_level L (suc n))) eh, i)

  pub tree-long : (es : List KeyValue) → length es ≤ 40000 → length_branch L (tree_of L es) ≤ 1040000
  tree-long es l = omega (arith, tree-weighs L es some, nodes-small (length es) l)

  -- How far the root's first offset leads.
  pub reach-small : (n : ℕ) → n ≤ 40000 → reach L (height L n - 1) (last_level L n) ≤ 1040624
  reach-small n l = omega (arith, by (height L n - 1) (last_level L n), nodes-small n l)
    where
      first : (h : ℕ) → first_own L h ≤ inner_size L
      first zero = leaf-inner L
      first (suc h) = omega arith

      by : (h m : ℕ) → reach L h m ≤ weight L h m + 624
      by zero m = omega arith
      by (suc h) m = omega (arith, first h, inner-most)

  -- ---- the archive

  pub start-near : (b : Branch) (h : ℕ) → start L b h < h + 8
  start-near none_b h = omega (arith, zeros-lt (pointer L) h (bytes-some L.width), bytes-few L.width)
  start-near (some_b t) h = omega (arith, zeros-lt 8 h (omega arith))

  pub end-most : (h n : ℕ) (es : List KeyValue) → h ≤ 4096 → length es ≤ 40000 → h + length (behind L h (tree_of L es) n) ≤ server.longest
  unfolding server
  end-most h n es low few = omega (arith, behind-length L h n (tree_of L es), start-near (tree_of L es) h, tree-long es few, bytes-few L.width)

  pub archive-most : (front : List ℕ) (es : List KeyValue) → length front ≤ 4096 → length es ≤ 40000 → length (archive L front es) ≤ server.longest
  unfolding archive
  archive-most front es low few =
      let e = length-append front (behind L (length front) (tree_of L es) (length es)) in
      omega (arith, e, end-most (length front) (length es) es low few)
