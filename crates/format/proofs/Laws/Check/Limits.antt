-- The check under two limits, the first nowhere above the second: unless the first refuse by 1 or 5, both answer the same. Assumes nothing.
use Prim.Native.Nat.{ℕ, zero, suc, ◌+◌, ◌%◌, ◌≤◌}
use Rattle.std.specs.Prelude.{◌≡◌, Bool, List, length, leb, ltb, eqb}
use Rattle.std.proofs.Math.Path.{refl}
use Rattle.std.proofs.Common.{ap, inl, inr, arith, leb-true, le-leb, ltb-true, lt-ltb}
use Rattle.std.proofs.Math.Bool.{true, false}
use Rattle.format.specs.Layout.{Layout, entries_in_range, head_size, leaf_size, inner_size, record_size, record_align, Limits, Within, nested}
use Rattle.format.specs.Refusal.{refuses, OfLimits}
use Rattle.format.specs.RelPtr.{at, below, target, absent, Destination}
use Rattle.format.specs.Node.{Kind, leaf, inner, other, child, kind}
use Rattle.format.specs.Check.{Checked, accepted, refused, bind, guard, counted, check_child, check_children, check_body, enter, check_at, place}
use Rattle.format.specs.Check.{check_node, root, recorded, check_root, check_archive}
use Rattle.format.proofs.Laws.Numbers.Limits.{nested-within}

-- x is a refusal of the limits, or it is y.
data Rises (x y : Checked) : Type 0 where
  limited : (r : ℕ) → OfLimits r → x ≡ refused r → Rises x y
  same : x ≡ y → Rises x y

guard-rises : (b : Bool) (r : ℕ) {x y : Checked} → Rises x y → Rises (guard b r x) (guard b r y)
guard-rises true r h = h
guard-rises false r h = same refl

-- A test of the limits that the second pass where the first do.
limit-rises : (b b' : Bool) (r : ℕ) {x y : Checked} → OfLimits r → (b ≡ true → b' ≡ true) → Rises x y → Rises (guard b r x) (guard b' r y)
limit-rises true b' r o l h = rw (l refl) h
limit-rises false b' r o l h = limited r o refl

bind-rises : {x y : Checked} (j k : ℕ → ℕ → Checked) → Rises x y → ((n t : ℕ) → Rises (j n t) (k n t)) → Rises (bind x j) (bind y k)
bind-rises j k (limited r o e) h = limited r o (rw e)
bind-rises {x} {y} j k (same e) h = rw e (by y)
  where
    by : (y : Checked) → Rises (bind y j) (bind y k)
    by (accepted n t) = h n t
    by (refused r) = same refl

module _ (L : Layout) (s : List ℕ) where
  module _ (j k : ℕ → ℕ → Checked) (h : (start f : ℕ) → Rises (j start f) (k start f)) where
    child-rises : (start f : ℕ) → Rises (check_child L s j start f) (check_child L s k start f)
    unfolding check_child
    child-rises start f = by (absent L s f) refl
      where
        by : (b : Bool) → absent L s f ≡ b → Rises (check_child L s j start f) (check_child L s k start f)
        by true e = rw (e, check_child) (same refl)
        by false e = rw (e, check_child) (h start f)

    children-rise : (p n i start m : ℕ) → Rises (check_children L s j p n i start m) (check_children L s k p n i start m)
    unfolding check_children
    children-rise p zero i start m = bind-rises _ _ (child-rises start (child L p i)) (λ n t. same refl)
    children-rise p (suc n) i start m = bind-rises _ _ (child-rises start (child L p i)) (λ a t. children-rise p n (suc i) t (m + a))

  body-rises : (j k : ℕ → ℕ → ℕ → Checked) → ((end start f : ℕ) → Rises (j end start f) (k end start f)) → (start p : ℕ) (c : Kind)
      → Rises (check_body L s j start p c) (check_body L s k start p c)
  unfolding check_body
  body-rises j k h start p leaf = same refl
  body-rises j k h start p inner = bind-rises _ _ (children-rise (j p) (k p) (h p) p L.entries 0 start L.entries) (λ n t. same refl)
  body-rises j k h start p other = same refl

  at-rises : (end start : ℕ) (t : Destination) (x y : Checked) → Rises x y → Rises (check_at L s end start t x) (check_at L s end start t y)
  unfolding check_at enter
  at-rises end start (at p) x y h =
      guard-rises (leb start p) 2 (guard-rises (leb (p + head_size L) end) 2 (guard-rises (eqb (p % 8) 0) 3 (by (kind L s p))))
    where
      by : (c : Kind) → Rises (enter L s end start p c x) (enter L s end start p c y)
      by leaf = guard-rises (leb (p + leaf_size L) end) 2 h
      by inner = guard-rises (leb (p + inner_size L) end) 2 h
      by other = same refl
  at-rises end start below x y h = same refl

  -- A node, where no fewer may be nested.
  node-rises : (d d' : ℕ) → d ≤ d' → (end start f : ℕ) → Rises (check_node L s d end start f) (check_node L s d' end start f)
  unfolding check_node
  node-rises zero zero l end start f = same refl
  node-rises zero (suc d') l end start f = at-rises end start (target L s f) _ _ (limited 5 (inr refl) refl)
  node-rises (suc d) zero l end start f = absurd (omega arith)
  node-rises (suc d) (suc d') l end start f =
      at-rises end start (target L s f) _ _
      (body-rises (check_node L s d) (check_node L s d') (node-rises d d' (omega arith)) start (place L s (target L s f)) (kind L s (place L s (target L s f))))

module _ (L : Layout) {M M' : Limits} (w : Within M M') (s : List ℕ) where
  root-rises : (r : ℕ) → Rises (check_root L M s r) (check_root L M' s r)
  unfolding check_root
  root-rises zero = same refl
  root-rises (suc n) = bind-rises _ _ (node-rises L s (nested M) (nested M') (nested-within w) (root L s) 0 (root L s)) (λ m t. same refl)

  longer : leb (length s) M.longest ≡ true → leb (length s) M'.longest ≡ true
  longer e = le-leb (length s) M'.longest (omega (arith, leb-true (length s) M.longest e, w.longest))

  deeper : ltb 1 M.depth ≡ true → ltb 1 M'.depth ≡ true
  deeper e = lt-ltb 1 M'.depth (omega (arith, ltb-true 1 M.depth e, w.depth))

  archive-rises : Rises (check_archive L M s) (check_archive L M' s)
  unfolding check_archive
  archive-rises =
      guard-rises (entries_in_range L) 24
      (limit-rises (leb (length s) M.longest) (leb (length s) M'.longest) 1 (inl refl) longer
      (guard-rises (leb (record_size L) (length s)) 2
      (guard-rises (eqb (root L s % record_align L) 0) 3
      (limit-rises (ltb 1 M.depth) (ltb 1 M'.depth) 5 (inr refl) deeper (root-rises (recorded L s))))))

  -- "for another reason than 1 or 5"
  pub same_check : ((r : ℕ) → counted (check_archive L M s) ≡ refuses r → OfLimits r → ⊥) → check_archive L M s ≡ check_archive L M' s
  same_check never = go archive-rises
    where
      go : Rises (check_archive L M s) (check_archive L M' s) → check_archive L M s ≡ check_archive L M' s
      go (limited r o e) = absurd (never r (ap counted e) o)
      go (same e) = e
