-- The streaming builder at the last level: its leaves, and the node above them in which the last level ends. Assumes nothing.
use Rattle.std.specs.Prelude.{◌≡◌, false, get_or, take, drop, None}
use Rattle.std.proofs.Math.Path.{refl, ap, subst}
use Rattle.std.proofs.Common.{sym, ◌∙◌, add-zero, add-suc, not-suc-le-zero, take-suc, drop-cons, length-take-le}
use mathlib.Core.List.{List, [], ◌∷◌, ◌++◌, append_assoc, append-nil}
use Prim.Native.Nat.{ℕ, zero, suc, ◌+◌, ◌-◌, ◌*◌, ◌≤◌, ◌<◌, min}
use native.Mathlib.Omega.{arith}
use Rattle.std.proofs.Math.Decide.{dec_lt}
use Rattle.std.proofs.Math.ListN.{length, length-append, length-drop}
use Rattle.format.specs.Layout.{Layout}
use Rattle.format.specs.Tree.{Slot, slot_of, inner_bytes, length_branches, length_branch, child_of, slots_of, greater_of, write_branches}
use Rattle.format.specs.Tree.{write_branch, KeyValue}
use Rattle.format.specs.Build.{Filled, FilledBranches, fill_next, fill_branches, fill_leaf, fill}
use Rattle.format.specs.Serialize.{State, with_inners, close_leaf, climb, Taken, take_entries, transit, push_leaf, turn}
use Rattle.format.proofs.Laws.Build.LoopInner.{extra_level, one-extra, Left, left-pos, Far, no_pair, last_of, more_of, ready, done, sealed, shut}
use Rattle.format.proofs.Laws.Build.LoopInner.{closing, grown, shift-climb, Comes}
use Rattle.format.proofs.Laws.Build.LoopSteps.{turn-put, turn-close, turn_end, climb-stack, TurnsTo, leads-refl, leads-then, leads-turn, leads-to}

module _ (L : Layout) where
  -- ---- leaves

  -- The open leaf holds the first k entries.
  abbrev held : List (List Slot) → ℕ → ℕ → List KeyValue → ℕ → List ℕ → State
  held S c k es p bs =
      record { open_leaf = take k es; open_inners = S; child_pos = None; leaf_entries = c; iter = drop k es; pos = p; bytes = bs; panics = false }

  pushed : (S : List (List Slot)) (c j : ℕ) (es : List KeyValue) (p : ℕ) (bs : List ℕ) → j < length es
      → push_leaf L (held S c j es p bs) (get_or es j no_pair) (drop (suc j) es) ≡ held S (suc c) (suc j) es p bs
  pushed S c j es p bs h = ap (λ (x : List KeyValue). leaf x) (sym (take-suc es j no_pair h))
    where
      leaf : List KeyValue → State
      leaf x = record { open_leaf = x; open_inners = S; child_pos = None; leaf_entries = suc c; iter = drop (suc j) es; pos = p; bytes = bs; panics = false }

  leaf-length : (j : ℕ) (es : List KeyValue) → j < length es → length (take j es ++ (get_or es j no_pair ∷ [])) ≡ suc j
  leaf-length j es h = length-append (take j es) (get_or es j no_pair ∷ []) ∙ omega (arith, length-take-le j es (omega arith))

  hold : (S : List (List Slot)) (ll c j : ℕ) (es : List KeyValue) (p : ℕ) (bs : List ℕ) → j < L.entries → j ≤ length es → Far ll c j
      → TurnsTo L ll (ready L S 0 c es p bs) (held S (c + j) j es p bs)
  hold S ll c zero es p bs h l f =
      leads-to L ll (ready L S 0 c es p bs) (held S c 0 es p bs) (held S (c + 0) 0 es p bs) (leads-refl L ll (ready L S 0 c es p bs))
      (ap (λ (i : ℕ). held S i 0 es p bs) (sym (add-zero c)))
  hold S ll c (suc j) es p bs h l f =
      let s = held S (c + j) j es p bs in
      let e = get_or es j no_pair in
      let a : TurnsTo L ll (ready L S 0 c es p bs) s = hold S ll c j es p bs (omega arith) (omega arith) (λ i k z. f i (omega arith) z) in
      let t : turn L ll e (drop (suc j) es) s ≡ held S (c + suc j) (suc j) es p bs =
      turn-put L ll e (drop (suc j) es) s (λ z. f j (omega arith) z) (λ z. omega (arith, leaf-length j es l)) ∙ pushed S (c + j) j es p bs l
      ∙ ap (λ (i : ℕ). held S i (suc j) es p bs) (sym (add-suc c j)) in
      leads-then L ll (ready L S 0 c es p bs) s (held S (c + suc j) (suc j) es p bs) a
      (leads-to L ll s (turn L ll e (drop (suc j) es) s) (held S (c + suc j) (suc j) es p bs)
      (leads-turn L ll s e (drop (suc j) es) (drop-cons es j no_pair l)) t)

  -- A full leaf that does not end the last level.
  leaf-close : (S : List (List Slot)) (ll c j : ℕ) (es : List KeyValue) (p : ℕ) (bs : List ℕ) (m : ℕ) → suc j ≡ L.entries → j < length es → Far ll c (suc j)
      → TurnsTo L ll (ready L S 0 c es p bs) (climb L S 0 (done L (c + suc j) (fill_leaf L (suc j) m es) p bs))
  leaf-close S ll c j es p bs m ej l f =
      let s = held S (c + j) j es p bs in
      let e = get_or es j no_pair in
      let d : ℕ → State = λ i. done L i (fill_leaf L (suc j) m es) p bs in
      let a : TurnsTo L ll (ready L S 0 c es p bs) s = hold S ll c j es p bs (omega arith) (omega arith) (λ i k z. f i (omega arith) z) in
      let t : turn L ll e (drop (suc j) es) s ≡ climb L S 0 (d (c + suc j)) =
      turn-close L ll e (drop (suc j) es) s (λ z. f j (omega arith) z) (leaf-length j es l ∙ ej)
      ∙ ap (λ (x : State). climb L S 0 (close_leaf L x)) (pushed S (c + j) j es p bs l)
      ∙ climb-stack L S 0 (d (suc (c + j))) S ∙ ap (λ (i : ℕ). climb L S 0 (d i)) (sym (add-suc c j)) in
      leads-then L ll (ready L S 0 c es p bs) s (climb L S 0 (d (c + suc j))) a
      (leads-to L ll s (turn L ll e (drop (suc j) es) s) (climb L S 0 (d (c + suc j))) (leads-turn L ll s e (drop (suc j) es) (drop-cons es j no_pair l)) t)

  pub leaf-full : 0 < L.entries → (S : List (List Slot)) (ll c : ℕ) (es : List KeyValue) (p : ℕ) (bs : List ℕ) (m : ℕ) → L.entries ≤ length es
      → Far ll c L.entries
      → TurnsTo L ll (ready L S 0 c es p bs) (climb L S 0 (done L (c + L.entries) (fill_leaf L L.entries m es) p bs))
  leaf-full some S ll c es p bs m l f =
      let j = L.entries - 1 in
      let ej : suc j ≡ L.entries = omega arith in
      subst (λ (k : ℕ). TurnsTo L ll (ready L S 0 c es p bs) (climb L S 0 (done L (c + k) (fill_leaf L k m es) p bs))) ej
      (leaf-close S ll c j es p bs m ej (omega arith) (λ i k z. f i (omega arith) z))

  -- The leaf that ends the last level.
  pub leaf_last : (S : List (List Slot)) (ll c j : ℕ) (es : List KeyValue) (p : ℕ) (bs : List ℕ) → j < L.entries → j < length es → c + suc j ≡ ll
      → let u = transit L S (with_inners (done L ll (fill_leaf L (suc j) 0 es) p bs) S) in TurnsTo L ll (ready L S 0 c es p bs) (climb L u.open_inners 0 u)
  leaf_last S ll c j es p bs h l z =
      let s = held S (c + j) j es p bs in
      let e = get_or es j no_pair in
      let ez : suc (c + j) ≡ ll = omega arith in
      let d : ℕ → State = λ i. with_inners (done L i (fill_leaf L (suc j) 0 es) p bs) S in
      let after : State → State = λ x. let u = transit L S x in climb L u.open_inners 0 u in
      let a : TurnsTo L ll (ready L S 0 c es p bs) s = hold S ll c j es p bs h (omega arith) (λ i k x. omega arith) in
      let t : turn L ll e (drop (suc j) es) s ≡ after (d ll) =
      turn_end L ll e (drop (suc j) es) s ez ∙ ap (λ (x : State). after (close_leaf L x)) (pushed S (c + j) j es p bs l) ∙ ap (λ (i : ℕ). after (d i)) ez in
      leads-then L ll (ready L S 0 c es p bs) s (after (d ll)) a
      (leads-to L ll s (turn L ll e (drop (suc j) es) s) (after (d ll)) (leads-turn L ll s e (drop (suc j) es) (drop-cons es j no_pair l)) t)

  -- ---- the node over the last level

  last-big : (m : ℕ) (es : List KeyValue) → L.entries < m → fill L 0 m es ≡ fill_leaf L L.entries (m - L.entries) es
  unfolding fill
  last-big zero es h = absurd (not-suc-le-zero h)
  last-big (suc m) es h = let e : min (suc m) L.entries ≡ L.entries = omega arith in ap (λ (k : ℕ). fill_leaf L k (suc m - k) es) e

  pub last-small : (j : ℕ) (es : List KeyValue) → j < L.entries → fill L 0 (suc j) es ≡ fill_leaf L (suc j) 0 es
  unfolding fill
  last-small j es h =
      let e : min (suc j) L.entries ≡ suc j = omega arith in
      let z : suc j - suc j ≡ 0 = omega arith in
      ap (λ (k : ℕ). fill_leaf L k (suc j - k) es) e ∙ ap (λ (k : ℕ). fill_leaf L (suc j) k es) z

  -- Once the last level has ended, a node takes entries with no child before them.
  abbrev bare_of : ℕ → List KeyValue → FilledBranches
  bare_of k es = fill_branches (fill L 0) k 0 es

  record Bare (k : ℕ) (n : List Slot) (es : List KeyValue) (p : ℕ) (R : FilledBranches) : Type 0 where
    pub takes : take_entries L k n None es ≡ record { node = n ++ slots_of L R.branches p; child_pos = greater_of L R.branches p; iter = R.rest }
    pub bytes : write_branches L R.branches p ≡ []
    pub size : length_branches L R.branches ≡ 0
    pub last : R.last ≡ 0

  bare : (k : ℕ) (n : List Slot) (es : List KeyValue) (p : ℕ) → k ≤ length es → Bare k n es p (bare_of k es)
  unfolding fill take_entries
  bare zero n es p h = record { takes = ap (λ (x : List Slot). taken x) (sym (append-nil n)); bytes = refl; size = refl; last = refl }
    where
      taken : List Slot → Taken L
      taken x = record { node = x; child_pos = None; iter = es }
  bare (suc k) n [] p h = absurd (not-suc-le-zero h)
  bare (suc k) n (e ∷ es) p h =
      let b = bare k (n ++ (slot_of e None ∷ [])) es (p + 0) (omega arith) in
      let R = bare_of k es in
      record {
        takes = b.takes ∙ ap (λ (x : List Slot). taken R x) (append_assoc n (slot_of e None ∷ []) (slots_of L R.branches (p + 0)));
        bytes = b.bytes;
        size = omega (arith, b.size);
        last = b.last;
      }
    where
      taken : FilledBranches → List Slot → Taken L
      taken R x = record { node = x; child_pos = greater_of L R.branches (p + 0); iter = R.rest }

  -- The transition closes the node: R is the leaf r and what the node takes after it.
  transit-shut : (S : List (List Slot)) (n : List Slot) (r : Filled) (R : FilledBranches) (ll p : ℕ) (bs : List ℕ)
      → take_entries L (L.entries - length n) n (child_of L r.branch p) r.rest
      ≡ record { node = n ++ slots_of L R.branches p; child_pos = greater_of L R.branches p; iter = R.rest }
      → write_branches L R.branches p ≡ write_branch L r.branch p → length_branches L R.branches ≡ length_branch L r.branch
      → (let u = transit L (n ∷ S) (with_inners (done L ll r p bs) (n ∷ S)) in climb L u.open_inners 0 u) ≡ climb L S 0 (shut L ll n R p bs)
  unfolding transit
  transit-shut S n r R ll p bs et eb es =
      let f = take_entries L (L.entries - length n) n (child_of L r.branch p) r.rest in
      let w = write_branch L r.branch p in
      let q = p + length_branch L r.branch in
      let after : Taken L → ℕ → List ℕ → State = λ x i y. climb L S 0 (sealed L i ll x.iter (bs ++ (y ++ inner_bytes L i x.node x.child_pos))) in
      let g : Taken L = record { node = n ++ slots_of L R.branches p; child_pos = greater_of L R.branches p; iter = R.rest } in
      climb-stack L S 0 (sealed L q ll f.iter ((bs ++ w) ++ inner_bytes L q f.node f.child_pos)) S
      ∙ ap (λ (y : List ℕ). climb L S 0 (sealed L q ll f.iter y)) (append_assoc bs w (inner_bytes L q f.node f.child_pos))
      ∙ ap (λ (x : Taken L). after x q w) et ∙ ap (λ (i : ℕ). after g (p + i) w) (sym es)
      ∙ ap (λ (y : List ℕ). after g (p + length_branches L R.branches) y) (sym eb)

  -- From a node of n slots over the last level, which takes k more entries, to its close.
  unfoldable pub Ends : ℕ → Type 0
  Ends k = (S : List (List Slot)) (n : List Slot) (ll c m : ℕ) (es : List KeyValue) (p : ℕ) (bs : List ℕ) → 0 < m → c + m ≡ ll → length n + k ≡ L.entries
      → k + min m (suc k * L.entries) ≤ length es
      → Comes L ll (ready L (n ∷ S) 0 c es p bs)
      (λ c'. climb L S (extra_level (fill_branches (fill L 0) k m es).last) (shut L c' n (fill_branches (fill L 0) k m es) p bs))
      (fill_branches (fill L 0) k m es).last

  -- The same, where the first child is r.
  unfoldable EndsBy : ℕ → List (List Slot) → List Slot → ℕ → ℕ → List KeyValue → ℕ → List ℕ → FilledBranches → Type 0
  EndsBy k S n ll c es p bs R = Comes L ll (ready L (n ∷ S) 0 c es p bs) (λ c'. climb L S (extra_level R.last) (shut L c' n R p bs)) R.last

  ends-zero : 0 < L.entries → Ends 0
  unfolding Ends EndsBy take_entries
  ends-zero some S n ll c zero es p bs pos e h size = absurd (not-suc-le-zero pos)
  ends-zero some S n ll c (suc j) es p bs pos e h size = go (dec_lt L.entries (suc j))
    where
      go : Dec (L.entries < suc j) → EndsBy 0 S n ll c es p bs (last_of (fill L 0 (suc j) es))
      go (yes b) =
          let r = fill_leaf L L.entries (suc j - L.entries) es in
          let m = suc j - L.entries in
          subst (λ (x : Filled). EndsBy 0 S n ll c es p bs (last_of x)) (sym (last-big (suc j) es b))
          (record {
            count = c + L.entries;
            left = left-pos ll (c + L.entries) m (omega arith) (omega arith);
            leads = leads-to L ll (ready L (n ∷ S) 0 c es p bs) (climb L (n ∷ S) 0 (done L (c + L.entries) r p bs))
                (climb L S (extra_level m) (shut L (c + L.entries) n (last_of r) p bs))
                (leaf-full some (n ∷ S) ll c es p bs m (omega arith) (λ i k z. omega arith))
                (closing L S n 0 (c + L.entries) r p bs (omega arith)
                ∙ ap (λ (i : ℕ). climb L S i (shut L (c + L.entries) n (last_of r) p bs)) (sym (one-extra m (omega arith))));
          })
      go (no b) =
          let r = fill_leaf L (suc j) 0 es in
          let z : L.entries - length n ≡ 0 = omega arith in
          subst (λ (x : Filled). EndsBy 0 S n ll c es p bs (last_of x)) (sym (last-small j es (omega arith)))
          (record {
            count = ll;
            left = omega arith;
            leads = leads-to L ll (ready L (n ∷ S) 0 c es p bs) _ (climb L S 0 (shut L ll n (last_of r) p bs))
                (leaf_last (n ∷ S) ll c j es p bs (omega arith) (omega arith) e)
                (transit-shut S n r (last_of r) ll p bs
                (ap (λ (i : ℕ). take_entries L i n (child_of L r.branch p) r.rest) z ∙ ap (λ (x : List Slot). taken r x) (sym (append-nil n))) refl refl);
          })
        where
          taken : Filled → List Slot → Taken L
          taken r x = record { node = x; child_pos = child_of L r.branch p; iter = r.rest }

  -- The first child is a full leaf, and the last level goes on.
  next-big : 0 < L.entries → (k : ℕ) → Ends k → (S : List (List Slot)) (n : List Slot) (ll c m : ℕ) (es : List KeyValue) (p : ℕ) (bs : List ℕ)
      → L.entries < m → c + m ≡ ll
      → length n + suc k ≡ L.entries → suc k + min m (suc (suc k) * L.entries) ≤ length es → (xs : List KeyValue) → drop L.entries es ≡ xs
      → EndsBy (suc k) S n ll c es p bs (fill_next (fill_branches (fill L 0) k) (fill_leaf L L.entries (m - L.entries) es) xs)
  unfolding Ends EndsBy
  next-big some k ih S n ll c m es p bs b e h size [] x = absurd (omega (arith, length-drop L.entries es, ap length x))
  next-big some k ih S n ll c m es p bs b e h size (y ∷ xs) x =
      let r = fill_leaf L L.entries (m - L.entries) es in
      let n' = n ++ (slot_of y (child_of L r.branch p) ∷ []) in
      let p' = p + length_branch L r.branch in
      let bs' = bs ++ write_branch L r.branch p in
      let R = fill_branches (fill L 0) k (m - L.entries) xs in
      let ln : length n' ≡ length n + 1 = length-append n (slot_of y (child_of L r.branch p) ∷ []) in
      let ld = length-drop L.entries es in
      let lx = ap length x in
      let d = ih S n' ll (c + L.entries) (m - L.entries) xs p' bs' (omega arith) (omega arith) (omega arith) (omega arith) in
      record {
        count = d.count;
        left = d.left;
        leads = leads-then L ll (ready L (n ∷ S) 0 c es p bs) (ready L (n' ∷ S) 0 (c + L.entries) xs p' bs')
            (climb L S (extra_level R.last) (shut L d.count n (more_of r.branch y R) p bs))
            (leads-to L ll (ready L (n ∷ S) 0 c es p bs) (climb L (n ∷ S) 0 (done L (c + L.entries) r p bs)) (ready L (n' ∷ S) 0 (c + L.entries) xs p' bs')
            (leaf-full some (n ∷ S) ll c es p bs (m - L.entries) (omega arith) (λ i l z. omega arith))
            (grown L S n 0 (c + L.entries) r p bs y xs (λ z. omega arith) x))
            (leads-to L ll (ready L (n' ∷ S) 0 (c + L.entries) xs p' bs') (climb L S (extra_level R.last) (shut L d.count n' R p' bs'))
            (climb L S (extra_level R.last) (shut L d.count n (more_of r.branch y R) p bs))
            d.leads (shift-climb L S (extra_level R.last) d.count n r.branch y R p bs));
      }

  -- The first child is the leaf that ends the last level.
  next_small : (k : ℕ) (S : List (List Slot)) (n : List Slot) (ll c j : ℕ) (es : List KeyValue) (p : ℕ) (bs : List ℕ) → j < L.entries → c + suc j ≡ ll
      → length n + suc k ≡ L.entries → suc k + suc j ≤ length es → (xs : List KeyValue) → drop (suc j) es ≡ xs
      → EndsBy (suc k) S n ll c es p bs (fill_next (fill_branches (fill L 0) k) (fill_leaf L (suc j) 0 es) xs)
  unfolding EndsBy take_entries
  next_small k S n ll c j es p bs b e h size [] x = absurd (omega (arith, length-drop (suc j) es, ap length x))
  next_small k S n ll c j es p bs b e h size (y ∷ xs) x =
      let r = fill_leaf L (suc j) 0 es in
      let s = slot_of y (child_of L r.branch p) in
      let p' = p + length_branch L r.branch in
      let ld = length-drop (suc j) es in
      let lx = ap length x in
      let B = bare k (n ++ (s ∷ [])) xs p' (omega arith) in
      let R = bare_of k xs in
      let ek : L.entries - length n ≡ suc k = omega arith in
      record {
        count = ll;
        left = subst (λ (i : ℕ). Left ll ll i) (sym B.last) (omega arith);
        leads = leads-to L ll (ready L (n ∷ S) 0 c es p bs) _ (climb L S (extra_level R.last) (shut L ll n (more_of r.branch y R) p bs))
            (leaf_last (n ∷ S) ll c j es p bs b (omega arith) e)
            (transit-shut S n r (more_of r.branch y R) ll p bs
            (ap (λ (i : ℕ). take_entries L i n (child_of L r.branch p) r.rest) ek
            ∙ ap (λ (l : List KeyValue). take_entries L (suc k) n (child_of L r.branch p) l) x
            ∙ B.takes ∙ ap (λ (l : List Slot). taken R p' l) (append_assoc n (s ∷ []) (slots_of L R.branches p')))
            (ap (λ (l : List ℕ). write_branch L r.branch p ++ l) B.bytes ∙ append-nil (write_branch L r.branch p)) (omega (arith, B.size))
            ∙ ap (λ (i : ℕ). climb L S (extra_level i) (shut L ll n (more_of r.branch y R) p bs)) (sym B.last));
      }
    where
      taken : FilledBranches → ℕ → List Slot → Taken L
      taken R i l = record { node = l; child_pos = greater_of L R.branches i; iter = R.rest }

  ends_more : 0 < L.entries → (k : ℕ) → Ends k → Ends (suc k)
  unfolding Ends EndsBy
  ends_more some k ih S n ll c zero es p bs pos e h size = absurd (not-suc-le-zero pos)
  ends_more some k ih S n ll c (suc j) es p bs pos e h size = go (dec_lt L.entries (suc j))
    where
      by : (r : Filled) → fill L 0 (suc j) es ≡ r → EndsBy (suc k) S n ll c es p bs (fill_next (fill_branches (fill L 0) k) r r.rest)
          → EndsBy (suc k) S n ll c es p bs (fill_branches (fill L 0) (suc k) (suc j) es)
      by r x d = subst (λ (y : Filled). EndsBy (suc k) S n ll c es p bs (fill_next (fill_branches (fill L 0) k) y y.rest)) (sym x) d

      go : Dec (L.entries < suc j) → EndsBy (suc k) S n ll c es p bs (fill_branches (fill L 0) (suc k) (suc j) es)
      go (yes b) =
          by (fill_leaf L L.entries (suc j - L.entries) es) (last-big (suc j) es b)
          (next-big some k ih S n ll c (suc j) es p bs b e h size (drop L.entries es) refl)
      go (no b) =
          by (fill_leaf L (suc j) 0 es) (last-small j es (omega arith)) (next_small k S n ll c j es p bs (omega arith) e h (omega arith) (drop (suc j) es) refl)

  pub ends-all : 0 < L.entries → (k : ℕ) → Ends k
  ends-all some zero = ends-zero some
  ends-all some (suc k) = ends_more some k (ends-all some k)
