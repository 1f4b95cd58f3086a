-- The streaming builder at an inner node: a subtree is written as the tree's definition writes it, if its children are. Assumes nothing.
use Rattle.std.specs.Prelude.{◌≡◌, None, Some}
use Rattle.std.proofs.Math.Path.{refl, ap}
use Rattle.std.proofs.Common.{sym, ◌∙◌, subst, arith, suc-add, not-suc-le-zero}
use Rattle.std.proofs.Math.Bool.{false}
use mathlib.Core.List.{List, [], ◌∷◌, ◌++◌, append_assoc, append-nil}
use Prim.Native.Nat.{ℕ, zero, suc, ◌+◌, ◌*◌, ◌≤◌, ◌<◌, min}
use Rattle.std.proofs.Math.ListN.{length, replicate, length-append}
use Rattle.format.specs.Layout.{Layout, inner_size}
use Rattle.format.specs.Tree.{Slot, slot_of, inner_bytes, last_b, more_b, Branch, length_branches, length_branch, child_of, slots_of, greater_of, KeyValue}
use Rattle.format.specs.Tree.{write_branches, write_branch}
use Rattle.format.specs.Build.{Filled, FilledBranches, closed, fill_next, fill_branches}
use Rattle.format.specs.Serialize.{State, grow, climb}
use Rattle.format.proofs.Laws.Build.Filling.{Took}
use Rattle.format.proofs.Laws.Build.LoopSteps.{climb-close, climb-grow, TurnsTo, leads-then, leads-to}

-- One level more is open while the last level takes entries.
abbrev pub extra_level : ℕ → ℕ
extra_level zero = 0
extra_level (suc m) = 1

pub one-extra : (m : ℕ) → 0 < m → extra_level m ≡ 1
one-extra zero h = absurd (not-suc-le-zero h)
one-extra (suc m) h = refl

-- Of ll entries of the last level, c are given to leaves and m are left; or the last level is past.
abbrev pub Left : ℕ → ℕ → ℕ → Type 0
Left ll c zero = ll ≤ c
Left ll c (suc m) = c + suc m ≡ ll

pub left-pos : (ll c m : ℕ) → 0 < m → c + m ≡ ll → Left ll c m
left-pos ll c zero h e = absurd (not-suc-le-zero h)
left-pos ll c (suc m) h e = e

-- None of the next k entries of leaves ends the last level.
abbrev pub Far : ℕ → ℕ → ℕ → Type 0
Far ll c k = (i : ℕ) → i < k → suc (c + i) ≡ ll → ⊥

replicate-cons : {A : Type 0} (l : ℕ) (x : A) (S : List A) → replicate l x ++ (x ∷ S) ≡ x ∷ (replicate l x ++ S)
replicate-cons zero x S = refl
replicate-cons {A} (suc l) x S = ap (λ (r : List A). x ∷ r) (replicate-cons l x S)

abbrev pub no_pair : KeyValue
no_pair = record { key = 0; value = 0 }

-- An inner node's children and entries: one child, or a child and an entry before the others.
abbrev pub last_of : Filled → FilledBranches
last_of r = record { branches = last_b r.branch; rest = r.rest; last = r.last }

abbrev pub more_of : Branch → KeyValue → FilledBranches → FilledBranches
more_of b e R = record { branches = more_b b e R.branches; rest = R.rest; last = R.last }

module _ (L : Layout) where
  -- ---- states

  -- Before a subtree: l empty inner nodes are open above the stack S.
  abbrev pub ready : List (List Slot) → ℕ → ℕ → List KeyValue → ℕ → List ℕ → State
  ready S l c es p bs =
      record { open_leaf = []; open_inners = replicate l [] ++ S; child_pos = None; leaf_entries = c; iter = es; pos = p; bytes = bs; panics = false }

  -- After it: its node is closed.
  abbrev pub done : ℕ → Filled → ℕ → List ℕ → State
  done c r p bs =
      record {
        open_leaf = [];
        open_inners = [];
        child_pos = child_of L r.branch p;
        leaf_entries = c;
        iter = r.rest;
        pos = p + length_branch L r.branch;
        bytes = bs ++ write_branch L r.branch p;
        panics = false;
      }

  -- An inner node at q is closed, and the bytes are y.
  abbrev pub sealed : ℕ → ℕ → List KeyValue → List ℕ → State
  sealed q c es y =
      record {
        open_leaf = [];
        open_inners = [];
        child_pos = Some (record { 0 = q });
        leaf_entries = c;
        iter = es;
        pos = q + inner_size L;
        bytes = y;
        panics = false;
      }

  -- The same of the inner node whose first slots are n, and whose others and greater child are R, written from p on.
  abbrev pub shut : ℕ → List Slot → FilledBranches → ℕ → List ℕ → State
  shut c n R p bs =
      let q = p + length_branches L R.branches in
      sealed q c R.rest (bs ++ (write_branches L R.branches p ++ inner_bytes L q (n ++ slots_of L R.branches p) (greater_of L R.branches p)))

  -- A full node is closed with the subtree r as its greater child.
  pub closing : (S : List (List Slot)) (n : List Slot) (k c : ℕ) (r : Filled) (p : ℕ) (bs : List ℕ) → length n ≡ L.entries
      → climb L (n ∷ S) k (done c r p bs) ≡ climb L S (suc k) (shut c n (last_of r) p bs)
  closing S n k c r p bs h =
      let q = p + length_branch L r.branch in
      let g = child_of L r.branch p in
      let w = write_branch L r.branch p in
      climb-close L n S k (done c r p bs) h
      ∙ ap (λ (y : List ℕ). climb L S (suc k) (sealed q c r.rest y))
      (append_assoc bs w (inner_bytes L q n g) ∙ ap (λ (x : List Slot). bs ++ (w ++ inner_bytes L q x g)) (sym (append-nil n)))

  -- A node with room takes the subtree r and an entry.
  pub grown : (S : List (List Slot)) (n : List Slot) (k c : ℕ) (r : Filled) (p : ℕ) (bs : List ℕ) (e : KeyValue) (es : List KeyValue)
      → (length n ≡ L.entries → ⊥) → r.rest ≡ e ∷ es
      → climb L (n ∷ S) k (done c r p bs)
      ≡ ready ((n ++ (slot_of e (child_of L r.branch p) ∷ [])) ∷ S) k c es (p + length_branch L r.branch) (bs ++ write_branch L r.branch p)
  grown S n k c r p bs e es h x = climb-grow L n S k (done c r p bs) h ∙ ap (λ (y : List KeyValue). grow L y n S k (done c r p bs)) x

  -- A slot that was taken before the others counts as one of them.
  shifting : (c : ℕ) (n : List Slot) (b : Branch) (e : KeyValue) (R : FilledBranches) (p : ℕ) (bs : List ℕ)
      → shut c (n ++ (slot_of e (child_of L b p) ∷ [])) R (p + length_branch L b) (bs ++ write_branch L b p) ≡ shut c n (more_of b e R) p bs
  shifting c n b e R p bs =
      let p' = p + length_branch L b in
      let x = slot_of e (child_of L b p) in
      let w = write_branch L b p in
      let v = write_branches L R.branches p' in
      let xs = slots_of L R.branches p' in
      let g = greater_of L R.branches p' in
      let q = p + (length_branch L b + length_branches L R.branches) in
      let eq : p' + length_branches L R.branches ≡ q = omega arith in
      let node = inner_bytes L q (n ++ (x ∷ xs)) g in
      ap (λ (i : ℕ). sealed i c R.rest ((bs ++ w) ++ (v ++ inner_bytes L i ((n ++ (x ∷ [])) ++ xs) g))) eq
      ∙ ap (λ (y : List Slot). sealed q c R.rest ((bs ++ w) ++ (v ++ inner_bytes L q y g))) (append_assoc n (x ∷ []) xs)
      ∙ ap (λ (y : List ℕ). sealed q c R.rest y) (append_assoc bs w (v ++ node) ∙ ap (λ (y : List ℕ). bs ++ y) (sym (append_assoc w v node)))

  pub shift-climb : (S : List (List Slot)) (k c : ℕ) (n : List Slot) (b : Branch) (e : KeyValue) (R : FilledBranches) (p : ℕ) (bs : List ℕ)
      → climb L S k (shut c (n ++ (slot_of e (child_of L b p) ∷ [])) R (p + length_branch L b) (bs ++ write_branch L b p))
      ≡ climb L S k (shut c n (more_of b e R) p bs)
  shift-climb S k c n b e R p bs = ap (climb L S k) (shifting c n b e R p bs)

  -- With no slot before, the node's subtree is done.
  pub shut-done : (c : ℕ) (R : FilledBranches) (p : ℕ) (bs : List ℕ) → shut c [] R p bs ≡ done c (closed R) p bs
  shut-done c R p bs =
      let q = p + length_branches L R.branches in
      let e : q + inner_size L ≡ p + (length_branches L R.branches + inner_size L) = omega arith in
      ap (λ (i : ℕ). place i) e
    where
      place : ℕ → State
      place i =
          record {
            open_leaf = [];
            open_inners = [];
            child_pos = Some (record { 0 = p + length_branches L R.branches });
            leaf_entries = c;
            iter = R.rest;
            pos = i;
            bytes = bs ++ (write_branches L R.branches p ++ inner_bytes L (p + length_branches L R.branches) (slots_of L R.branches p)
                (greater_of L R.branches p));
            panics = false;
          }

  -- ---- a subtree is written as the definition of the tree writes it

  -- Turns lead from s to t, at some count of leaf entries that leaves m for the last level.
  pub record Comes (ll : ℕ) (s : State) (t : ℕ → State) (m : ℕ) : Type 0 where
    pub count : ℕ
    pub left : Left ll count m
    pub leads : TurnsTo L ll s (t count)

  pub comes-to : (ll : ℕ) (s : State) (t u : ℕ → State) (m : ℕ) → ((c : ℕ) → t c ≡ u c) → Comes ll s t m → Comes ll s u m
  comes-to ll s t u m e a = record { count = a.count; left = a.left; leads = leads-to L ll s (t a.count) (u a.count) a.leads (e a.count) }

  comes-then : (ll : ℕ) (s : State) (t u : ℕ → State) (m m' : ℕ) → Comes ll s t m → ((c : ℕ) → Left ll c m → Comes ll (t c) u m') → Comes ll s u m'
  comes-then ll s t u m m' a d =
      let b = d a.count a.left in
      record { count = b.count; left = b.left; leads = leads-then L ll s (t a.count) (u b.count) a.leads b.leads }

  -- Whatever is open above it, a subtree that takes q entries and at most w of the last level is written, and the closed node climbs.
  unfoldable pub Writes : (ℕ → List KeyValue → Filled) → ℕ → ℕ → ℕ → Type 0
  Writes give q w l = (S : List (List Slot)) (ll c m : ℕ) (es : List KeyValue) (p : ℕ) (bs : List ℕ) → Left ll c m → q + min m w ≤ length es
      → Comes ll (ready S (l + extra_level m) c es p bs) (λ c'. climb L S (l + extra_level (give m es).last) (done c' (give m es) p bs)) (give m es).last

  module _ (give : ℕ → List KeyValue → Filled) (q w l : ℕ)
      (took : (m : ℕ) (es : List KeyValue) → q + min m w ≤ length es → Took L q w m es (give m es)) (writes : Writes give q w l) where
    -- From a node of n slots that takes k more entries to its close.
    Walks : ℕ → Type 0
    Walks k = (S : List (List Slot)) (n : List Slot) (ll c m : ℕ) (es : List KeyValue) (p : ℕ) (bs : List ℕ) → Left ll c m → length n + k ≡ L.entries
        → suc k * q + k + min m (suc k * w) ≤ length es
        → Comes ll (ready (n ∷ S) (l + extra_level m) c es p bs)
        (λ c'. climb L S (suc (l + extra_level (fill_branches give k m es).last)) (shut c' n (fill_branches give k m es) p bs))
        (fill_branches give k m es).last

    walk-next : (k : ℕ) → Walks k → (S : List (List Slot)) (n : List Slot) (ll c m : ℕ) (es : List KeyValue) (p : ℕ) (bs : List ℕ) → Left ll c m
        → length n + suc k ≡ L.entries
        → suc (suc k) * q + suc k + min m (suc (suc k) * w) ≤ length es → (xs : List KeyValue) → (give m es).rest ≡ xs
        → Comes ll (ready (n ∷ S) (l + extra_level m) c es p bs)
        (λ c'. climb L S (suc (l + extra_level (fill_next (fill_branches give k) (give m es) xs).last))
        (shut c' n (fill_next (fill_branches give k) (give m es) xs) p bs))
        (fill_next (fill_branches give k) (give m es) xs).last
    unfolding Walks Writes
    walk-next k ih S n ll c m es p bs lf h size [] e = let T = took m es (omega arith) in absurd (omega (arith, T.left, ap length e))
    walk-next k ih S n ll c m es p bs lf h size (x ∷ xs) e =
        let r = give m es in
        let T = took m es (omega arith) in
        let b = r.branch in
        let n' = n ++ (slot_of x (child_of L b p) ∷ []) in
        let p' = p + length_branch L b in
        let bs' = bs ++ write_branch L b p in
        let R = fill_branches give k r.last xs in
        let ln : length n' ≡ length n + 1 = length-append n (slot_of x (child_of L b p) ∷ []) in
        comes-then ll (ready (n ∷ S) (l + extra_level m) c es p bs) (λ c'. ready (n' ∷ S) (l + extra_level r.last) c' xs p' bs')
        (λ c'. climb L S (suc (l + extra_level R.last)) (shut c' n (more_of b x R) p bs)) r.last R.last
        (comes-to ll (ready (n ∷ S) (l + extra_level m) c es p bs) (λ c'. climb L (n ∷ S) (l + extra_level r.last) (done c' r p bs))
        (λ c'. ready (n' ∷ S) (l + extra_level r.last) c' xs p' bs') r.last
        (λ c'. grown S n (l + extra_level r.last) c' r p bs x xs (λ z. omega arith) e) (writes (n ∷ S) ll c m es p bs lf (omega arith)))
        (λ c₁ lf₁. comes-to ll (ready (n' ∷ S) (l + extra_level r.last) c₁ xs p' bs') (λ c'. climb L S (suc (l + extra_level R.last)) (shut c' n' R p' bs'))
        (λ c'. climb L S (suc (l + extra_level R.last)) (shut c' n (more_of b x R) p bs)) R.last
        (λ c'. shift-climb S (suc (l + extra_level R.last)) c' n b x R p bs)
        (ih S n' ll c₁ r.last xs p' bs' lf₁ (omega arith) (omega (arith, T.left, T.last, ap length e))))

    walks : (k : ℕ) → Walks k
    unfolding Walks Writes
    walks zero S n ll c m es p bs lf h size =
        comes-to ll (ready (n ∷ S) (l + extra_level m) c es p bs) (λ c'. climb L (n ∷ S) (l + extra_level (give m es).last) (done c' (give m es) p bs))
        (λ c'. climb L S (suc (l + extra_level (give m es).last)) (shut c' n (last_of (give m es)) p bs)) (give m es).last
        (λ c'. closing S n (l + extra_level (give m es).last) c' (give m es) p bs (omega arith)) (writes (n ∷ S) ll c m es p bs lf (omega arith))
    walks (suc k) S n ll c m es p bs lf h size = walk-next k (walks k) S n ll c m es p bs lf h size (give m es).rest refl

    -- So does the inner node over such subtrees.
    pub inner-writes : Writes (λ m es. closed (fill_branches give L.entries m es)) (suc L.entries * q + L.entries) (suc L.entries * w) (suc l)
    unfolding Writes Walks
    inner-writes S ll c m es p bs lf size =
        let R = fill_branches give L.entries m es in
        let e₁ : replicate (l + extra_level m) [] ++ ([] ∷ S) ≡ replicate (suc l + extra_level m) [] ++ S =
        replicate-cons (l + extra_level m) [] S ∙ ap (λ (i : ℕ). replicate i [] ++ S) (sym (suc-add l (extra_level m))) in
        let a = walks L.entries S [] ll c m es p bs lf (omega arith) size in
        comes-to ll (ready S (suc l + extra_level m) c es p bs) (λ c'. climb L S (suc (l + extra_level R.last)) (shut c' [] R p bs))
        (λ c'. climb L S (suc l + extra_level R.last) (done c' (closed R) p bs)) R.last
        (λ c'. ap (climb L S (suc (l + extra_level R.last))) (shut-done c' R p bs)
        ∙ ap (λ (i : ℕ). climb L S i (done c' (closed R) p bs)) (sym (suc-add l (extra_level R.last))))
        (subst (λ (x : List (List Slot)). Comes ll
        (record { open_leaf = []; open_inners = x; child_pos = None; leaf_entries = c; iter = es; pos = p; bytes = bs; panics = false })
        (λ c'. climb L S (suc (l + extra_level R.last)) (shut c' [] R p bs)) R.last) e₁ a)
