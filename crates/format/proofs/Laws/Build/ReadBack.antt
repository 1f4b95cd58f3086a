-- A tree that is written holds by the node relation, has no hollow node, and gives its entries back. Assumes nothing.
use Prim.Native.Nat.{ℕ, zero, suc, ◌+◌, ◌-◌, ◌*◌, ◌^◌, ◌%◌, ◌≤◌, ◌<◌}
use Rattle.std.specs.Prelude.{◌≡◌, Bool, true, false, get_or}
use Rattle.std.proofs.Math.Path.{refl, ap}
use Rattle.std.proofs.Common.{sym, ◌∙◌, subst, ne_eqb}
use mathlib.Core.List.{List, [], ◌∷◌, ◌++◌}
use native.Mathlib.Omega.{arith}
use Rattle.std.proofs.Math.ListN.{length, replicate, length-append}
use Rattle.format.specs.declared.Entry.{Entry}
use Rattle.format.specs.Layout.{sign_bits, Layout, pointer, values_from, head_size, leaf_size, inner_size}
use Rattle.format.specs.Bytes.{le_bytes}
use Rattle.format.specs.RelPtr.{absent}
use Rattle.format.specs.Node.{leaf, inner, kind_of, child, kind, size_at, leaf_count, slot}
use Rattle.format.specs.Entries.{slots, list_child, list_children, list_body, list_at}
use Rattle.format.specs.Certify.{hollow, any_child, any_children, any_body, hollow_at}
use Rattle.format.specs.Tree.{column, head, leaf_bytes, inner_bytes, Tree, leaf_t, inner_t, Branches, write_t, write_branches, write_branch, KeyValue}
use Rattle.format.specs.Tree.{last_b, more_b, Branch, none_b, some_b, length_t, length_branches, length_branch, top_t, child_of, slots_of, greater_of}
use Rattle.format.specs.TreeShape.{pair_of, pairs_of, flat, flat_branches, flat_branch, depth_t, depth_branches, depth_branch, own, Fit, AllFit, There}
use Rattle.format.specs.TreeShape.{Begins, WfT, WfBranches, WfBranch, field_b, fields_b}
use Rattle.format.specs.NodeRelation.{ChildOk, gone, there, ChildrenOk, last, more, leaf_ok, inner_ok, Holds}
use Rattle.format.proofs.Laws.Numbers.Bytes.{length-le_bytes}
use Rattle.format.proofs.Laws.Build.NodeBytes.{length-column, length-head, length-field_b, inner_pad, inner-fields, length-write_branch, top_in}
use Rattle.format.proofs.Laws.Build.NodeBytes.{length-write_branches, eight_branches, eight_branch}
use Rattle.format.proofs.Laws.Build.BytesAt.{BytesAt, stands-left, stands-next, first_byte, read_back, wide, offset-back, marked}
use Rattle.format.proofs.Laws.Build.Near.{Near, FieldsNear, TreeNear, BranchesNear, BranchNear, inner_room}

pairs-append : (a b : List Entry) → pairs_of (a ++ b) ≡ pairs_of a ++ pairs_of b
pairs-append [] b = refl
pairs-append (x ∷ a) b = ap (λ (l : List KeyValue). pair_of x ∷ l) (pairs-append a b)

stands-bytes : {s : List ℕ} {p : ℕ} {xs ys : List ℕ} → xs ≡ ys → BytesAt s p xs → BytesAt s p ys
stands-bytes {s} {p} e a = subst (BytesAt s p) e a

module _ (L : Layout) (s : List ℕ) where
  -- The columns of keys and values stand in the node at p, from slot i on.
  record Columns (p i n : ℕ) (es : List KeyValue) : Type 0 where
    keys : BytesAt s (p + 8 + 8 * i) (column (λ (e : KeyValue). e.key) n es)
    values : BytesAt s (p + values_from L + 8 * i) (column (λ (e : KeyValue). e.value) n es)

  head_at : (p k : ℕ) (es : List KeyValue) (r : List ℕ) → BytesAt s p (head L k es ++ r)
      → (get_or s p 0 ≡ k) × Columns p 0 L.entries es × BytesAt s (p + head_size L) r
  unfolding head
  head_at p k es r a =
      let ck : List ℕ = column (λ (e : KeyValue). e.key) L.entries es in
      let cv : List ℕ = column (λ (e : KeyValue). e.value) L.entries es in
      let (e, h) = first_byte (stands-left (head L k es) r a) in
      let h₁ : BytesAt s (p + 8 + 8 * 0) (ck ++ cv) = stands-next (replicate 7 0) (omega arith) h in
      let lc = length-column (λ (e : KeyValue). e.key) L.entries es in (
        e,
        record { keys = stands-left ck cv h₁; values = stands-next ck (omega arith) h₁ },
        stands-next (head L k es) (omega (arith, length-head L k es)) a,
      )

  slot-pair : (p i n : ℕ) (e : KeyValue) (es : List KeyValue) → Columns p i (suc n) (e ∷ es) → Fit e → pair_of (slot L s p i) ≡ e
  unfolding slot
  slot-pair p i n e es c f =
      let ek = read_back 8 e.key f.key (stands-left (le_bytes 8 e.key) _ c.keys) in
      let ev = read_back 8 e.value f.value (stands-left (le_bytes 8 e.value) _ c.values) in
      λ j. record { key = ek j; value = ev j }

  cols-next : (p i n : ℕ) (e : KeyValue) (es : List KeyValue) → Columns p i (suc n) (e ∷ es) → Columns p (suc i) n es
  cols-next p i n e es c =
      record {
        keys = stands-next (le_bytes 8 e.key) (omega (arith, length-le_bytes 8 e.key)) c.keys;
        values = stands-next (le_bytes 8 e.value) (omega (arith, length-le_bytes 8 e.value)) c.values;
      }

  slots-pairs : (n p i : ℕ) (es : List KeyValue) → Columns p i n es → length es ≤ n → AllFit es → pairs_of (slots L s p (length es) i) ≡ es
  unfolding slots
  slots-pairs n p i [] c h f = refl
  slots-pairs zero p i (e ∷ es) c h f = absurd (omega arith)
  slots-pairs (suc n) p i (e ∷ es) c h f =
      let eh = slot-pair p i n e es c f.0 in
      let et = slots-pairs n p (suc i) es (cols-next p i n e es c) (omega arith) f.1 in
      cc

or-false : (a b : Bool) → a ≡ false → b ≡ false → (elim a as (λ _. Bool) [ true ↦ true | false ↦ b ]) ≡ false
or-false a b ea eb = rw ea eb

module _ (L : Layout) (s : List ℕ) where
  -- What is known of the tree t where it is written from b on: its node holds in the range from lo to hi, gives the entries, and is not hollow.
  pub record TreeRead (t : Tree) (d b lo hi : ℕ) : Type 0 where
    pub n : ℕ
    pub holds : Holds L s d lo hi (top_t L t b) n
    pub many : n ≡ length (flat t)
    pub ends : top_t L t b + size_at L s (top_t L t b) ≡ b + length_t L t
    pub list : pairs_of (list_at L s d (top_t L t b)) ≡ flat t
    pub solid : hollow_at L s d (top_t L t b) ≡ false

  record BranchRead (k : Branch) (d b lo hi f : ℕ) : Type 0 where
    n : ℕ
    stop : ℕ
    ok : ChildOk L s (Holds L s d) lo hi f stop n
    many : n ≡ length (flat_branch k)
    moves : stop ≤ b + length_branch L k
    list : pairs_of (list_child L s (list_at L s d) f) ≡ flat_branch k
    solid : any_child L s (hollow_at L s d) f ≡ false
    present : There k → absent L s f ≡ false

  record BranchesRead (ks : Branches) (d b lo p k i : ℕ) : Type 0 where
    n : ℕ
    ok : ChildrenOk L s (Holds L s d) p k i lo n
    many : length (flat_branches ks) ≡ length (own ks) + n
    list : pairs_of (list_children L s (list_at L s d) p k i) ≡ flat_branches ks
    solid : any_children L s (hollow_at L s d) p k i ≡ false
    present : Begins ks → absent L s (child L p i) ≡ false

  leaf-laid : (es : List KeyValue) (d b lo hi : ℕ) → L.entries < 65536 → WfT L (leaf_t es) → lo ≤ b → b + leaf_size L ≤ hi → b % 8 ≡ 0
      → BytesAt s b (leaf_bytes L es) → TreeRead (leaf_t es) (suc d) b lo hi
  unfolding kind list_at list_body hollow_at hollow any_body leaf_bytes
  leaf-laid es d b lo hi small w hl hh h8 a =
      let pad : List ℕ = replicate (leaf_size L - (head_size L + pointer L)) 0 in
      let (e0, c, r) = head_at L s b 0 es (le_bytes (pointer L) (length es) ++ pad) a in
      let big = wide L.width in
      let ek : kind L s b ≡ leaf = ap kind_of e0 in
      let ec : leaf_count L s b ≡ length es = read_back (pointer L) (length es) (omega (arith, w.0)) (stands-left (le_bytes (pointer L) (length es)) pad r) in
      record {
        n = length es;
        holds = leaf_ok ek (record { low = hl; high = rw ek hh; solid = rw ek (omega arith); aligned = h8 }) (omega (arith, w.0)) (sym ec);
        many = refl;
        ends = rw ek refl;
        list = rw (ek, ec) (slots-pairs L s L.entries b 0 es c w.0 w.1);
        solid = or-false (hollow L s b (kind L s b)) (any_body L s (hollow_at L s d) b (kind L s b))
            (rw ek (ne_eqb (leaf_count L s b) 0 (λ (e : leaf_count L s b ≡ 0). omega (arith, w.2)))) (rw ek refl);
      }

  inner-laid : (ks : Branches) (d b lo hi : ℕ) → WfT L (inner_t ks) → lo ≤ b → b + length_branches L ks + inner_size L ≤ hi → b % 8 ≡ 0
      → kind L s (b + length_branches L ks) ≡ inner → BranchesRead ks d b lo (b + length_branches L ks) L.entries 0 → TreeRead (inner_t ks) (suc d) b lo hi
  unfolding list_at list_body hollow_at hollow any_body
  inner-laid ks d b lo hi w hl hh h8 ek R =
      let e8 = eight_branches L ks in
      record {
        n = length (flat_branches ks);
        holds = inner_ok ek (record { low = omega arith; high = rw ek hh; solid = rw ek (omega arith); aligned = omega arith }) R.n R.ok
            (R.many ∙ ap (λ (x : ℕ). x + R.n) w.0);
        many = refl;
        ends = rw ek (omega arith);
        list = rw ek R.list;
        solid = or-false (hollow L s (b + length_branches L ks) (kind L s (b + length_branches L ks)))
            (any_body L s (hollow_at L s d) (b + length_branches L ks) (kind L s (b + length_branches L ks))) (rw ek (R.present w.2)) (rw ek R.solid);
      }

  branch-laid : (t : Tree) (d b lo hi f : ℕ) → TreeRead t d b lo hi → b + length_t L t ≤ f → Near L (2 ^ sign_bits L.width) f (child_of L (some_b t) b)
      → BytesAt s f (field_b L (some_b t) b f) → BranchRead (some_b t) d b lo hi f
  unfolding list_child any_child
  branch-laid t d b lo hi f R hf far a =
      let i = top_in L t b in
      let (et, ea) = offset-back L s f (record { 0 = top_t L t b }) far.0 (omega (arith, far.1)) a in
      record {
        n = R.n;
        stop = b + length_t L t;
        ok = there ea (top_t L t b) et R.holds (sym R.ends);
        many = R.many;
        moves = omega arith;
        list = rw (ea, et, list_child) R.list;
        solid = rw (ea, et, any_child) R.solid;
        present = λ _. ea;
      }

  none-laid : (d b lo hi f : ℕ) → lo ≤ b → f < 2 ^ 63 → BytesAt s f (field_b L none_b b f) → BranchRead none_b d b lo hi f
  unfolding list_child any_child
  none-laid d b lo hi f hl high a =
      let ea = marked L s f high a in
      record {
        n = 0;
        stop = lo;
        ok = gone ea refl refl;
        many = refl;
        moves = omega arith;
        list = rw (ea, list_child);
        solid = rw (ea, any_child);
        present = λ x. absurd x;
      }

  last-laid : (k : Branch) (d b lo p i : ℕ) → BranchRead k d b lo p (child L p i) → BranchesRead (last_b k) d b lo p zero i
  unfolding list_children any_children
  last-laid k d b lo p i R = record { n = R.n; ok = last R.ok; many = omega (arith, R.many); list = R.list; solid = R.solid; present = R.present }

  more-laid : (k : Branch) (e : KeyValue) (ks : Branches) (d b lo p n i : ℕ) (R : BranchRead k d b lo p (child L p i)) → Fit e
      → Columns L s p i (suc n) (e ∷ own ks)
      → BranchesRead ks d (b + length_branch L k) R.stop p n (suc i) → BranchesRead (more_b k e ks) d b lo p (suc n) i
  unfolding list_children any_children
  more-laid k e ks d b lo p n i R f c S =
      record {
        n = R.n + S.n;
        ok = more R.ok S.ok refl;
        many = simp length-append (omega (arith, R.many, S.many));
        list = rw (pairs-append, R.list, S.list, slot-pair L s p i n e (own ks) c f);
        solid = or-false (any_child L s (hollow_at L s d) (child L p i)) (any_children L s (hollow_at L s d) p n (suc i)) R.solid S.solid;
        present = R.present;
      }

  mutual
    unfolding kind

    pub tree-laid : (t : Tree) (d b lo hi : ℕ) → L.entries < 65536 → WfT L t → depth_t t ≤ d → lo ≤ b → b + length_t L t ≤ hi → b % 8 ≡ 0
        → TreeNear L (2 ^ sign_bits L.width) t b × (b + length_t L t < 2 ^ 63)
        → BytesAt s b (write_t L t b) → TreeRead t d b lo hi
    tree-laid (leaf_t es) zero b lo hi small w hd hl hh h8 far a = absurd (omega arith)
    tree-laid (leaf_t es) (suc d) b lo hi small w hd hl hh h8 far a = leaf-laid es d b lo hi small w hl hh h8 a
    tree-laid (inner_t ks) zero b lo hi small w hd hl hh h8 far a = absurd (omega arith)
    tree-laid (inner_t ks) (suc d) b lo hi small w hd hl hh h8 far a =
        let p : ℕ = b + length_branches L ks in
        let pad : List ℕ = inner_pad L in
        let fs : List ℕ = fields_b L ks b (p + head_size L) in
        let node : List ℕ = inner_bytes L p (slots_of L ks b) (greater_of L ks b) in
        let a₁ : BytesAt s p (head L 1 (own ks) ++ (fs ++ pad)) =
        stands-bytes (inner-fields L ks b p w.0) (stands-next (write_branches L ks b) (ap (λ (x : ℕ). b + x) (length-write_branches L ks b)) a) in
        let (e1, c, r) = head_at L s p 1 (own ks) (fs ++ pad) a₁ in
        inner-laid ks d b lo hi w hl (omega arith) h8 (ap kind_of e1)
        (branches-laid ks d b lo p L.entries 0 (p + head_size L) (omega arith) small w.1 w.0 (omega arith) hl (omega arith) h8
        (far.0, omega (arith, far.1, inner_room L)) c
        (stands-left fs pad r) (stands-left (write_branches L ks b) node a))

    branches-laid : (ks : Branches) (d b lo p k i f : ℕ) → f ≡ child L p i → L.entries < 65536 → WfBranches L ks → length (own ks) ≡ k
        → depth_branches ks ≤ d → lo ≤ b → b + length_branches L ks ≤ p → b % 8 ≡ 0
        → (BranchesNear L (2 ^ sign_bits L.width) ks b × FieldsNear L (2 ^ sign_bits L.width) ks b f) × (f + pointer L * k < 2 ^ 63)
        → Columns L s p i k (own ks)
        → BytesAt s f (fields_b L ks b f) → BytesAt s b (write_branches L ks b) → BranchesRead ks d b lo p k i
    branches-laid (last_b x) d b lo p zero i f ef small w ek hd hl hh h8 far c af ab =
        last-laid x d b lo p i (subst (λ (y : ℕ). BranchRead x d b lo p y) ef
        (branch-laid' x d b lo p f small w hd hl hh (omega arith) h8 (far.0, omega (arith, far.1)) af ab))
    branches-laid (last_b x) d b lo p (suc k) i f ef small w ek hd hl hh h8 far c af ab = absurd (omega arith)
    branches-laid (more_b x e ks) d b lo p zero i f ef small w ek hd hl hh h8 far c af ab = absurd (omega arith)
    branches-laid (more_b x e ks) d b lo p (suc k) i f ef small w ek hd hl hh h8 far c af ab =
        let R : BranchRead x d b lo p (child L p i) = subst (λ (y : ℕ). BranchRead x d b lo p y) ef
        (branch-laid' x d b lo p f small w.0 (omega arith) hl (omega arith) (omega arith) h8 ((far.0.0.0, far.0.1.0), omega (arith, far.1))
        (stands-left (field_b L x b f) _ af)
        (stands-left (write_branch L x b) (write_branches L ks (b + length_branch L x)) ab)) in
        let e8 = eight_branch L x in
        let mv = R.moves in
        more-laid x e ks d b lo p k i R w.1 c
        (branches-laid ks d (b + length_branch L x) R.stop p k (suc i) (f + pointer L) (omega arith) small w.2 (omega arith) (omega arith) mv
        (omega arith) (omega arith) ((far.0.0.1, far.0.1.1), omega (arith, far.1))
        (cols-next L s p i k e (own ks) c) (stands-next (field_b L x b f) (ap (λ (y : ℕ). f + y) (length-field_b L x b f)) af)
        (stands-next (write_branch L x b) (ap (λ (y : ℕ). b + y) (length-write_branch L x b)) ab))

    branch-laid' : (k : Branch) (d b lo hi f : ℕ) → L.entries < 65536 → WfBranch L k → depth_branch k ≤ d → lo ≤ b → b + length_branch L k ≤ hi
        → hi ≤ f → b % 8 ≡ 0 → (BranchNear L (2 ^ sign_bits L.width) k b × Near L (2 ^ sign_bits L.width) f (child_of L k b)) × (f < 2 ^ 63)
        → BytesAt s f (field_b L k b f) → BytesAt s b (write_branch L k b) → BranchRead k d b lo hi f
    branch-laid' none_b d b lo hi f small w hd hl hh hf h8 far af ab = none-laid d b lo hi f hl far.1 af
    branch-laid' (some_b t) d b lo hi f small w hd hl hh hf h8 far af ab =
        branch-laid t d b lo hi f (tree-laid t d b lo hi small w hd hl hh h8 (far.0.0, omega (arith, far.1)) ab) (omega arith) far.0.1 af
