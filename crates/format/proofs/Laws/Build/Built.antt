-- The builder's archive is certified, and its list is what was given: over every layout, for entries whose tree fits the limits and the width.
-- Assumes nothing.
use Rattle.std.specs.Prelude.{ℕ, suc, ◌+◌, ◌-◌, ◌*◌, ◌^◌, ◌%◌, ◌≤◌, ◌<◌, ◌≡◌, Bool, List, [], ◌∷◌, ◌++◌, length, replicate, ltb}
use Rattle.std.proofs.Math.Path.{refl, sym, ap, subst}
use Rattle.std.proofs.Common.{◌∙◌, append_assoc, append-nil, le-leb, lt-ltb, eq-eqb}
use Rattle.std.proofs.Math.Bool.{true, false, not}
use native.Mathlib.Omega.{arith}
use Rattle.std.proofs.Math.Nat.{add-zero}
use Rattle.std.proofs.Math.ListN.{length-append}
use Rattle.std.proofs.lemmas.List.{length-replicate}
use Rattle.format.specs.declared.Entry.{Entry}
use Rattle.format.specs.Layout.{Width, two, four, eight, bytes, Layout, entries_in_range, sign_bits, pointer, inner_size, record_size, record_align}
use Rattle.format.specs.Layout.{Limits, nested}
use Rattle.format.specs.Bytes.{le_bytes}
use Rattle.format.specs.RelPtr.{at, target}
use Rattle.format.specs.Align.{zeros_to}
use Rattle.format.specs.Node.{size_at}
use Rattle.format.specs.Check.{accepted, root, recorded, check_root, check_archive}
use Rattle.format.specs.Entries.{list_at, list}
use Rattle.format.specs.Certify.{ascends_from, ascends, hollow_at, hollow_of, certify}
use Rattle.format.specs.Tree.{offset_bytes, Tree, Branch, none_b, some_b, length_t, length_branch, top_t, child_of, write_branch, KeyValue}
use Rattle.format.specs.Build.{fill, height, last_level, tree_of, first_align, start, behind, archive, rises_from, rises}
use Rattle.format.specs.TreeShape.{pairs_of, keys_of, flat, flat_branch, depth_t, depth_branch, AllFit, There, WfT, WfBranch}
use Rattle.format.specs.NodeRelation.{Holds, Valid}
use Rattle.format.proofs.Laws.Numbers.Align.{step-aligned}
use Rattle.format.proofs.Laws.Numbers.Bytes.{length-le_bytes}
use Rattle.format.proofs.Laws.Numbers.Widths.{bytes-some, range-in}
use Rattle.format.proofs.Laws.Check.Complete.{pass, complete}
use Rattle.format.proofs.Laws.Build.Filling.{fill-flat, fill-took, BranchDone, fill_done, fill-depth}
use Rattle.format.proofs.Laws.Build.Height.{Fitting, fitting}
use Rattle.format.proofs.Laws.Build.ReadBack.{tree-laid}
use Rattle.format.proofs.Laws.Build.NodeBytes.{length-offset, length-write_branch, eight_t, top_in}
use Rattle.format.proofs.Laws.Build.Near.{TreeNear, BranchNear, own-most, top-own}
use Rattle.format.proofs.Laws.Build.BytesAt.{BytesAt, stands_here, stands-end, stands-as, read_back, wide, offset-back}

rises-from : (k : ℕ) (l : List Entry) → ascends_from k l ≡ rises_from k (keys_of (pairs_of l))
rises-from k [] = refl
rises-from k (x ∷ l) = by (ltb k x.key) refl (rises-from x.key l)
  where
    by : (b : Bool) → ltb k x.key ≡ b → ascends_from x.key l ≡ rises_from x.key (keys_of (pairs_of l))
        → ascends_from k (x ∷ l) ≡ rises_from k (keys_of (pairs_of (x ∷ l)))
    by true eb ih = rw (eb, ascends_from, rises_from) ih
    by false eb ih = rw (eb, ascends_from, rises_from)

rises-pairs : (l : List Entry) → ascends l ≡ rises (keys_of (pairs_of l))
rises-pairs [] = refl
rises-pairs (x ∷ l) = rises-from x.key l

-- ---- what certify accepts

module _ (L : Layout) (M : Limits) (s : List ℕ) where
  -- The record passes its tests.
  record Recorded : Type 0 where
    range : entries_in_range L ≡ true
    small : length s ≤ M.longest
    fits : record_size L ≤ length s
    aligned : root L s % record_align L ≡ 0
    enters : 1 < M.depth

  recorded-passes : Recorded → check_archive L M s ≡ check_root L M s (recorded L s)
  unfolding check_archive
  recorded-passes R =
      pass R.range _ _ ∙ pass (le-leb _ _ R.small) _ _ ∙ pass (le-leb _ _ R.fits) _ _
      ∙ pass (eq-eqb _ _ R.aligned) _ _ ∙ pass (lt-ltb _ _ R.enters) _ _

  -- With a root that holds n + 1 entries.
  record Sure (n : ℕ) (es : List KeyValue) : Type 0 where
    recorded-ok : Recorded
    count : recorded L s ≡ suc n
    pos : ℕ
    leads : target L s (root L s) ≡ at pos
    valid : Valid L s (nested M) 0 (root L s) pos (suc n)
    solid : hollow_at L s (nested M) pos ≡ false
    gives : pairs_of (list_at L s (nested M) pos) ≡ es
    asc : rises (keys_of es) ≡ true

  sure-list : {n : ℕ} {es : List KeyValue} (S : Sure n es) → list L M s ≡ list_at L s (nested M) S.pos
  unfolding list
  sure-list S = rw (S.count, S.leads)

  sure : (n : ℕ) (es : List KeyValue) (S : Sure n es) → certify L M s ≡ accepted (suc n) (S.pos + size_at L s S.pos)
  unfolding certify check_root
  sure n es S =
      let ea : check_archive L M s ≡ accepted (suc n) (S.pos + size_at L s S.pos) =
      recorded-passes S.recorded-ok ∙ rw S.count (rw (complete L s S.valid (root L s) S.leads) (pass (eq-eqb (suc n) (suc n) refl) _ _)) in
      let eo : ascends (list L M s) ≡ true = rw (sure-list S) (rises-pairs (list_at L s (nested M) S.pos) ∙ rw S.gives S.asc) in
      let eh : hollow_of L M s (recorded L s) ≡ false = rw (S.count, S.leads) S.solid in
      rw ea (pass (ap not eh) _ _ ∙ pass eo _ _)

  sure-empty : Recorded → recorded L s ≡ 0 → (certify L M s ≡ accepted 0 0) × (list L M s ≡ [])
  unfolding certify check_root list
  sure-empty R count =
      let ea : check_archive L M s ≡ accepted 0 0 = recorded-passes R ∙ rw count refl in
      (rw (ea, count), rw count)

-- ---- where the archive's parts stand

pub behind-length : (L : Layout) (h n : ℕ) (b : Branch) → length (behind L h b n) ≡ zeros_to (first_align L b) h + length_branch L b + 2 * pointer L
unfolding behind
behind-length L h n b = simp (length-append, length-replicate, length-offset, length-le_bytes, length-write_branch) (omega arith)

pointer-divides : (w : Width) (x : ℕ) → x % 8 ≡ 0 → x % bytes w ≡ 0
pointer-divides two x h = omega arith
pointer-divides four x h = omega arith
pointer-divides eight x h = h

module _ (L : Layout) where
  module _ (front : List ℕ) (b : Branch) (n : ℕ) where
    p : ℕ
    p = start L b (length front)

    fp : List ℕ
    fp = front ++ replicate (zeros_to (first_align L b) (length front)) 0

    W : List ℕ
    W = write_branch L b p

    R : List ℕ
    R = offset_bytes L (p + length_branch L b) (child_of L b p)

    C : List ℕ
    C = le_bytes (pointer L) n

    s : List ℕ
    s = front ++ behind L (length front) b n

    s-parts : s ≡ fp ++ (W ++ (R ++ C))
    unfolding s behind fp W R C p
    s-parts = sym (append_assoc front (replicate (zeros_to (first_align L b) (length front)) 0) _)

    length-fp : length fp ≡ p
    unfolding fp p
    length-fp = simp (length-append, length-replicate)

    length-W : length W ≡ length_branch L b
    unfolding W
    length-W = length-write_branch L b p

    length_R : length R ≡ pointer L
    unfolding R
    length_R = length-offset L (p + length_branch L b) (child_of L b p)

    length-s : length s ≡ p + length_branch L b + pointer L + pointer L
    unfolding s p
    length-s = length-append front (behind L (length front) b n) ∙ omega (arith, behind-length L (length front) n b)

    tree-stands : BytesAt s p W
    tree-stands = stands-as (sym s-parts) length-fp (stands_here fp W (R ++ C))

    root_stands : BytesAt s (p + length_branch L b) R
    root_stands = stands-as (append_assoc fp W (R ++ C) ∙ sym s-parts) (length-append fp W ∙ omega (arith, length-fp, length-W)) (stands_here (fp ++ W) R C)

    count-stands : BytesAt s (p + length_branch L b + pointer L) C
    count-stands =
        stands-as (append_assoc (fp ++ W) R C ∙ append_assoc fp W (R ++ C) ∙ sym s-parts)
        (length-append (fp ++ W) R ∙ ap (λ (x : ℕ). x + length R) (length-append fp W) ∙ omega (arith, length-fp, length-W, length_R))
        (stands-end ((fp ++ W) ++ R) C)

    root_is : root L s ≡ p + length_branch L b
    unfolding root
    root_is = omega (arith, length-s)

    recorded-is : n < 256 ^ pointer L → recorded L s ≡ n
    unfolding recorded C
    recorded-is h = rw root_is (read_back (pointer L) n h count-stands)

module _ (L : Layout) (M : Limits) (front : List ℕ) where
  -- The archive of a tree that the layout can hold.
  tree-sure : (t : Tree) (n : ℕ) → 1 < M.depth → entries_in_range L ≡ true → WfT L t → depth_t t ≤ nested M → length (flat t) ≡ suc n
      → suc n < 256 ^ pointer L
      → rises (keys_of (flat t)) ≡ true → TreeNear L (2 ^ sign_bits L.width) t (start L (some_b t) (length front)) → inner_size L ≤ 2 ^ sign_bits L.width
      → M.longest < 2 ^ 63 → length (s L front (some_b t) (suc n)) ≤ M.longest
      → Sure L M (s L front (some_b t) (suc n)) n (flat t)
  unfolding p W R
  tree-sure t n deep range w hd hn hw ha far near short small =
      let few : L.entries < 65536 = omega (arith, range-in L range) in
      let b = some_b t in
      let a = s L front b (suc n) in
      let q = start L b (length front) in
      let er = root_is L front b (suc n) in
      let e8 = eight_t L t in
      let h8 : q % 8 ≡ 0 = step-aligned 8 (length front) (omega arith) in
      let i = top_in L t q in
      let T = tree-laid L a t (nested M) q 0 (root L a) few w hd (omega arith) (omega arith) h8
      (far, omega (arith, length-s L front b (suc n))) (tree-stands L front b (suc n)) in
      let (et, ea) = offset-back L a (q + length_t L t) (record { 0 = top_t L t q }) (omega arith) (omega (arith, top-own L t q, own-most L t))
      (root_stands L front b (suc n)) in
      record {
        recorded-ok =
            record {
              range = range;
              small = small;
              fits = omega (arith, length-s L front b (suc n));
              aligned = pointer-divides L.width (root L a) (omega arith);
              enters = deep;
            };
        count = recorded-is L front b (suc n) hw;
        pos = top_t L t q;
        leads = rw er et;
        valid = record { holds = subst (λ (x : ℕ). Holds L a (nested M) 0 (root L a) (top_t L t q) x) (T.many ∙ hn) T.holds };
        solid = T.solid;
        gives = T.list;
        asc = ha;
      }

  -- An archive that certify accepts with the given number of entries, and whose list has them.
  pub record Built (es : List KeyValue) : Type 0 where
    pub stop : ℕ
    pub certified : certify L M (archive L front es) ≡ accepted (length es) stop
    pub gives : pairs_of (list L M (archive L front es)) ≡ es

  branch-sure : (b : Branch) (es : List KeyValue) (n : ℕ) → There b → 1 < M.depth → entries_in_range L ≡ true → WfBranch L b
      → depth_branch b ≤ nested M → flat_branch b ≡ es
      → length es ≡ suc n → suc n < 256 ^ pointer L → rises (keys_of es) ≡ true
      → BranchNear L (2 ^ sign_bits L.width) b (start L b (length front)) → inner_size L ≤ 2 ^ sign_bits L.width → M.longest < 2 ^ 63
      → length (s L front b (suc n)) ≤ M.longest → Sure L M (s L front b (suc n)) n es
  branch-sure none_b es n th deep range w hd ef hn hw ha far near short small = absurd th
  branch-sure (some_b t) es n th deep range w hd ef hn hw ha far near short small =
      subst (λ (x : List KeyValue). Sure L M (s L front (some_b t) (suc n)) n x) ef
      (tree-sure t n deep range w hd (ap length ef ∙ hn) hw (ap (λ (l : List KeyValue). rises (keys_of l)) ef ∙ ha) far near short small)

  -- No entries.
  pub built-none : entries_in_range L ≡ true → 1 < M.depth → length (archive L front []) ≤ M.longest → Built []
  unfolding archive tree_of s p
  built-none range deep small =
      let a = s L front none_b 0 in
      let er = root_is L front none_b 0 in
      let big = wide L.width in
      let al : start L none_b (length front) % pointer L ≡ 0 = step-aligned (pointer L) (length front) (bytes-some L.width) in
      let er' : root L a ≡ start L none_b (length front) = er ∙ add-zero _ in
      let R : Recorded L M a =
      record { range = range; small = small; fits = omega (arith, length-s L front none_b 0); aligned = rw er' al; enters = deep } in
      let (ec, el) = sure-empty L M a R (recorded-is L front none_b 0 (omega arith)) in
      record { stop = 0; certified = ec; gives = ap pairs_of el }

nil-of : (l : List KeyValue) → length l ≡ 0 → l ≡ []
nil-of [] e = refl
nil-of (x ∷ l) e = absurd (omega arith)

-- What the tree of one entry or more is.
pub record TreeOf (L : Layout) (es : List KeyValue) : Type 0 where
  pub some : 0 < L.entries
  pub fit : Fitting L some (length es)
  pub done : BranchDone L fit.above (last_level L (length es)) es (fill L fit.above (last_level L (length es)) es)
  pub is : tree_of L es ≡ (fill L fit.above (last_level L (length es)) es).branch

module _ (L : Layout) where
  pub tree_is : (e : KeyValue) (es : List KeyValue) (h : ℕ) → height L (length (e ∷ es)) ≡ suc h
      → tree_of L (e ∷ es) ≡ (fill L h (last_level L (length (e ∷ es))) (e ∷ es)).branch
  unfolding tree_of
  tree_is e es h eh =
      let e₁ : height L (length (e ∷ es)) - 1 ≡ h = omega arith in
      ap (λ (x : ℕ). (fill L x (last_level L (length (e ∷ es))) (e ∷ es)).branch) e₁

  pub tree-of : (e : KeyValue) (es : List KeyValue) → 0 < L.entries → TreeOf L (e ∷ es)
  tree-of e es some =
      let F = fitting L some (length (e ∷ es)) (omega arith) in
      record {
        some = some;
        fit = F;
        done = fill_done L F.above (last_level L (length (e ∷ es))) (e ∷ es) some (omega (arith, F.last-is, F.last-room));
        is = tree_is e es F.above F.height-is;
      }

  -- No entry is left.
  pub none_left : {some : 0 < L.entries} (es : List KeyValue) (F : Fitting L some (length es)) → (fill L F.above (last_level L (length es)) es).rest ≡ []
  none_left es F =
      let t = fill-took L F.above (last_level L (length es)) es (omega (arith, F.last-is, F.last-room)) in
      nil-of _ (omega (arith, t.left, F.last-is, F.last-room))

  tree-flat : {es : List KeyValue} (T : TreeOf L es) → flat_branch (tree_of L es) ≡ es
  tree-flat {es} T =
      let m = last_level L (length es) in
      let h = T.fit.above in
      ap flat_branch T.is ∙ sym (append-nil (flat_branch (fill L h m es).branch))
      ∙ ap (λ (l : List KeyValue). flat_branch (fill L h m es).branch ++ l) (sym (none_left es T.fit)) ∙ fill-flat L h m es

  pub tree-there : (e : KeyValue) (es : List KeyValue) → 0 < L.entries → There (tree_of L (e ∷ es))
  tree-there e es some = let T = tree-of e es some in subst There (sym T.is) (T.done.starts (omega (arith, T.fit.last-pos)))

  -- One entry or more.
  pub built-some : (M : Limits) (front : List ℕ) (e : KeyValue) (es : List KeyValue) → entries_in_range L ≡ true → AllFit (e ∷ es) → 1 < M.depth
      → rises (keys_of (e ∷ es)) ≡ true → height L (length (e ∷ es)) ≤ nested M → length (e ∷ es) < 256 ^ pointer L
      → BranchNear L (2 ^ sign_bits L.width) (tree_of L (e ∷ es)) (start L (tree_of L (e ∷ es)) (length front)) → inner_size L ≤ 2 ^ sign_bits L.width
      → M.longest < 2 ^ 63 → length (archive L front (e ∷ es)) ≤ M.longest → Built L M front (e ∷ es)
  unfolding archive s
  built-some M front e es range fit deep asc hd hw far near short small =
      let all = e ∷ es in
      let some : 0 < L.entries = omega (arith, range-in L range) in
      let T = tree-of e es some in
      let wf : WfBranch L (tree_of L all) = subst (WfBranch L) (sym T.is) (T.done.wf fit) in
      let m = last_level L (length all) in
      let dp = fill-depth L T.fit.above m all in
      let ed : depth_branch (tree_of L all) ≡ depth_branch (fill L T.fit.above m all).branch = ap depth_branch T.is in
      let S = branch-sure L M front (tree_of L all) all (length es) (tree-there e es some) deep range wf (omega (arith, T.fit.height-is))
      (tree-flat T) refl hw asc far near short small in
      record { stop = _; certified = sure L M (archive L front all) (length es) all S; gives = ap pairs_of (sure-list L M (archive L front all) S) ∙ S.gives }
