-- The streaming definition of the builder and the tree agree, over every layout and for every list of one entry or more. Assumes nothing.
use Rattle.std.specs.Prelude.{◌≡◌, None, Option}
use Rattle.format.specs.declared.Position.{Position}
use Rattle.std.proofs.Math.Path.{refl, ap, subst}
use Rattle.std.proofs.Common.{sym, ap₂, ◌∙◌, zero-add, not-suc-le-zero}
use Rattle.std.proofs.Math.Bool.{false}
use mathlib.Core.List.{List, [], ◌∷◌, ◌++◌, append-nil}
use Prim.Native.Nat.{ℕ, zero, suc, ◌+◌, ◌-◌, ◌≤◌, ◌<◌}
use native.Mathlib.Omega.{arith}
use Rattle.std.proofs.Math.ListN.{length, replicate}
use Rattle.format.specs.Layout.{Layout, node_align}
use Rattle.format.specs.Align.{zeros_to}
use Rattle.format.specs.Tree.{Slot, Branch, none_b, some_b, KeyValue}
use Rattle.format.specs.Build.{log_from, Filled, closed, fill_branches, fill, height, last_level, tree_of, record_bytes, behind, archive}
use Rattle.format.specs.Serialize.{State, climb, transit, run, close_last, close_inners, serialize, streamed, Agrees}
use Rattle.format.specs.TreeShape.{There}
use Rattle.format.proofs.Laws.Build.Built.{tree_is, none_left, tree-there}
use Rattle.format.specs.Weight.{upper, room}
use Rattle.format.proofs.Laws.Build.Filling.{fill-took}
use Rattle.format.proofs.Laws.Build.Height.{fitting}
use Rattle.format.proofs.Laws.Build.LoopLastLevel.{leaf-full, leaf_last, last-small, Ends, ends-all}
use Rattle.format.proofs.Laws.Build.LoopInner.{extra_level, one-extra, left-pos, ready, done, shut, shut-done, comes-to, Writes, inner-writes}
use Rattle.format.proofs.Laws.Build.LoopSteps.{TurnsTo, run-all}

module _ (L : Layout) where
  -- ---- the levels, from the last one up

  low-writes : 0 < L.entries → Writes L (fill L 1) (upper L 1) (room L 1) 0
  unfolding Writes fill Ends
  low-writes some S ll c zero es p bs lf size =
      record { count = c + L.entries; left = omega arith; leads = leaf-full L some S ll c es p bs 0 (omega arith) (λ i h e. omega arith) }
  low-writes some S ll c (suc m) es p bs lf size =
      let R = fill_branches (fill L 0) L.entries (suc m) es in
      comes-to L ll (ready L S 1 c es p bs) (λ c'. climb L S (extra_level R.last) (shut L c' [] R p bs))
      (λ c'. climb L S (0 + extra_level R.last) (done L c' (closed R) p bs)) R.last
      (λ c'. ap (climb L S (extra_level R.last)) (shut-done L c' R p bs)
      ∙ ap (λ (i : ℕ). climb L S i (done L c' (closed R) p bs)) (sym (zero-add (extra_level R.last))))
      (ends-all L some L.entries S [] ll c (suc m) es p bs (omega arith) lf (omega arith) (omega arith))

  tree-writes : 0 < L.entries → (l : ℕ) → Writes L (fill L (suc l)) (upper L (suc l)) (room L (suc l)) l
  unfolding fill Writes
  tree-writes some zero = low-writes some
  tree-writes some (suc l) = inner-writes L (fill L (suc l)) (upper L (suc l)) (room L (suc l)) l (fill-took L (suc l)) (tree-writes some l)

  -- The whole loop, where the levels fit the entries.
  loop : 0 < L.entries → (h m : ℕ) (es : List KeyValue) (p : ℕ) → 0 < m → m ≤ room L h → upper L h + m ≡ length es
      → (c : ℕ) × TurnsTo L m (ready L [] h 0 es p []) (done L c (fill L h m es) p [])
  unfolding climb transit Writes
  loop some zero zero es p pos fits e = absurd (not-suc-le-zero pos)
  loop some zero (suc j) es p pos fits e = (
    suc j,
    subst (λ (r : Filled). TurnsTo L (suc j) (ready L [] 0 0 es p []) (done L (suc j) r p [])) (sym (last-small L j es (omega arith)))
        (leaf_last L [] (suc j) 0 j es p [] (omega arith) (omega arith) (omega arith)),
  )
  loop some (suc l) m es p pos fits e =
      let a = tree-writes some l [] m 0 m es p [] (left-pos m 0 m pos (zero-add m)) (omega arith) in
      let el : l + extra_level m ≡ suc l = ap (λ (i : ℕ). l + i) (one-extra m pos) ∙ omega arith in
      (a.count, subst (λ (i : ℕ). TurnsTo L m (ready L [] i 0 es p []) (done L a.count (fill L (suc l) m es) p [])) el a.leads)

module _ (L : Layout) (some : 0 < L.entries) where
  finished : (c : ℕ) (r : Filled) (p : ℕ) (t : State) → r.rest ≡ [] → t ≡ done L c r p [] → let u = close_last L t.open_leaf t in
      Agrees L (close_inners L u.open_inners u) r.branch p
  unfolding close_inners
  finished c r p t e x =
      subst (λ (y : State). let u = close_last L y.open_leaf y in Agrees L (close_inners L u.open_inners u) r.branch p) (sym x)
      (record { bytes = refl; pos = refl; root = refl; iter = e; leaf = refl; inners = refl; panics = refl })

  -- The streaming definition and the tree agree.
  pub serialize-agrees : (e : KeyValue) (es : List KeyValue) (p : ℕ) → Agrees L (serialize L (e ∷ es) p) (tree_of L (e ∷ es)) p
  unfolding serialize
  serialize-agrees e es p =
      let all = e ∷ es in
      let F = fitting L some (length all) (omega arith) in
      let h = F.above in
      let m = last_level L (length all) in
      let eh : height L (length all) - 1 ≡ h = omega (arith, F.height-is) in
      let (c, l) = loop L some h m all p F.last-pos F.last-room F.last-is in
      let none = none_left L all F in
      let start₁ : State =
      record {
        open_leaf = [];
        open_inners = replicate (height L (length all) - 1) [];
        child_pos = None;
        leaf_entries = 0;
        iter = all;
        pos = p;
        bytes = [];
        panics = false;
      } in
      let es₁ : ready L [] h 0 all p [] ≡ start₁ =
      ap (λ (x : List (List Slot)). record' p x) (append-nil (replicate h []) ∙ ap (λ (i : ℕ). replicate i []) (sym eh)) in
      let x : run L (length all) m start₁ ≡ done L c (fill L h m all) p [] =
      ap (run L (length all) m) (sym es₁) ∙ run-all L m (ready L [] h 0 all p []) (done L c (fill L h m all) p []) (length all) l none (omega arith) in
      subst (λ (b : Branch). Agrees L (serialize L all p) b p) (sym (tree_is L e es h F.height-is))
      (finished c (fill L h m all) p (run L (length all) m start₁) none x)
    where
      record' : ℕ → List (List Slot) → State
      record' p x = record { open_leaf = []; open_inners = x; child_pos = None; leaf_entries = 0; iter = e ∷ es; pos = p; bytes = []; panics = false }

  archive-as : (header : List ℕ) (n : ℕ) (b : Branch) (t : State) → There b → Agrees L t b (length header + zeros_to node_align (length header))
      → header ++ (replicate (zeros_to node_align (length header)) 0 ++ (t.bytes ++ record_bytes L t.pos t.child_pos n))
      ≡ header ++ behind L (length header) b n
  unfolding behind
  archive-as header n none_b t th A = absurd th
  archive-as header n (some_b x) t th A =
      let z = zeros_to node_align (length header) in
      ap (λ (l : List ℕ). header ++ (replicate z 0 ++ l))
      (ap₂ (λ (w r : List ℕ). w ++ r) A.bytes (ap₂ (λ (i : ℕ) (c : Option Position). record_bytes L i c n) A.pos A.root))

  -- The two archives are the same bytes.
  pub streamed-archive : (header : List ℕ) (es : List KeyValue) → streamed L header es ≡ archive L header es
  unfolding streamed archive tree_of
  streamed-archive header [] = refl
  streamed-archive header (e ∷ es) =
      let p = length header + zeros_to node_align (length header) in
      archive-as header (length (e ∷ es)) (tree_of L (e ∷ es)) (serialize L (e ∷ es) p) (tree-there L e es some) (serialize-agrees e es p)

  -- The crate's loop meets no `unwrap` of nothing.
  pub never-panics : (es : List KeyValue) (p : ℕ) → (serialize L es p).panics ≡ false
  unfolding serialize run close_inners height log_from
  never-panics [] p = refl
  never-panics (e ∷ es) p = (serialize-agrees e es p).panics
