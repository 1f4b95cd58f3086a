-- The children of an inner node, written one after the other with the entries between them. Assumes nothing.
use Prim.Native.Nat.{ℕ, zero, suc, ◌+◌, ◌*◌, ◌≤◌, ◌<◌, min}
use Rattle.std.specs.Prelude.{Option}
use Rattle.format.specs.declared.Position.{Position}
use mathlib.Core.Path.{◌≡◌, refl, sym, ap, ◌∙◌}
use mathlib.Core.List.{List, [], ◌∷◌, ◌++◌, append_assoc}
use native.Mathlib.Omega.{arith}
use native.Mathlib.Nat.{suc-ne-zero, suc_inj}
use lib.ListN.{length, get_or, drop}
use Rattle.format.specs.Layout.{Layout}
use Rattle.format.specs.Bytes.{put}
use Rattle.format.specs.Tree.{Slot, slot_of, Branch, length_branches, length_branch, child_of, slots_of, greater_of, write_branches, write_branch, KeyValue}
use Rattle.format.specs.Build.{Filled, FilledBranches, fill_next, fill_branches, fill, pairs}
use Rattle.format.specs.Weight.{upper, room}
use Rattle.format.proofs.Laws.Numbers.Bytes.{put-append}
use Rattle.format.proofs.Laws.Build.NodeBytes.{length-write_branch}
use Rattle.nodes.specs.declared.inline_vec.ChildPos.{ChildPos}
use Rattle.nodes.specs.Nodes.{child_at}
use Rattle.serialize.specs.declared.map.Place.{Place}
use Rattle.serialize.specs.Wrote.{most, from, Wrote}

-- An entry of the given lists.
entry_next : (i : ℕ) (a b : List ℕ) → i < length a → length a ≡ length b
    → drop i (pairs a b) ≡ record { key = get_or a i 0; value = get_or b i 0 } ∷ drop (suc i) (pairs a b)
entry_next i [] b h e = absurd (omega arith)
entry_next i (x ∷ a) [] h e = absurd (suc-ne-zero (length a) e)
entry_next zero (x ∷ a) (y ∷ b) h e = refl
entry_next (suc i) (x ∷ a) (y ∷ b) h e = entry_next i a b (omega arith) (suc_inj e)

-- Enough entries are left for k entries of an inner node and k + 1 children with h levels above the last one, and an output of n bytes has room.
pub record ReadyAll (L : Layout) (ks vs : List ℕ) (h k : ℕ) (p : Place) (n : ℕ) : Type 0 where
  pub enough : p.next + (suc k * upper L h + k + min p.last (suc k * room L h)) ≤ length ks
  pub fits : p.at.0 + length_branches L (fill_branches (fill L h) k p.last (from ks vs p.next)).branches ≤ min n most

-- What there is when the last child is closed.
pub record Ends : Type 0 where
  pub bytes : List ℕ
  pub slots : List Slot
  pub greater : Option Position
  pub at : ℕ
  pub rest : List KeyValue
  pub last : ℕ

module _ (L : Layout) where
  -- With the children and entries R from p on, after the slots ss.
  abbrev ends_by : FilledBranches → List ℕ → List Slot → ℕ → Ends
  ends_by R out ss p =
      record {
        bytes = put out p (write_branches L R.branches p);
        slots = ss ++ slots_of L R.branches p;
        greater = greater_of L R.branches p;
        at = p + length_branches L R.branches;
        rest = R.rest;
        last = R.last;
      }

  put_on : (b : Branch) (out out' : List ℕ) (p q : ℕ) (bs : List ℕ) → out' ≡ put out p (write_branch L b p) → q ≡ p + length_branch L b
      → put out p (write_branch L b p ++ bs) ≡ put out' q bs
  put_on b out out' p q bs e h =
      put-append out p (write_branch L b p) bs
      ∙ ap (λ (n : ℕ). put (put out p (write_branch L b p)) (p + n) bs) (length-write_branch L b p)
      ∙ ap (λ (n : ℕ). put (put out p (write_branch L b p)) n bs) (sym h)
      ∙ ap (λ (o : List ℕ). put o q bs) (sym e)

  same_ends : {b b' : List ℕ} {s s' : List Slot} {g g' : Option Position} {a a' : ℕ} {r : List KeyValue} {l : ℕ} → b ≡ b' → s ≡ s' → g ≡ g' → a ≡ a'
      → ◌≡◌ {A = Ends} (record { bytes = b; slots = s; greater = g; at = a; rest = r; last = l })
      (record { bytes = b'; slots = s'; greater = g'; at = a'; rest = r; last = l })
  same_ends h i j k = rw (h, i, j, k)

  module _ (give : ℕ → List KeyValue → Filled) where
    -- n entries and n + 1 children are left.
    abbrev pub ends : ℕ → List ℕ → List Slot → ℕ → ℕ → List KeyValue → Ends
    ends n out ss p m es = ends_by (fill_branches give n m es) out ss p

    -- An entry after a child, and what is left.
    ends_next : (n : ℕ) (c : Filled) (e : KeyValue) (es : List KeyValue) (out out' : List ℕ) (ss : List Slot) (k : Option Position) (p q m : ℕ)
        → out' ≡ put out p (write_branch L c.branch p) → k ≡ child_of L c.branch p → q ≡ p + length_branch L c.branch → m ≡ c.last
        → ends_by (fill_next (fill_branches give n) c (e ∷ es)) out ss p ≡ ends n out' (ss ++ (slot_of e k ∷ [])) q m es
    ends_next n c e es out out' ss k p q m eo ek eq em =
        let bs = (fill_branches give n c.last es).branches in
        let next = p + length_branch L c.branch in
        same_ends
        (put_on c.branch out out' p q (write_branches L bs next) eo eq ∙ ap (λ (x : ℕ). put out' q (write_branches L bs x)) (sym eq))
        (ap (λ (x : Option Position). ss ++ (slot_of e x ∷ slots_of L bs next)) (sym ek)
        ∙ ap (λ (x : ℕ). ss ++ (slot_of e k ∷ slots_of L bs x)) (sym eq)
        ∙ sym (append_assoc ss (slot_of e k ∷ []) (slots_of L bs q)))
        (ap (greater_of L bs) (sym eq))
        (omega arith)
        ∙ ap (λ (x : ℕ). ends n out' (ss ++ (slot_of e k ∷ [])) q x es) (sym em)

    -- The child at p is written, and the entry after it goes to the node.
    pub ends_more : (ks vs : List ℕ) (n : ℕ) (p r : Place) (k : Option ChildPos) (out out' : List ℕ) (ss : List Slot) → length ks ≡ length vs
        → r.next < length ks
        → Wrote L ks vs (give p.last (from ks vs p.next)) p out k r out'
        → ends (suc n) out ss p.at.0 p.last (from ks vs p.next)
        ≡ ends n out' (ss ++ (slot_of (record { key = get_or ks r.next 0; value = get_or vs r.next 0 }) (child_at k) ∷ []))
        r.at.0 r.last (from ks vs (suc r.next))
    ends_more ks vs n p r k out out' ss el h W =
        let c = give p.last (from ks vs p.next) in
        ap (λ (l : List KeyValue). ends_by (fill_next (fill_branches give n) c l) out ss p.at.0) (sym W.rest ∙ entry_next r.next ks vs h el)
        ∙ ends_next n c _ _ out out' ss _ _ _ _ W.bytes W.child W.at W.last

    first-in : (n : ℕ) (c : Filled) (es : List KeyValue) → length_branch L c.branch ≤ length_branches L (fill_next (fill_branches give n) c es).branches
    first-in n c [] = omega arith
    first-in n c (e ∷ es) = omega arith

    -- A child is no longer than all of them.
    pub child-in : (n m : ℕ) (es : List KeyValue) → length_branch L (give m es).branch ≤ length_branches L (fill_branches give n m es).branches
    child-in zero m es = omega arith
    child-in (suc n) m es = first-in n (give m es) (give m es).rest
