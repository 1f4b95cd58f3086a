-- What holds of an inner node after its first i children: the children that are left give the whole answer, and the sums stay small. Assumes nothing.
use mathlib.Core.Path.{◌≡◌, sym, ◌∙◌, ap}
use mathlib.Core.Bool.{Bool, true, false}
use mathlib.Core.List.{List}
use Prim.Native.Nat.{ℕ, suc, ◌+◌, ◌-◌, ◌<◌, ◌≤◌}
use native.Mathlib.Nat.{sub-zero, sub_self}
use native.Mathlib.Numerals.{add-one}
use native.Mathlib.Omega.{arith}
use Rattle.format.specs.Layout.{Layout}
use Rattle.format.specs.RelPtr.{absent}
use Rattle.format.specs.Node.{child}
use Rattle.format.specs.Check.{Checked, accepted, refused, check_children, check_node}
use Rattle.format.proofs.Laws.Check.Bounds.{check-bytes}
use Rattle.subtrees.proofs.Nodes.{children-absent, children-refused, children-entries, last-absent, last-refused, last-entries}

module _ (L : Layout) (d : ℕ) (s : List ℕ) (p first : ℕ) where
  abbrev pub visit : ℕ → ℕ → Checked
  visit = check_node L s d p

  abbrev pub all : Checked
  all = check_children L s visit p L.entries 0 first L.entries

  -- The first i children are checked: what is left of the range begins at `start`, and `total` counts the node's own entries too.
  pub record ChildrenChecked (i start total : ℕ) : Type 0 where
    pub low : start ≤ p
    pub few : total + first ≤ start + L.entries
    pub rest : all ≡ check_children L s visit p (L.entries - i) i start total

  -- With the greater child's m entries.
  pub record Whole (total m t : ℕ) : Type 0 where
    pub low : t ≤ p
    pub few : total + m + first ≤ t + L.entries
    pub is : all ≡ accepted (total + m) t

  pub checked-none : first ≤ p → ChildrenChecked 0 first L.entries
  checked-none h = record { low = h; few = omega arith; rest = rw (sub-zero L.entries) }

  -- a is what the check of the node at the field f of child i answers, in a range that ends at q.
  answered : (start i : ℕ) {f q : ℕ} {a : Checked} → f ≡ child L p i → q ≡ p → a ≡ check_node L s d q start f → visit start (child L p i) ≡ a
  answered start i field e v = sym (rw (e, field) at v)

  module _ (i start total : ℕ) (w : ChildrenChecked i start total) (more : i < L.entries) where
    left : L.entries - i ≡ suc (L.entries - (i + 1))
    left = omega arith

    on : (t n : ℕ) → check_children L s visit p (L.entries - (i + 1)) (suc i) t n ≡ check_children L s visit p (L.entries - (i + 1)) (i + 1) t n
    on t n = ap (λ (x : ℕ). check_children L s visit p (L.entries - (i + 1)) x t n) (sym (add-one i))

    -- b is what the code reads of child i in its field f: whether it is absent.
    module _ {f : ℕ} (field : f ≡ child L p i) {b : Bool} (reads : b ≡ absent L s f) where
      read : b ≡ absent L s (child L p i)
      read = reads ∙ ap (absent L s) field

      pub checked-absent : b ≡ true → ChildrenChecked (i + 1) start total
      checked-absent e =
          record { low = w.low; few = w.few; rest = w.rest ∙ rw left (children-absent L s visit p _ i start total (sym read ∙ e) ∙ on start total) }

      module _ (e : b ≡ false) {q : ℕ} (ends : q ≡ p) where
        pub checked_refused : {r : ℕ} → refused r ≡ check_node L s d q start f → all ≡ refused r
        checked_refused v = w.rest ∙ rw left (children-refused L s visit p _ i start total (sym read ∙ e) _ (answered start i field ends v))

        pub checked-entries : {m t : ℕ} → accepted m t ≡ check_node L s d q start f → ChildrenChecked (i + 1) t (total + m)
        checked-entries {m} {t} v =
            let v = answered start i field ends v in
            let b = check-bytes L s d p start (child L p i) m t v in
            let few = w.few in
            let more = children-entries L s visit p _ i start total (sym read ∙ e) m t v ∙ on t (total + m) in
            record { low = b.1; few = omega arith; rest = w.rest ∙ rw left more }

  -- ---- the greater child, where the loop is at its end

  module _ (i start total : ℕ) (w : ChildrenChecked i start total) (end : i ≡ L.entries) where
    last : all ≡ check_children L s visit p 0 L.entries start total
    last = w.rest ∙ rw (end, sub_self L.entries)

    module _ {f : ℕ} (field : f ≡ child L p L.entries) {b : Bool} (reads : b ≡ absent L s f) where
      read-last : b ≡ absent L s (child L p L.entries)
      read-last = reads ∙ ap (absent L s) field

      pub whole-absent : b ≡ true → all ≡ accepted total start
      whole-absent e = last ∙ last-absent L s visit p 0 L.entries start total (sym read-last ∙ e)

      module _ (e : b ≡ false) {q : ℕ} (ends : q ≡ p) where
        pub whole-refused : {r : ℕ} → refused r ≡ check_node L s d q start f → all ≡ refused r
        whole-refused v = last ∙ last-refused L s visit p 0 L.entries start total (sym read-last ∙ e) _ (answered start L.entries field ends v)

        pub whole-entries : {m t : ℕ} → accepted m t ≡ check_node L s d q start f → Whole total m t
        whole-entries {m} {t} v =
            let v = answered start L.entries field ends v in
            let b = check-bytes L s d p start (child L p L.entries) m t v in
            let few = w.few in
            record { low = b.1; few = omega arith; is = last ∙ last-entries L s visit p 0 L.entries start total (sym read-last ∙ e) m t v }
