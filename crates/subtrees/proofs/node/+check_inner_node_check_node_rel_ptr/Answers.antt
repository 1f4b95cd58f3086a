-- An inner node's answer is the definition's, by its place's answer and by those of its children, from the first to the greater one.
use Rattle.std.specs.Prelude.{Ok}
use Rattle.std.proofs.Common.{ℕ, ◌≡◌, List, ap, sym, ◌∙◌, arith}
use Rattle.std.proofs.lemmas.Result.{err_from_is_err_and}
use Rattle.format.specs.Layout.{Layout, layout_of, inner_size, node_align}
use Rattle.subtrees.specs.declared.archive.SubtreeRange.{SubtreeRange}
use Rattle.subtrees.specs.Subtree.{opened}
use Rattle.subtrees.proofs.Places.{opened-held, opened-sized}
use Rattle.subtrees.proofs.Nodes.{inner-refused, inner-child-refused, inner-entries}
use Rattle.subtrees.proofs.Within.{ChildrenChecked, checked-none, checked-absent, checked_refused, checked-entries, whole-absent, whole-refused, whole-entries}
use Rattle.subtrees.proofs.node.+check_inner_node_check_node_rel_ptr.Goals as goal
use Rattle.subtrees.proofs.node.+check_inner_node_check_node_rel_ptr.Goals.{check_inner_node-In_ok-in_subtree}

-- What the loop keeps of the children, from the range that the loop begins with.
begun : (L : Layout) (d : ℕ) (s : List ℕ) (p : ℕ) {r q : SubtreeRange} (i start total : ℕ) → r ≡ q → ChildrenChecked L d s p r.start.0 i start total
    → ChildrenChecked L d s p q.start.0 i start total
begun L d s p i start total e w = rw (ap (λ (x : SubtreeRange). x.start.0) e) at w

-- The inner node is in its place.
placed : (t : _) (c : check_inner_node-In_ok-in_subtree t) → let range = c.args.range in
    opened range.start.0 range.end.0 c.args.depth c.args.at.0 (inner_size (layout_of c.args.layout)) node_align ≡ Ok tt
placed t c = sym (opened-sized _ _ _ _ _ c.in_ok-in_subtree.ensures c.inner-inner_size.ensures.0)

pub check_inner_node-returns-in_err-in_subtree : goal.check_inner_node-returns-in_err-in_subtree
check_inner_node-returns-in_err-in_subtree t c =
    let p = err_from_is_err_and c.from_residual.result c.from_residual.ensures.1 in
    rw (p.1, p.2) (inner-refused _ _ _ _ _ _ c.requires.2 (opened-sized _ _ _ _ _ c.in_err-in_subtree.ensures c.inner-inner_size.ensures.0))

pub check_inner_node-loop-i-init : goal.check_inner_node-loop-i-init
check_inner_node-loop-i-init t c =
    let e = c.push_subtree_range-inside.ensures in
    let h = opened-held _ _ _ _ _ _ (placed t (goal.at.check_inner_node-loop-i-init t c).In_ok-in_subtree) in
    (omega arith, ap (λ (r : SubtreeRange). r.end.0) e, omega arith, h.1, checked-none _ _ _ _ _ (rw (ap (λ (r : SubtreeRange). r.start.0) e) h.0.low))

pub check_inner_node-loop-i-preserved-then-is_invalid_at : goal.check_inner_node-loop-i-preserved-then-is_invalid_at
check_inner_node-loop-i-preserved-then-is_invalid_at t c = (
  omega arith,
  c.loop-i.invariant.1,
  c.loop-i.invariant.2,
  c.loop-i.invariant.3,
  checked-absent _ _ _ _ _ _ _ _ c.loop-i.invariant.4 (omega arith) c.child_field-field.ensures.0 c.is_invalid_at.ensures c.if-is_invalid_at.true,
)

pub check_inner_node-returns-in_err-lesser : goal.check_inner_node-returns-in_err-lesser
check_inner_node-returns-in_err-lesser t c =
    let p = err_from_is_err_and c.from_residual-in_err-lesser.result c.from_residual-in_err-lesser.ensures.1 in
    let w = begun _ _ _ _ _ _ _ c.push_subtree_range-inside.ensures c.loop-i.invariant.4 in
    let refused =
    checked_refused _ _ _ _ _ _ _ _ w (omega arith) c.child_field-field.ensures.0 c.is_invalid_at.ensures c.if-is_invalid_at.false
    c.loop-i.invariant.1 c.in_err-lesser.ensures
    in
    let here = placed t (goal.at.check_inner_node-returns-in_err-lesser t c).In_ok-in_subtree in
    rw (p.1, p.2) (inner-child-refused _ _ _ _ _ _ c.requires.2 here refused)

pub check_inner_node-overflow_add-entries : goal.check_inner_node-overflow_add-entries
check_inner_node-overflow_add-entries t c =
    let w =
    checked-entries _ _ _ _ _ _ _ _ c.loop-i.invariant.4 (omega arith) c.child_field-field.ensures.0 c.is_invalid_at.ensures
    c.if-is_invalid_at.false c.loop-i.invariant.1 c.in_ok-lesser.ensures
    in
    omega (arith, w)

pub check_inner_node-loop-i-preserved : goal.check_inner_node-loop-i-preserved
check_inner_node-loop-i-preserved t c =
    let e = c.pop_subtree_range-inside.ensures in
    let w =
    checked-entries _ _ _ _ _ _ _ _ c.loop-i.invariant.4 (omega arith) c.child_field-field.ensures.0 c.is_invalid_at.ensures
    c.if-is_invalid_at.false c.loop-i.invariant.1 c.in_ok-lesser.ensures
    in (
      omega arith,
      ap (λ (r : SubtreeRange). r.end.0) e ∙ c.loop-i.invariant.1,
      c.loop-i.invariant.2,
      c.loop-i.invariant.3,
      rw (ap (λ (r : SubtreeRange). r.start.0) e) w,
    )

pub check_inner_node-returns-else-not-is_invalid_at : goal.check_inner_node-returns-else-not-is_invalid_at
check_inner_node-returns-else-not-is_invalid_at t c =
    let w = begun _ _ _ _ _ _ _ c.push_subtree_range-inside.ensures c.loop-i.invariant.4 in
    inner-entries _ _ _ _ _ _ c.requires.2 (placed t (goal.at.check_inner_node-returns-else-not-is_invalid_at t c).In_ok-in_subtree)
    (whole-absent _ _ _ _ _ _ _ _ w (omega arith) c.child_field-field-2.ensures.0 c.is_invalid_at-2.ensures c.if-not-is_invalid_at.false)
    (omega arith)

pub check_inner_node-returns-in_err-greater : goal.check_inner_node-returns-in_err-greater
check_inner_node-returns-in_err-greater t c =
    let p = err_from_is_err_and c.from_residual-in_err-greater.result c.from_residual-in_err-greater.ensures.1 in
    let w = begun _ _ _ _ _ _ _ c.push_subtree_range-inside.ensures c.loop-i.invariant.4 in
    let refused =
    whole-refused _ _ _ _ _ _ _ _ w (omega arith) c.child_field-field-2.ensures.0 c.is_invalid_at-2.ensures c.if-not-is_invalid_at.true
    c.loop-i.invariant.1 c.in_err-greater.ensures
    in
    let here = placed t (goal.at.check_inner_node-returns-in_err-greater t c).In_ok-in_subtree in
    rw (p.1, p.2) (inner-child-refused _ _ _ _ _ _ c.requires.2 here refused)

pub check_inner_node-overflow_add-entries-then-not-is_invalid_at : goal.check_inner_node-overflow_add-entries-then-not-is_invalid_at
check_inner_node-overflow_add-entries-then-not-is_invalid_at t c =
    let w =
    whole-entries _ _ _ _ _ _ _ _ c.loop-i.invariant.4 (omega arith) c.child_field-field-2.ensures.0 c.is_invalid_at-2.ensures
    c.if-not-is_invalid_at.true c.loop-i.invariant.1 c.in_ok-greater.ensures
    in
    omega (arith, w)

pub check_inner_node-returns-in_ok-greater : goal.check_inner_node-returns-in_ok-greater
check_inner_node-returns-in_ok-greater t c =
    let w = begun _ _ _ _ _ _ _ c.push_subtree_range-inside.ensures c.loop-i.invariant.4 in
    let whole =
    whole-entries _ _ _ _ _ _ _ _ w (omega arith) c.child_field-field-2.ensures.0 c.is_invalid_at-2.ensures c.if-not-is_invalid_at.true
    c.loop-i.invariant.1 c.in_ok-greater.ensures
    in
    inner-entries _ _ _ _ _ _ c.requires.2 (placed t (goal.at.check_inner_node-returns-in_ok-greater t c).In_ok-in_subtree) whole.is (omega arith)
