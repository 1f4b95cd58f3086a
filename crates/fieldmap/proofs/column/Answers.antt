-- `fieldmap::column` meets its contract: the bounds are for the numbers that are handed in, and certify's refusal comes before 18.
use Rattle.std.specs.Prelude.{Result}
use Rattle.std.proofs.Common.{◌≡◌, ℕ, ℤ, sym, ap, ◌∙◌}
use Rattle.std.proofs.lemmas.Result.{err_from_is_err_and}
use mir.Syntax.{w8}
use mir.Val.{SFits, to_z, of_z}
use mir.Facts.{to_z-of_z}
use Rattle.format.specs.declared.Column.{Column}
use Rattle.format.specs.declared.Packing.{Packing}
use Rattle.format.specs.declared.Refusal.{Refusal}
use Rattle.format.specs.Refusal.{answer_of}
use Rattle.format.specs.Key.{column_bounds}
use Rattle.format.proofs.Laws.Calls.Certified.{column-ranges, column-keys-ranges, column-values-ranges}
use Rattle.format.proofs.Laws.Calls.Certified.{column-uncertified, column-refused, column-keys-refused, column-values-refused}
use Rattle.fieldmap.proofs.column.Goals as goal

bounds-told : (P : Packing) (exam eye : ℕ) {a b : ℤ} {r v : Result Column Refusal} → SFits w8 a → SFits w8 b → r ≡ v
    → answer_of r ≡ column_bounds P exam eye (to_z w8 (of_z w8 a)) (to_z w8 (of_z w8 b)) → column_bounds P exam eye a b ≡ answer_of v
bounds-told P exam eye fa fb h e = sym (rw (to_z-of_z fa, to_z-of_z fb) at e) ∙ ap answer_of h

pub returns-in-Ok : goal.returns-in-Ok
returns-in-Ok c =
    let given = bounds-told _ _ _ c.ranges.a c.ranges.b c.in-Ok.is c.column_bounds.ensures in
    let ranged = c.range.ensures in record {
      answer = ranged.answer ∙ sym (column-ranges _ _ _ _ _ _ _ _ _ _ _ given);
      keys = ranged.keys ∙ sym (column-keys-ranges _ _ _ _ _ _ _ _ _ _ _ given);
      values = ranged.values ∙ sym (column-values-ranges _ _ _ _ _ _ _ _ _ _ _ given);
    }

pub returns-in_err-certify-in-Err : goal.returns-in_err-certify-in-Err
returns-in_err-certify-in-Err c =
    let p = err_from_is_err_and c.from_residual.result c.from_residual.ensures.1 in
    let refused = bounds-told _ _ _ c.ranges.a c.ranges.b c.in-Err.is c.column_bounds.ensures in record {
      answer = rw (p.1, p.2) (sym (column-uncertified _ _ _ _ _ _ _ _ _ _ _ (sym c.in_err-certify-in-Err.ensures)));
      keys = sym (column-keys-refused _ _ _ _ _ _ _ _ _ _ _ refused);
      values = sym (column-values-refused _ _ _ _ _ _ _ _ _ _ _ refused);
    }

pub returns-in_ok-certify-in-Err : goal.returns-in_ok-certify-in-Err
returns-in_ok-certify-in-Err c =
    let refused = bounds-told _ _ _ c.ranges.a c.ranges.b c.in-Err.is c.column_bounds.ensures in record {
      answer = sym (column-refused _ _ _ _ _ _ _ _ _ _ _ refused _ (sym c.in_ok-certify-in-Err.ensures));
      keys = sym (column-keys-refused _ _ _ _ _ _ _ _ _ _ _ refused);
      values = sym (column-values-refused _ _ _ _ _ _ _ _ _ _ _ refused);
    }
