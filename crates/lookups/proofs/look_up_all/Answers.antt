-- `lookups::look_up_all` meets its contract. Assumes nothing.
use mathlib.Core.Path.{refl}
use native.Mathlib.Omega.{arith}
use borrow.Author.Rules.{rules}
use Rattle.lookups.proofs.ManyLookups.{first-none, first_more, found-most, store_found, store_nothing}
use Rattle.lookups.proofs.look_up_all.Goals as goal
use Rattle.lookups.proofs.look_up_all.Goals.{in-Some, in_default}

pub loop-i-init : goal.loop-i-init
loop-i-init c = (refl, first-none _ _ _)

pub overflow_add-found : goal.overflow_add-found
overflow_add-found c = let most = found-most _ _ _ _ _ _ c.loop-i.invariant.1 in omega arith

pub loop-i-preserved : goal.loop-i-preserved
loop-i-preserved c = (
  search rules,
  first_more _ _ _ _ _ _ c.loop-i.invariant.1 _ _
      (elim c.match-get_key_value_raw.branch [
        | in-Some w ↦ search (store_found, rules)
        | in_default w ↦ search (store_nothing, rules)
      ]),
)
