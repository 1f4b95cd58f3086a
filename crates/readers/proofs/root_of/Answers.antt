-- `readers::root_of` meets its contract. Assumes nothing.
-- The record's offset is read where the code computes its place, and leads back.
use mathlib.Core.Path.{◌≡◌, sym, subst}
use Prim.Native.Nat.{ℕ, ◌-◌, ◌<◌}
use native.Mathlib.Omega.{arith}
use lib.ListN.{length}
use Rattle.format.specs.Layout.{Layout, layout_of}
use Rattle.format.specs.RelPtr.{at, target}
use Rattle.format.specs.Readable.{Down}
use Rattle.btree.proofs.Back.{down-inside, down_is}
use Rattle.readers.proofs.root_of.Goals as goal

module _ (c : goal.After-uint_at) where
  abbrev L : Layout
  L = layout_of c.args.layout

  abbrev from : ℕ
  from = length c.args.archive.now - c.record.result

  down : Down L c.args.archive.now from from
  down =
      subst (λ (n : ℕ). Down L c.args.archive.now (length c.args.archive.now - n) (length c.args.archive.now - n))
      (sym c.record.ensures.0) c.requires.1

  inside : c.ones.result - c.uint_at.result < from
  inside = down-inside L _ _ _ _ down c.uint_at.ensures.0 c.uint_at.ensures.1 c.ones.ensures

  led : target L c.args.archive.now from ≡ at (from - 1 - (c.ones.result - c.uint_at.result))
  led = down_is L _ _ _ _ down c.uint_at.ensures.0 c.uint_at.ensures.1 c.ones.ensures

pub returns : goal.returns
returns c =
    let s = c.args.archive.now in
    subst (λ (n : ℕ). target (L c) s (length s - n) ≡ at (from c - 1 - (c.ones.result - c.uint_at.result)))
    c.record.ensures.0 (led c)

pub overflow_sub-result-2 : goal.overflow_sub-result-2
overflow_sub-result-2 c = omega (arith, inside c)
