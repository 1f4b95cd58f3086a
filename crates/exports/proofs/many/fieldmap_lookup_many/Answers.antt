-- `exports::many::fieldmap_lookup_many` meets its contract. Assumes nothing.
-- A list of numbers takes less than 2^63 bytes, so there are fewer keys.
use mathlib.Core.Path.{◌∙◌, sym}
use Prim.Native.Nat.{◌*◌, ◌<◌, ◌^◌}
use native.Mathlib.Omega.{arith}
use lib.ListN.{length}
use Rattle.lookups.proofs.ManyLookups.{many-most}
use Rattle.exports.proofs.many.fieldmap_lookup_many.Goals as goal

pub counted-requires : goal.counted-requires
counted-requires c = λ n e.
    let room : length c.args.keys.now * 8 < 2 ^ 63 = search in
    omega (arith, room, many-most _ _ _ _ _ _ (sym c.look_up_many.ensures.answer ∙ e))
