-- `lookups::map::get_bytes` meets its contract. Assumes nothing.
use Rattle.lookups.proofs.Finds.{found-room, bytes-some, bytes-none}
use native.Mathlib.Omega.{arith}
use Rattle.lookups.proofs.map.get_bytes.Goals as goal

pub returns-in_default-clause-bytes : goal.returns-in_default-clause-bytes
returns-in_default-clause-bytes c = search bytes-none

-- The value that is found lies within the archive.
pub overflow_add-result : goal.overflow_add-result
overflow_add-result c =
    let room = found-room _ _ _ _ _ _ c.get_key_value_raw.ensures _ c.requires.1 c.in-Some.is in
    omega (arith, room)

pub slice_bounds-result-end-2 : goal.slice_bounds-result-end-2
slice_bounds-result-end-2 c = found-room _ _ _ _ _ _ c.get_key_value_raw.ensures _ c.requires.1 c.in-Some.is

pub returns-clause-bytes : goal.returns-clause-bytes
returns-clause-bytes c = search bytes-some
