-- What named limits count as: none above the server's, and in the order of the names. Assumes nothing.
use Rattle.std.specs.Prelude.{◌≤◌}
use Rattle.std.proofs.Common.{arith}
use Rattle.format.specs.Layout.{Limits, viewer, server, counts_as, Within, nested}

pub within-server : (M : Limits) → Within (counts_as M) server
unfolding server counts_as
within-server M = record { longest = omega arith; depth = omega arith }

pub counts-within : {M M' : Limits} → Within M M' → Within (counts_as M) (counts_as M')
unfolding server counts_as
counts-within w = record { longest = omega (arith, w.longest); depth = omega (arith, w.depth) }

pub viewer-server : Within viewer server
unfolding viewer server
viewer-server = record { longest = omega arith; depth = omega arith }

pub nested-within : {M M' : Limits} → Within M M' → nested M ≤ nested M'
unfolding nested
nested-within w = omega (arith, w.depth)
