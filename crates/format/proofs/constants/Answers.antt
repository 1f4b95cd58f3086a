-- The constants of the limits compute to the definitions' values.
use Rattle.std.proofs.Common.{refl}
use Rattle.format.specs.Layout.{viewer, server}
use Rattle.format.proofs.constants.Goals as goal

pub returns-clause-viewer_longest : goal.returns-clause-viewer_longest
unfolding viewer
returns-clause-viewer_longest c = refl

pub returns-clause-viewer_depth : goal.returns-clause-viewer_depth
unfolding viewer
returns-clause-viewer_depth c = refl

pub returns-clause-server_longest : goal.returns-clause-server_longest
unfolding server
returns-clause-server_longest c = refl

pub returns-clause-server_depth : goal.returns-clause-server_depth
unfolding server
returns-clause-server_depth c = refl
