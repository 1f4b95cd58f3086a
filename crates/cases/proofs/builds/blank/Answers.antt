-- The array has as many bytes as its type says.
use Rattle.std.proofs.Common.{ℕ, sym}
use lib.ListN.{length-replicate}
use Rattle.cases.proofs.builds.blank.Goals as goal

pub returns-clause-long : goal.returns-clause-long
returns-clause-long c = sym (length-replicate {A = ℕ} 1048577 165)
