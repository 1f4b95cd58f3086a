-- `certification::certify` meets its contract. Assumes nothing.
use Rattle.certification.proofs.Surveys.{told}
use Rattle.certification.proofs.certify.Goals as goal

pub returns-then-archive-p-eq0 : goal.returns-then-archive-p-eq0
returns-then-archive-p-eq0 c = search told

pub returns-else-archive-p-eq0 : goal.returns-else-archive-p-eq0
returns-else-archive-p-eq0 c = search told
