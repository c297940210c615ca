-- `octets::is_bad` meets its contract: b4 decides first, then b3 or b5.
-- Assumes nothing.
use Rattle.laws.proofs.Cases.{cases}
use Rattle.laws.specs.Logic.{both, either}
use Rattle.octets.proofs.is_bad.Goals as goal

pub returns-then-b-eq1-2 : goal.returns-then-b-eq1-2
unfolding both either
returns-then-b-eq1-2 c = search cases

pub returns-else-b-eq1-2 : goal.returns-else-b-eq1-2
unfolding both either
returns-else-b-eq1-2 c = search cases

pub returns-else-b-eq1 : goal.returns-else-b-eq1
unfolding both either
returns-else-b-eq1 c = search cases
