-- `fields::provider` meets its contract: it is the part of that name.
-- Assumes nothing.
use Rattle.fields.proofs.provider.Goals as goal

pub returns : goal.returns
returns c = c.part_of.ensures
