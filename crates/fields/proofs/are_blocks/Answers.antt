-- `fields::are_blocks` meets its contract: the walk counts exactly where every block fits.
-- Assumes nothing.
use Rattle.std.proofs.Common.{◌∙◌}
use Rattle.fields.proofs.Reading.{walked_well}
use Rattle.fields.proofs.are_blocks.Goals as goal

pub returns : goal.returns
returns c = c.is_ok.ensures.value ∙ walked_well c.args.octets.now c.walk_blocks.result c.walk_blocks.ensures
