-- `fields::walk_blocks` meets its contract: the walk begins behind no block.
-- Assumes nothing.
use mathlib.Core.Path.{◌∙◌}
use Rattle.fields.specs.Blocks.{walked}
use Rattle.fields.proofs.Reading.{counted_none}
use Rattle.fields.proofs.walk_blocks.Goals as goal

pub returns : goal.returns
returns c = c.walk_on.ensures ∙ counted_none (walked c.args.octets.now)
