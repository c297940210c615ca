-- `items::place_of` meets its contract: the table of the code agrees with the places entry by entry.
-- Assumes nothing.
use Rattle.items.proofs.Places.{place_at}
use Rattle.items.proofs.place_of.Goals as goal

pub returns : goal.returns
returns c = place_at c.args.item.0 c.requires
