-- `fields::walk_on` meets its contract: with no octets no block is left, a first block that does not fit refuses all, and otherwise what remains
-- behind it has one block fewer. The octets that remain fall with each call.
-- Assumes nothing.
use lib.ListN.{length}
use Rattle.fields.proofs.+walk_on.Given as goal

abbrev pub decreases-walk_on : goal.decreases-walk_on
decreases-walk_on l = length l.octets.now
