-- `listing::State::list` is safe and ends: each time some bits are taken of those that are left.
-- Assumes nothing.
use Rattle.std.proofs.Common.{length}
use Rattle.listing.proofs.State.list.Given as goal

abbrev pub decreases-loop-rest : goal.decreases-loop-rest
decreases-loop-rest l = length l.rest
