-- `rehearse::ladder::tell` is safe and ends: each row takes a part of what is left of the text.
-- Assumes nothing.
use Rattle.std.proofs.Common.{length}
use Rattle.rehearse.proofs.ladder.tell.Given as goal

abbrev pub decreases-loop-rest : goal.decreases-loop-rest
decreases-loop-rest l = length l.rest
