-- `listing::to_bits` meets its contract. Invariant: no more bits were kept than characters read, so each is stored over one that was read.
-- Assumes nothing.
use Rattle.std.proofs.Common.{◌≤◌}
use Rattle.listing.proofs.to_bits.Given as goal

abbrev pub invariant-loop-i : goal.invariant-loop-i
invariant-loop-i l = l.n ≤ l.i
