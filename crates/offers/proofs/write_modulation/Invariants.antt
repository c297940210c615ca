-- `offers::write_modulation` meets its contract. Invariant: the first k octets of the group stand at the front of what was lent.
-- Assumes nothing.
use Rattle.laws.proofs.Pasted.{Pasted}
use Rattle.offers.specs.Making.{modulation_group}
use Rattle.offers.proofs.write_modulation.Given as goal

abbrev pub invariant-loop-k : goal.invariant-loop-k
invariant-loop-k l = Pasted l.initial.out (modulation_group l.count l.items) l.k l.out
