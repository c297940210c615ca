-- `fields::copy` meets its contract. Invariant: i octets stand at the front of what was lent.
-- Assumes nothing.
use Rattle.laws.proofs.Pasted.{Pasted}
use Rattle.fields.proofs.copy.Given as goal

abbrev pub invariant-loop-i : goal.invariant-loop-i
invariant-loop-i l = Pasted l.initial.out l.octets l.i l.out
