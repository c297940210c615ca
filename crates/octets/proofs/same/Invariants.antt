-- `octets::same` meets its contract. Invariant: the lists are as long as each other, and they are the same where what stands from place i on is the
-- same.
-- Assumes nothing.
use mathlib.Core.Path.{◌≡◌}
use lib.ListN.{length, drop}
use Rattle.laws.specs.Tests.{same_list}
use Rattle.octets.proofs.same.Given as goal

abbrev pub invariant-loop-i : goal.invariant-loop-i
invariant-loop-i l = (length l.a ≡ length l.b) × (same_list l.a l.b ≡ same_list (drop l.i l.a) (drop l.i l.b))
