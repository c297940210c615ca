-- `cadence::fill` meets its contract. Invariant: so many bits stand at the front of what is lent, and the place is that of the next in its period.
-- Assumes nothing.
use Prim.Native.Nat.{◌+◌, ◌%◌}
use mathlib.Core.Path.{◌≡◌}
use Rattle.laws.proofs.Pasted.{Pasted}
use Rattle.cadence.specs.Inner.{bits_here}
use Rattle.cadence.proofs.fill.Given as goal

abbrev pub invariant-loop-bit : goal.invariant-loop-bit
invariant-loop-bit l = (l.place ≡ (l.from + l.bit-index) % l.end) × Pasted l.initial.bit-items (bits_here l.ci l.on l.end l.from l.n) l.bit-index l.bit-items
