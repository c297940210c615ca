-- `fields::pack` meets its contract. Invariant: k extension octets stand at the front of what was lent; where it is not all of them, fewer than
-- eight bits are held.
-- Assumes nothing.
use lib.ListN.{length}
use Prim.Native.Nat.{◌+◌, ◌*◌, ◌<◌}
use Rattle.fields.specs.Packing.{packed, extensions_for}
use Rattle.fields.proofs.Streams.{Streams}
use Rattle.laws.proofs.Pasted.{Pasted}
use Rattle.fields.proofs.pack.Given as goal

abbrev pub invariant-loop-k : goal.invariant-loop-k
invariant-loop-k l =
    (l.k < extensions_for (length l.octets) → (8 * l.held.taken < 5 * l.k + 8) × Streams 8 5 l.octets l.held.bits l.held.weight l.held.taken l.k) × Pasted l.initial.out (packed l.octets) l.k l.out
