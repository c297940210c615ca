-- `fields::unpack` meets its contract. Invariant: i extension octets were taken in and j octets given out, which stand at the front of what was
-- lent; fewer than eight bits are held.
-- Assumes nothing.
use Prim.Native.Nat.{◌+◌, ◌*◌, ◌<◌}
use mathlib.Core.List.{map}
use Rattle.fields.specs.Packing.{five_of, unpacked}
use Rattle.fields.proofs.Streams.{Streams}
use Rattle.laws.proofs.Pasted.{Pasted}
use Rattle.fields.proofs.unpack.Given as goal

abbrev pub invariant-loop-e : goal.invariant-loop-e
invariant-loop-e l =
    (5 * l.e-index < 8 * l.j + 8) × Streams 5 8 (map five_of l.extensions) l.held l.weight l.e-index l.j × Pasted l.initial.out (unpacked l.extensions) l.j l.out
