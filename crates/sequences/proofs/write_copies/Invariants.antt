-- `sequences::write_copies` meets its contract. Invariant: `counter` copies stand at the front of the buffer and end at `at`; there is room
-- for one more, since n copies fit.
-- Assumes nothing.
use Prim.Native.Nat.{◌≤◌}
use mathlib.Core.Path.{◌≡◌}
use lib.ListN.{length}
use Rattle.laws.specs.Front.{front}
use Rattle.sequences.specs.Line.{sequence, copies}
use Rattle.sequences.proofs.write_copies.Given as goal

abbrev pub invariant-loop : goal.invariant-loop
invariant-loop l = (l.counter ≤ l.n) × (l.at ≡ length (copies l.counter (sequence l.kind l.octets))) × (l.out ≡ front (copies l.counter (sequence l.kind l.octets)) l.initial.out)
