-- `sequences::write_groups` meets its contract. Invariant: the first i octets stand framed at the front of the buffer; a group written
-- into what lies behind them makes them i and the group's, by `framed_more`.
-- Assumes nothing.
use Prim.Native.Nat.{◌≤◌, ◌-◌}
use mathlib.Core.Path.{◌≡◌}
use lib.ListN.{length, take}
use Rattle.laws.specs.Front.{front}
use Rattle.sequences.specs.Line.{framed_all}
use Rattle.sequences.proofs.write_groups.Given as goal

abbrev pub invariant-loop-i : goal.invariant-loop-i
invariant-loop-i l = (l.i ≤ length l.octets) × (l.out ≡ front (framed_all (take l.i l.octets)) l.initial.out)

abbrev pub decreases-loop-i : goal.decreases-loop-i
decreases-loop-i l = length l.octets - l.i
