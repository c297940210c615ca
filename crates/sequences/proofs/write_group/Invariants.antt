-- `sequences::write_group` meets its contract. Invariant: the first i octets stand framed at the front of the buffer, there is an octet
-- at place i, and from there on the group has as many extension octets left as it has in all, less i.
-- Assumes nothing.
use Prim.Native.Nat.{◌<◌, ◌-◌, ◌+◌}
use mathlib.Core.Path.{◌≡◌}
use lib.ListN.{length, take, drop}
use Rattle.laws.specs.Front.{front}
use Rattle.octets.specs.Lists.{until_category}
use Rattle.sequences.specs.Line.{framed_all}
use Rattle.sequences.proofs.write_group.Given as goal

abbrev pub invariant-loop-i : goal.invariant-loop-i
invariant-loop-i l = (l.i < length l.octets) × (l.out ≡ front (framed_all (take l.i l.octets)) l.initial.out) × (until_category (drop 1 l.octets) ≡ l.i + until_category (drop (l.i + 1) l.octets))

abbrev pub decreases-loop-i : goal.decreases-loop-i
decreases-loop-i l = length l.octets - l.i
