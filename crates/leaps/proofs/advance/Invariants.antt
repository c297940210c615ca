-- `leaps::advance` meets its contract. Invariant: hearing the bits from `from` on comes to what hearing those from i on with the ear as it stands does;
-- a leap is as if each of its bits were heard, and the one behind it is handed to the framing.
-- Assumes nothing.
use Prim.Native.Nat.{◌-◌}
use mathlib.Core.Path.{◌≡◌}
use lib.ListN.{length, drop}
use Rattle.leaps.specs.Leaps.{advanced}
use Rattle.leaps.proofs.advance.Given as goal

abbrev pub invariant-loop-i : goal.invariant-loop-i
invariant-loop-i l = advanced l.initial.ear l.len (drop l.from l.bits) l.from ≡ advanced l.ear l.len (drop l.i l.bits) l.i

abbrev pub decreases-loop-i : goal.decreases-loop-i
decreases-loop-i l = length l.bits - l.i
