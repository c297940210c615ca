-- `listening::run` meets its contract. Invariant: to hear all bits from the start is to hear those that are left into the record as it stands. A turn
-- hears bits up to the first that asks for something (`advanced_heard`), and does that.
-- Assumes nothing.
use Prim.Native.Nat.{◌-◌}
use mathlib.Core.Path.{◌≡◌}
use lib.ListN.{length, drop}
use Rattle.listening.specs.Hearing.{listened}
use Rattle.listening.proofs.run.Given as goal

abbrev pub invariant-loop-i : goal.invariant-loop-i
invariant-loop-i l = listened (record { ear = l.initial.ear; msg = l.initial.msg; last = l.last }) l.bits 0 ≡ listened (record { ear = l.ear; msg = l.msg; last = l.last }) (drop l.i l.bits) l.i

abbrev pub decreases-loop-i : goal.decreases-loop-i
decreases-loop-i l = length l.bits - l.i
