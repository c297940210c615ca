-- `plans::mark` meets its contract. Invariant: what is left of the text, marked on from here, leaves what the whole text does.
-- Assumes nothing.
use Rattle.std.proofs.Common.{◌≡◌, drop}
use Rattle.plans.specs.Reading.{between, fresh, marked_from}
use Rattle.plans.proofs.mark.Given as goal

abbrev pub invariant-loop-i : goal.invariant-loop-i
invariant-loop-i l = marked_from l.spot.r l.spot.scan (drop l.i l.text) l.damaged ≡ marked_from fresh between l.text l.initial.damaged
