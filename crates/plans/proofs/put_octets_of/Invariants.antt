-- `plans::put_octets_of` meets its contract. Invariant: the octets that are written and those of the rest of the text are all of them.
-- Assumes nothing.
use Rattle.std.proofs.Common.{◌≡◌, ◌≤◌, length, drop}
use Rattle.plans.specs.Reading.{between, fresh, octets_from}
use Rattle.plans.proofs.Writing.{Written}
use Rattle.plans.proofs.put_octets_of.Given as goal

abbrev pub invariant-loop-i : goal.invariant-loop-i
invariant-loop-i l = Written (octets_from l.end fresh between l.text) (octets_from l.end l.spot.r l.spot.scan (drop l.i l.text)) l.initial.out l.out l.n × (l.n ≤ l.i) × (length l.out ≡ length l.initial.out)
