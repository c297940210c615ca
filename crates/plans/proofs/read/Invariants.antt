-- `plans::read` meets its contract. Invariant: what is left of the text, read on from here, is what the whole text is.
-- Assumes nothing.
use Rattle.std.proofs.Common.{◌≡◌, drop}
use Rattle.plans.specs.Reading.{read_from, read_text}
use Rattle.plans.proofs.read.Given as goal

abbrev pub invariant-loop-i : goal.invariant-loop-i
invariant-loop-i l = read_from l.spot.r l.spot.scan l.i (drop l.i l.text) ≡ read_text l.text
