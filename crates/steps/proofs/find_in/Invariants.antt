-- `steps::find_in` meets its contract. Invariant: no row up to this one applies, so what is found from it on is what is found.
-- Assumes nothing.
use Rattle.std.proofs.Common.{◌≡◌, drop}
use Rattle.steps.specs.Inner.{find_held}
use Rattle.steps.proofs.find_in.Given as goal

abbrev pub invariant-loop-row : goal.invariant-loop-row
invariant-loop-row l = find_held l.state l.event l.passed l.holding l.part ≡ find_held l.state l.event l.passed l.holding (drop l.row-index l.part)
