-- `fields::place_of` meets its contract. Invariant: `place` is where block k begins, so the block that is read there is block k, and the next one
-- begins behind it.
-- Assumes nothing.
use mathlib.Core.Path.{◌≡◌}
use Rattle.fields.specs.Blocks.{place_of}
use Rattle.fields.proofs.place_of.Given as goal

abbrev pub invariant-loop : goal.invariant-loop
invariant-loop l = l.place ≡ place_of l.octets l.counter
