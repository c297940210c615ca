-- `octets::test_rest` meets its contract. Invariant: nothing before this place is at fault, so the first fault is the first from there on.
-- Assumes nothing.
use Rattle.std.proofs.Common.{◌≡◌, drop}
use Rattle.octets.specs.Lists.{first_fault}
use Rattle.octets.proofs.test_rest.Given as goal

abbrev pub invariant-loop-b : goal.invariant-loop-b
invariant-loop-b l = first_fault l.purpose l.octets ≡ first_fault l.purpose (drop l.b-index l.octets)
