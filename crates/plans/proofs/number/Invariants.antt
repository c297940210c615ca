-- `plans::number` meets its contract. Invariant: what is left of the word, read on from here, is the number of the whole word.
-- Assumes nothing.
use Rattle.std.proofs.Common.{◌≡◌, Some, drop}
use Rattle.plans.specs.Text.{number_on, number}
use Rattle.plans.proofs.number.Given as goal

abbrev pub invariant-loop-b : goal.invariant-loop-b
invariant-loop-b l = number_on (Some l.n) (drop l.b-index l.word) ≡ number l.word
