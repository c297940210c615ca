-- `plans::word_length` meets its contract. Invariant: no byte before place i ends the word, so it ends where the bytes from i on end it.
-- Assumes nothing.
use Rattle.std.proofs.Common.{◌≡◌, ◌+◌, drop}
use Rattle.plans.specs.Text.{word_length}
use Rattle.plans.proofs.word_length.Given as goal

abbrev pub invariant-loop-i : goal.invariant-loop-i
invariant-loop-i l = word_length l.text ≡ l.i + word_length (drop l.i l.text)
