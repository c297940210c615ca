-- `names::is_name` meets its contract. Invariant: the word is as long as the name, and they have the same letters where what stands from place i
-- on has.
-- Assumes nothing.
use mathlib.Core.Path.{◌≡◌}
use mathlib.Core.List.{map}
use lib.ListN.{length, drop}
use Rattle.laws.specs.Tests.{same_list}
use Rattle.names.specs.Names.{lower, same_letters}
use Rattle.names.proofs.is_name.Given as goal

abbrev pub invariant-loop-i : goal.invariant-loop-i
invariant-loop-i l = (length l.word ≡ length l.name) × (same_letters l.word l.name ≡ same_list (drop l.i (map lower l.word)) (drop l.i (map lower l.name)))
