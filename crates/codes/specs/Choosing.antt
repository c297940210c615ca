-- The choice, and the menu that a call function octet stands in, as the numbers that cross to C.
use Rattle.std.specs.Prelude.{ℕ, ◌+◌, ℤ, pos, neg_ℤ}
use Rattle.offers.specs.declared.Source.{Source}
use Rattle.offers.specs.declared.Source.TheVariants.{Neither, Heard, Own}
use Rattle.choices.specs.Choosing.{Chosen, none, item, pcm, refusal}

-- 0 for none, an item as itself, PCM options above 16 since no item is as high, or a refusal n as -n
abbrev pub choice_code : Chosen → ℤ
choice_code none = pos 0
choice_code (item i) = pos i
choice_code (pcm options) = pos (16 + options)
choice_code (refusal n) = neg_ℤ (pos n)

-- 0 for the empty part, 1 for the first octet of the heard menu, 2 for that of our own
abbrev pub source_code : Source → ℕ
source_code Neither = 0
source_code Heard = 1
source_code Own = 2
