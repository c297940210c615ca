-- Document 01, 'Refusal numbers', and the numbers of the requests.
use Rattle.std.specs.Prelude.{ℕ, Result, Ok, Err, eqb}
use Rattle.laws.specs.Logic.{when}
use Rattle.refusals.specs.declared.Refusal.{Refusal}
use Rattle.refusals.specs.declared.Refusal.TheVariants.{NotABit, StopBitZero, BadOctet, TooManyOctets, NoCallFunction, ShortBuffer, AfterOver, Clock, WrongEvent, BadRecord, NotOffered, WrongCategory, CutShort, BadBlock, BadPacking, BadCadence}

-- the table's first column; document 02, Req 02: "15 more than four bits left over, or leftover bits or options not 0; 14 block longer than what
-- remains or a code that doesn't fit in it"; Req 04: "16 cadence outside these numbers"
abbrev pub number : Refusal → ℕ
number NotABit = 1
number StopBitZero = 2
number BadOctet = 3
number TooManyOctets = 4
number NoCallFunction = 5
number ShortBuffer = 6
number AfterOver = 7
number Clock = 8
number WrongEvent = 9
number BadRecord = 10
number NotOffered = 11
number WrongCategory = 12
number CutShort = 13
number BadBlock = 14
number BadPacking = 15
number BadCadence = 16

-- "A refusal carries its number alone": what a test answers as that number, or 0 where nothing is refused
abbrev pub fault : Result Unit Refusal → ℕ
fault (Ok t) = 0
fault (Err r) = number r

-- the order of refusals: the first number, or where that is 0 the second
abbrev pub before : ℕ → ℕ → ℕ
before f g = when (eqb f 0) g f
