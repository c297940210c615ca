-- docs/RANGES.md: what an ear may hold.
use Rattle.std.specs.Prelude.{Bool, leb}
use Rattle.laws.specs.Logic.{both}
use Rattle.framing.specs.declared.Ear.{Ear}
use Rattle.framing.specs.Framing.{last_of_ending}

-- the test
abbrev pub ear_in_range : Ear → Bool
ear_in_range ear = both (leb ear.heard 30) (leb ear.place last_of_ending)
