-- What the private functions of this crate promise each other. No public promise names it.
use Rattle.std.specs.Prelude.{ℕ, zero, suc, ◌+◌, ◌*◌, ◌%◌, ◌/◌, ◌^◌, List, [], ◌∷◌, ltb}
use Rattle.laws.specs.Logic.{when}
use Rattle.cadence.specs.Cadence.{silence}

-- a CI sequence as one number, its first bit lowest
abbrev pub ci_number : ℕ → ℕ
ci_number function = 539493375 + 67108864 * function

-- the bit at a place within the period, of which so many bits are on
abbrev pub bit_here : ℕ → ℕ → ℕ → ℕ
bit_here ci on place = when (ltb place on) (ci / 2 ^ (place % 30) % 2) silence

-- so many bits from a place on, where a period ends at this place
unfoldable pub bits_here : ℕ → ℕ → ℕ → ℕ → ℕ → List ℕ
bits_here ci on end place zero = []
bits_here ci on end place (suc n) = bit_here ci on (place % end) ∷ bits_here ci on end (suc place) n
