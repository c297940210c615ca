-- What is counted with one more bit, by the place that it brings, and with one more byte.
-- Assumes nothing.
use Prim.Native.Nat.{ℕ, ◌+◌}
use mathlib.Core.Bool.{Bool}
use lib.Dec.{eqb}
use Rattle.laws.specs.Logic.{when}
use Rattle.framing.specs.Framing.{in_sync}

-- what is counted with a bit that brings this place
abbrev pub one_more : ℕ → ℕ → ℕ
one_more place n = when (eqb place in_sync) 1 (n + 1)

-- what is counted with a byte, which may be no bit
abbrev pub one_byte : ℕ → ℕ → Bool → ℕ
one_byte place n no_bit = when no_bit n (one_more place n)
