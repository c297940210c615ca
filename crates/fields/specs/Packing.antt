-- Document 02, Req 02: the packing of a field, octets into extension octets and back. It knows nothing of blocks.
use Rattle.std.specs.Prelude.{ℕ, zero, suc, ◌+◌, ◌*◌, ◌/◌, ◌%◌, ◌^◌, Bool, List, [], ◌∷◌, map, leb, eqb, length}
use Rattle.laws.specs.Logic.{both}
use Rattle.octets.specs.Octets.{b0, b1, b2, b6, b7}

-- "the five option bits of each extension octet, b0, b1, b2, b6, b7 in that order": as a number, the first lowest
abbrev pub five_of : ℕ → ℕ
five_of e = b0 e + 2 * b1 e + 4 * b2 e + 8 * b6 e + 16 * b7 e

-- the extension octet with these five: "An extension octet has b4 = 1, b3 = 0, b5 = 0."
abbrev pub extension_of : ℕ → ℕ
extension_of five = 16 + five % 8 + 64 * (five / 8 % 4)

-- ".. are joined": groups of so many bits, one behind the other, as one number; the first bit is lowest
unfoldable pub joined_bits : ℕ → List ℕ → ℕ
joined_bits width [] = 0
joined_bits width (x ∷ xs) = joined_bits width xs * 2 ^ width + x

-- so many groups of so many bits of a number, "lowest first"
unfoldable pub groups_of : ℕ → ℕ → ℕ → List ℕ
groups_of width zero n = []
groups_of width (suc count) n = n % 2 ^ width ∷ groups_of width count (n / 2 ^ width)

-- the joined option bits of extension octets, and how many octets they make
abbrev pub option_bits : List ℕ → ℕ
option_bits extensions = joined_bits 5 (map five_of extensions)

abbrev pub octets_in : List ℕ → ℕ
octets_in extensions = 5 * length extensions / 8

-- "every eight make an octet, lowest first"
unfoldable pub unpacked : List ℕ → List ℕ
unpacked extensions = groups_of 8 (octets_in extensions) (option_bits extensions)

-- the bits left over, as a number
abbrev pub left_over : List ℕ → ℕ
left_over extensions = option_bits extensions / 2 ^ (8 * octets_in extensions)

-- "at most four bits may be left over, and they are 0"
abbrev pub fills_octets : List ℕ → Bool
fills_octets extensions = both (leb (5 * length extensions % 8) 4) (eqb (left_over extensions) 0)

-- how many extension octets hold so many octets, each with five of their bits
abbrev pub extensions_for : ℕ → ℕ
extensions_for octets = (8 * octets + 4) / 5

-- the other way: the joined bits of the octets, five in each extension octet; the bits left over are 0
unfoldable pub packed : List ℕ → List ℕ
packed octets = map extension_of (groups_of 5 (extensions_for (length octets)) (joined_bits 8 octets))
