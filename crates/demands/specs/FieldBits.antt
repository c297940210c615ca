-- Document 02, Req 02: the packing of a field, bit by bit.
use Rattle.std.specs.Prelude.{ℕ, ◌+◌, ◌*◌, ◌/◌, ◌%◌, ◌<◌, ◌≤◌, ◌≡◌, true, List, [], ◌∷◌, ltb, length, get_or}
use Rattle.laws.specs.Tests.{every}
use Rattle.octets.specs.Octets.{b0, b1, b2, b3, b4, b5, b6, b7, extension}
use Rattle.fields.specs.Packing.{unpacked, fills_octets, packed}

-- octets, all of them
abbrev pub Octets : List ℕ → Type 0
Octets octets = every (λ b. ltb b 256) octets ≡ true

-- "lowest first": a bit of an octet
abbrev pub octet_bit : ℕ → ℕ → ℕ
octet_bit b place = get_or (b0 b ∷ b1 b ∷ b2 b ∷ b3 b ∷ b4 b ∷ b5 b ∷ b6 b ∷ b7 b ∷ []) place 0

-- "the five option bits of each extension octet, b0, b1, b2, b6, b7 in that order"
abbrev pub option_bit : ℕ → ℕ → ℕ
option_bit b place = get_or (b0 b ∷ b1 b ∷ b2 b ∷ b6 b ∷ b7 b ∷ []) place 0

-- ".. are joined": the bit of a number, counted from 0
abbrev pub joined_bit : List ℕ → ℕ → ℕ
joined_bit extensions n = option_bit (get_or extensions (n / 5) 0) (n % 5)

-- what is read of extension octets
pub record UnpacksBitByBit (extensions : List ℕ) : Type 0 where
  -- "every eight make an octet, lowest first"
  pub count : length (unpacked extensions) ≡ 5 * length extensions / 8
  pub octets : Octets (unpacked extensions)
  pub bits : (k place : ℕ) → k < length (unpacked extensions) → place < 8 → octet_bit (get_or (unpacked extensions) k 0) place ≡ joined_bit extensions (8 * k + place)
  -- "at most four bits may be left over, and they are 0": exactly then
  pub few : fills_octets extensions ≡ true → 5 * length extensions ≤ 8 * length (unpacked extensions) + 4
  pub zero : fills_octets extensions ≡ true → (n : ℕ) → 8 * length (unpacked extensions) ≤ n → joined_bit extensions n ≡ 0
  pub fills : 5 * length extensions ≤ 8 * length (unpacked extensions) + 4
      → ((n : ℕ) → 8 * length (unpacked extensions) ≤ n → n < 5 * length extensions → joined_bit extensions n ≡ 0) → fills_octets extensions ≡ true

-- what is written of octets
pub record PacksBitByBit (octets : List ℕ) : Type 0 where
  -- as few extension octets as hold all bits
  pub enough : 8 * length octets ≤ 5 * length (packed octets)
  pub fewest : 5 * length (packed octets) ≤ 8 * length octets + 4
  pub extensions : every extension (packed octets) ≡ true
  pub small : Octets (packed octets)
  -- each bit at its place, and 0 behind the last
  pub bits : (n : ℕ) → n < 5 * length (packed octets) → joined_bit (packed octets) n ≡ octet_bit (get_or octets (n / 8) 0) (n % 8)

pub record FieldsArePackedBitByBit : Type 0 where
  pub read : (extensions : List ℕ) → UnpacksBitByBit extensions
  pub written : (octets : List ℕ) → Octets octets → PacksBitByBit octets
  -- "What is written reads back, and what reads well is written to the same extension octets."
  pub back : (octets : List ℕ) → Octets octets → (unpacked (packed octets) ≡ octets) × (fills_octets (packed octets) ≡ true)
  pub again : (extensions : List ℕ) → Octets extensions → every extension extensions ≡ true → fills_octets extensions ≡ true → packed (unpacked extensions) ≡ extensions
