-- Document 02, Req 02: the blocks of a field. They know nothing of menus.
use Rattle.std.specs.Prelude.{ℕ, zero, suc, ◌+◌, ◌-◌, Bool, List, [], ◌∷◌, ltb, leb, eqb, length, take, drop, get_or, Result, Ok, Err}
use Rattle.laws.specs.Logic.{when, both}
use Rattle.laws.specs.Joined.{joined}
use Rattle.laws.specs.Tests.{every}
use Rattle.refusals.specs.declared.Refusal.{Refusal}
use Rattle.refusals.specs.Refusals.{number}
use Rattle.fields.specs.declared.Span.{Span}
use Rattle.fields.specs.declared.Block.{Block}

-- "The octets are blocks one behind the other. A block starts with a length that counts all that follows it": each with its length octet, behind
-- so many octets of a block that is under way; the last has what there is
unfoldable pub blocks_behind : ℕ → List ℕ → List (List ℕ)
blocks_behind zero [] = []
blocks_behind (suc k) [] = []
blocks_behind zero (n ∷ octets) = (n ∷ take n octets) ∷ blocks_behind n octets
blocks_behind (suc k) (b ∷ octets) = blocks_behind k octets

abbrev pub blocks_of : List ℕ → List (List ℕ)
blocks_of octets = blocks_behind 0 octets

-- what a block's length says: how many octets follow it
abbrev pub length_of : List ℕ → ℕ
length_of block = get_or block 0 0

-- the octets of 255 in front
unfoldable pub full : List ℕ → ℕ
full [] = 0
full (b ∷ octets) = when (eqb b 255) (suc (full octets)) 0

-- "then the country code, which goes on past each octet of 255 and ends with the first other one": how many octets it has
abbrev pub country_size : List ℕ → ℕ
country_size block = full (take (length_of block) (drop 1 block)) + 1

-- "then the length of the provider code", which stands behind the length and the country code
abbrev pub provider_size : List ℕ → ℕ
provider_size block = get_or block (1 + country_size block) 0

-- both codes, and the length of the second
abbrev pub codes_size : List ℕ → ℕ
codes_size block = country_size block + 1 + provider_size block

-- not refused with 14, "block longer than what remains or a code that doesn't fit in it": all that follows the length is there, the length of
-- the provider code stands in the block, and so does that code
abbrev pub fits : List ℕ → Bool
fits block = both (ltb (length_of block) (length block)) (both (ltb (country_size block) (length_of block)) (leb (codes_size block) (length_of block)))

-- 14, or 0 where every block fits
abbrev pub blocks_fault : List ℕ → ℕ
blocks_fault octets = when (every fits (blocks_of octets)) 0 14

-- what the walk gives: how many blocks there are, or a refusal's number
pub data Walked : Type 0 where
  blocks : ℕ → Walked
  refusal : ℕ → Walked

-- what an answer says on paper
abbrev pub says_walk : Result ℕ Refusal → Walked
says_walk (Ok n) = blocks n
says_walk (Err r) = refusal (number r)

unfoldable pub walked : List ℕ → Walked
walked octets = when (every fits (blocks_of octets)) (blocks (length (blocks_of octets))) (refusal 14)

-- a part of the octets: its place and its size
abbrev pub span : ℕ → ℕ → Span
span place size = record { place = place; size = size }

-- no block
abbrev pub no_block : Block
no_block = record { whole = span 0 0; country = span 0 0; provider = span 0 0; rest = span 0 0 }

-- the first block of what stands behind a place: whole, "the country code", the provider code behind its length, "and the rest"
unfoldable pub block_in : ℕ → List ℕ → Block
block_in place block =
    when (fits block) (record {
      whole = span place (1 + length_of block);
      country = span (place + 1) (country_size block);
      provider = span (place + 1 + country_size block + 1) (provider_size block);
      rest = span (place + 1 + codes_size block) (length_of block - codes_size block);
    })
    no_block

-- the block that begins at a place; none where no block stands there that fits
abbrev pub block_at : List ℕ → ℕ → Block
block_at octets place = block_in place (drop place octets)

-- where the block of a number begins, the first having number 0: behind those before it
abbrev pub place_of : List ℕ → ℕ → ℕ
place_of octets number = length (joined (take number (blocks_of octets)))

-- the block of a number; none past the last, and none where the blocks are refused with 14
unfoldable pub block_of : List ℕ → ℕ → Block
block_of octets number =
    when (both (every fits (blocks_of octets)) (ltb number (length (blocks_of octets)))) (block_at octets (place_of octets number)) no_block

-- "reads of each block are parts of the lent octets"
abbrev pub part_in : List ℕ → Span → List ℕ
part_in octets part = take part.size (drop part.place octets)
