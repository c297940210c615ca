-- Document 02, Req 02: what the blocks of a field are, said by their parts.
use Rattle.std.specs.Prelude.{ℕ, ◌+◌, ◌<◌, ◌≤◌, ◌≡◌, List, [], ◌∷◌, ◌++◌, map, length, replicate}
use Rattle.laws.specs.Joined.{joined}
use Rattle.fields.specs.declared.Span.{Span}
use Rattle.fields.specs.declared.Block.{Block}
use Rattle.fields.specs.Blocks.{blocks, refusal, walked, no_block, block_at, block_of, part_in}

-- what a block is made of: how many octets of 255 begin the country code, and "the first other one"; the provider code; "and the rest"
pub record Parts : Type 0 where
  pub fulls : ℕ
  pub last : ℕ
  pub other : last ≡ 255 → ⊥
  pub provider : List ℕ
  pub rest : List ℕ

-- "the country code, which goes on past each octet of 255 and ends with the first other one"
abbrev pub country_code : Parts → List ℕ
country_code p = replicate p.fulls 255 ++ p.last ∷ []

-- "then the country code ..; then the length of the provider code, that code, and the rest"
abbrev pub follows : Parts → List ℕ
follows p = country_code p ++ length p.provider ∷ (p.provider ++ p.rest)

-- "A block starts with a length that counts all that follows it"
abbrev pub block_octets : Parts → List ℕ
block_octets p = length (follows p) ∷ follows p

-- "blocks one behind the other"
abbrev pub octets_of : List Parts → List ℕ
octets_of parts = joined (map block_octets parts)

-- "The octets are blocks"
abbrev pub AreBlocks : List ℕ → Type 0
AreBlocks octets = (parts : List Parts) × (octets ≡ octets_of parts)

-- "parts of the lent octets": the octets of a part, as many as they are, stand at a place of those lent, and are what is read
pub record Stands (octets : List ℕ) (found : Span) (place : ℕ) (part : List ℕ) : Type 0 where
  pub begins : found.place ≡ place
  pub size : found.size ≡ length part
  pub read : part_in octets found ≡ part

-- "reads of each block are parts of the lent octets": whole, and part behind part
pub record Reads (octets : List ℕ) (found : Block) (place : ℕ) (p : Parts) : Type 0 where
  pub whole : Stands octets found.whole place (block_octets p)
  pub country : Stands octets found.country (place + 1) (country_code p)
  pub provider : Stands octets found.provider (place + 1 + length (country_code p) + 1) p.provider
  pub rest : Stands octets found.rest (place + 1 + length (country_code p) + 1 + length p.provider) p.rest

pub record BlocksAreTheirParts : Type 0 where
  -- octets that are blocks are counted as so many, all others are refused, and they are the octets of one list of blocks alone
  pub counted : (parts : List Parts) → walked (octets_of parts) ≡ blocks (length parts)
  pub only : (octets : List ℕ) (n : ℕ) → walked octets ≡ blocks n → AreBlocks octets
  pub others : (octets : List ℕ) → (AreBlocks octets → ⊥) → walked octets ≡ refusal 14
  pub once : (parts parts' : List Parts) → octets_of parts ≡ octets_of parts' → parts ≡ parts'
  -- "14 block longer than what remains or a code that doesn't fit in it", behind any blocks
  pub longer : (parts : List Parts) (n : ℕ) (octets : List ℕ) → length octets < n → walked (octets_of parts ++ n ∷ octets) ≡ refusal 14
  pub unfit : (parts : List Parts) (n : ℕ) (p : Parts) → n < length (country_code p) + 1 + length p.provider → walked (octets_of parts ++ n ∷ follows p) ≡ refusal 14
  -- each block is read at its number, behind those before it; none past the last, and none where the octets are refused
  pub read : (before : List Parts) (p : Parts) (later : List Parts)
      → Reads (octets_of (before ++ p ∷ later)) (block_of (octets_of (before ++ p ∷ later)) (length before)) (length (octets_of before)) p
  pub past : (parts : List Parts) (number : ℕ) → length parts ≤ number → block_of (octets_of parts) number ≡ no_block
  pub refused : (octets : List ℕ) (number : ℕ) → (AreBlocks octets → ⊥) → block_of octets number ≡ no_block
  -- a block is read where it begins, whatever stands before and behind it; none where none begins
  pub alone : (front : List ℕ) (p : Parts) (later : List ℕ)
      → Reads (front ++ block_octets p ++ later) (block_at (front ++ block_octets p ++ later) (length front)) (length front) p
  pub nowhere : (octets : List ℕ) (place : ℕ)
      → ((front : List ℕ) (p : Parts) (later : List ℕ) → octets ≡ front ++ block_octets p ++ later → length front ≡ place → ⊥) → block_at octets place ≡ no_block
