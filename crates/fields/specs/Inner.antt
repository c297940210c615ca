-- What the private functions of this crate promise each other. No public promise names it.
use Rattle.std.specs.Prelude.{ℕ, ◌+◌, ◌*◌, ◌≡◌, List, leb, length, get_or}
use Rattle.laws.specs.Logic.{when}
use Rattle.laws.specs.Front.{front}
use Rattle.refusals.specs.Refusals.{before}
use Rattle.refusals.specs.Lent.{WriteOutcome, room_fault, put}
use Rattle.fields.specs.declared.Unpacked.{Unpacked}
use Rattle.fields.specs.declared.Held.{Held}
use Rattle.fields.specs.declared.Span.{Span}
use Rattle.fields.specs.declared.Block.{Block}
use Rattle.fields.specs.declared.Part.{Part}
use Rattle.fields.specs.declared.Part.TheVariants.{Whole, Country, Provider, Rest}
use Rattle.fields.specs.Packing.{unpacked, octets_in, left_over}
use Rattle.fields.specs.Blocks.{Walked, blocks, refusal, blocks_fault}
use Rattle.fields.specs.Field.{field_octets, packing_fault}

-- the octets stand at the front of what was lent; the answer is how many they are, and what is left over
pub record Unpacks (extensions out : List ℕ) (r : Unpacked) (after : List ℕ) : Type 0 where
  pub count : r.count ≡ octets_in extensions
  pub left : r.left ≡ left_over extensions
  pub buffer : after ≡ front (unpacked extensions) out

-- one more octet is held, where fewer than five bits are and there is one
abbrev pub held_with : List ℕ → Held → Held
held_with octets held =
    when (leb 32 held.weight) held
    (when (leb (length octets) held.taken) held
    (record {
      bits = held.bits + held.weight * get_or octets held.taken 0;
      weight = held.weight * 256;
      taken = held.taken + 1;
    }))

-- octets stand at the front of what was lent, and the answer is how many they are
pub record Writes (octets out : List ℕ) (r : ℕ) (after : List ℕ) : Type 0 where
  pub count : r ≡ length octets
  pub buffer : after ≡ front octets out

-- what the walk gives behind so many blocks
abbrev pub counted : ℕ → Walked → Walked
counted before (blocks n) = blocks (before + n)
counted before (refusal n) = refusal n

-- octets that are put where they are blocks
abbrev pub blocks_put : List ℕ → List ℕ → WriteOutcome
blocks_put octets out = put (before (blocks_fault octets) (room_fault octets out)) octets out

-- a group that is read
abbrev pub group_read : List ℕ → List ℕ → WriteOutcome
group_read group out =
    let octets = field_octets group in
    put (before (packing_fault group) (before (blocks_fault octets) (room_fault octets out))) octets out

-- a part of a block by its name
abbrev pub span_of : Block → Part → Span
span_of block Whole = block.whole
span_of block Country = block.country
span_of block Provider = block.provider
span_of block Rest = block.rest
