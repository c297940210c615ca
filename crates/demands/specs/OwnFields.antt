-- Document 02, Req 02: makers' own fields in a CM, from blocks to bits and back; what they change, and where they never stand.
use Rattle.std.specs.Prelude.{ℕ, ◌+◌, ◌*◌, ◌/◌, ◌<◌, ◌≤◌, ◌≡◌, List, [], ◌∷◌, ◌++◌, length, drop}
use Rattle.laws.specs.Front.{front}
use Rattle.octets.specs.declared.Kind.TheVariants.{Menu}
use Rattle.octets.specs.declared.Purpose.TheVariants.{Writing}
use Rattle.octets.specs.Lists.{list_fault}
use Rattle.refusals.specs.Lent.{count, WriteOutcome, put}
use Rattle.sequences.specs.Line.{ten_ones, sequence, copies}
use Rattle.listening.specs.Record.{fresh}
use Rattle.stretches.specs.Hearing.{reports, repeated}
use Rattle.menus.specs.Groups.{place, nowhere, looked, part_at, group_of}
use Rattle.fields.specs.Packing.{packed, unpacked}
use Rattle.fields.specs.Field.{field_read}
use Rattle.records.specs.declared.Record.{Record}
use Rattle.offers.specs.Offering.{cm_offer}
use Rattle.offers.specs.Making.{house_count, menu_of, made_cm}
use Rattle.demands.specs.RefusalOrder.{first_of, bad_fault, unavailable, badly_packed, bad_blocks, too_short}
use Rattle.demands.specs.Joint.{cm_of, jm_of}
use Rattle.demands.specs.Undefined.{ChangesNothing}
use Rattle.demands.specs.FromBits.{Makes}
use Rattle.demands.specs.FieldBits.{Octets}

-- a CM that was made with these octets of blocks: accepted by the writer, so that demand 3 holds of it as it stands; heard as it was made, however many
-- copies are sent; and read, where there is room, as those octets
pub record IsReadAsWritten (blocks cm : List ℕ) : Type 0 where
  pub accepted : list_fault (Writing Menu) cm ≡ 0
  pub heard : (n : ℕ) → reports fresh (copies n (sequence Menu cm) ++ ten_ones) ≡ repeated Menu cm n
  pub read : (out : List ℕ) → length blocks ≤ length out → field_read cm out ≡ record { answer = count (length blocks); buffer = front blocks out }

-- octets that were read of a heard menu: its first tag 15 group says them, and saying them gives that group again; in a CM as far as it fits
pub record IsWrittenAsRead (heard octets : List ℕ) : Type 0 where
  pub packing : packed octets ≡ drop 1 (group_of heard 15)
  pub own : (own : Record) (function : ℕ) → 0 < length octets → length (cm_of own function octets) ≤ 64 → group_of (cm_of own function octets) 15 ≡ group_of heard 15

-- what a group says, or why it is refused: 15, then 14, then 6
abbrev pub group_says : List ℕ → List ℕ → WriteOutcome
group_says group out =
    put (first_of (badly_packed group ∷ bad_blocks (unpacked (drop 1 group)) ∷ too_short (unpacked (drop 1 group)) out ∷ [])) (unpacked (drop 1 group)) out

pub record OwnFieldsAreKept : Type 0 where
  -- "What is written reads back"
  pub written : (own : Record) (function : ℕ) (blocks lent cm : List ℕ) → Octets blocks → Makes (made_cm own function blocks lent) cm → IsReadAsWritten blocks cm
  -- "and what reads well is written to the same extension octets"
  pub read : (heard out octets : List ℕ) → Octets heard → Makes (field_read heard out) octets → IsWrittenAsRead heard octets
  -- the first group of the tag, wherever it stands; "Where no tag 15 group stands, no blocks are read."
  pub found : (heard out : List ℕ) (p : ℕ) → looked heard 15 ≡ place p → field_read heard out ≡ group_says (part_at heard p) out
  pub nothing : (heard out : List ℕ) → looked heard 15 ≡ nowhere → field_read heard out ≡ record { answer = count 0; buffer = out }
  -- "The field stands last in CM": behind the CM without one, the category octet 0F and the extension octets
  pub last : (own : Record) (function : ℕ) (blocks : List ℕ) → 0 < length blocks → cm_of own function blocks ≡ cm_of own function [] ++ 0x0F ∷ packed blocks
  pub size : (own : Record) (function : ℕ) (blocks : List ℕ) → 0 < length blocks → length (cm_of own function blocks) ≡ length (cm_of own function []) + 1 + (8 * length blocks + 4) / 5
  -- "JM never carries it.", where it does not "pass 64 octets"
  pub jm : (own : Record) (heard : List ℕ) → length (jm_of own heard) ≤ 64 → looked (jm_of own heard) 15 ≡ nowhere
  -- "With no blocks CM has no field.": it is made as before the request, octet for octet, and refused as before
  pub none : (own : Record) (function : ℕ) (out : List ℕ) → let menu = menu_of house_count (cm_offer own function) in
      made_cm own function [] out ≡ put (first_of (bad_fault own ∷ unavailable own function ∷ too_short menu out ∷ [])) menu out
  -- a field changes nothing that the reader says, no JM and no choice
  pub changes : (own : Record) (function : ℕ) (blocks : List ℕ) → length (cm_of own function blocks) ≤ 64 → ChangesNothing (cm_of own function []) (cm_of own function blocks)
