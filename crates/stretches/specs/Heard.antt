-- Document 01, 'Listening', said of the bits that a record heard since it was fresh: what led to its place in the framing, and to its octets.
use Rattle.std.specs.Prelude.{ℕ, ◌+◌, ◌<◌, ◌≡◌, List, [], ◌∷◌, ◌++◌, ltb, eqb, length, replicate}
use Rattle.laws.specs.Logic.{when}
use Rattle.octets.specs.declared.Kind.{Kind}
use Rattle.octets.specs.declared.Kind.TheVariants.{Ci, Menu}
use Rattle.sequences.specs.Line.{ten_ones, sequence}
use Rattle.framing.specs.Framing.{hunting, in_sync, last_of_sync, boundary, in_octet, ending_ones}
use Rattle.listening.specs.declared.Message.{Message}
use Rattle.listening.specs.declared.Listener.{Listener}
use Rattle.listening.specs.Hearing.{Told, octets_of, heard_bit}
use Rattle.stretches.specs.Stretch.{Ends}
use Rattle.stretches.specs.Hearing.{once_heard, reports}

-- the number of a kind in a record
abbrev pub coded : Kind → ℕ
coded Ci = 1
coded Menu = 2

-- a message of this kind
abbrev pub IsOf : Kind → Message → Type 0
IsOf kind m = m.kind ≡ coded kind

-- the bits that lead to a place, with the message being heard there
pub data Led (bits : List ℕ) (m : Message) (place : ℕ) : Type 0 where
  -- hunting: whatever was heard
  hunts : place ≡ hunting → Led bits m place
  -- "A 0 whose ten preceding heard bits are all 1 starts a sync."
  syncs : (later : List ℕ) → length later < last_of_sync → Ends (ten_ones ++ 0 ∷ later) bits → place ≡ in_sync + length later → Led bits m place
  -- "If the ten bits from there are the CI or menu sync, octets follow"
  bounds : (kind : Kind) → IsOf kind m → Ends (sequence kind (octets_of m)) bits → place ≡ boundary → Led bits m place
  -- "At an octet boundary, 0 starts an octet": 0, and some of "b0 to b7"
  fills : (kind : Kind) (data' : List ℕ) → IsOf kind m → length data' < 9 → Ends (sequence kind (octets_of m) ++ 0 ∷ data') bits → place ≡ in_octet + length data' → Led bits m place
  -- ".. and 1 ends the sequence": 1s "in a row, counted from the boundary"
  ends : (kind : Kind) (n : ℕ) → IsOf kind m → n < 9 → Ends (sequence kind (octets_of m) ++ 1 ∷ replicate n 1) bits → place ≡ ending_ones + n → Led bits m place

-- the bits among bytes: one that is no bit is refused with 1, and not heard
unfoldable pub bits_in : List ℕ → List ℕ
bits_in [] = []
bits_in (byte ∷ bytes) = when (ltb 1 byte) (bits_in bytes) (byte ∷ bits_in bytes)

-- document 02, Req 05: "the number of bits from its sync's first bit", counted while they are heard: 1 with the bit that starts a sync, and one more
-- with every other; a byte that is no bit is not counted
unfoldable pub counted : Listener → List ℕ → ℕ → ℕ
counted rec [] n = n
counted rec (byte ∷ bytes) n = counted (heard_bit rec byte).rec bytes (when (ltb 1 byte) n (when (eqb (heard_bit rec byte).rec.ear.place in_sync) 1 (n + 1)))

-- what a bit brings: what it tells, the place behind it, the message that is held there, and the one that was reported last
pub record Brings (rec : Listener) (bit : ℕ) (t : Told) (next : ℕ) (m before : Message) : Type 0 where
  pub told : (heard_bit rec bit).report ≡ t
  pub place : (heard_bit rec bit).rec.ear.place ≡ next
  pub msg : (heard_bit rec bit).rec.msg ≡ m
  pub last : (heard_bit rec bit).rec.last ≡ before

-- bits that are "passed over": nothing is told, "hunting resumes", and both messages stay
pub record PassedOver (rec : Listener) (bits : List ℕ) : Type 0 where
  pub silent : reports rec bits ≡ []
  pub hunting' : (once_heard rec bits).ear.place ≡ hunting
  pub msg : (once_heard rec bits).msg ≡ rec.msg
  pub last : (once_heard rec bits).last ≡ rec.last

-- no sync is accepted in these bytes: none of them brings an octet boundary
unfoldable pub Unsynced : Listener → List ℕ → Type 0
Unsynced rec [] = Unit
Unsynced rec (bit ∷ bits) = ((heard_bit rec bit).rec.ear.place ≡ boundary → ⊥) × Unsynced (heard_bit rec bit).rec bits
