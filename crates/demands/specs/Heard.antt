-- Document 01, 'Listening', over whole lists of bits: what a reader that was fresh reports, and what its record holds, said of the bits heard.
use Rattle.std.specs.Prelude.{ℕ, ◌<◌, ◌≤◌, ◌≡◌, Bool, true, false, List, [], ◌∷◌, ◌++◌, ltb, length, take}
use Rattle.laws.specs.Logic.{when}
use Rattle.laws.specs.Joined.{joined}
use Rattle.octets.specs.declared.Kind.{Kind}
use Rattle.octets.specs.declared.Kind.TheVariants.{Menu}
use Rattle.refusals.specs.Lent.{count}
use Rattle.sequences.specs.Line.{framed, ten_ones, sync, v92_sync, sequence, copies}
use Rattle.sequences.specs.Line.{cj as cjBits}
use Rattle.sequences.specs.Writing.{written_cj}
use Rattle.framing.specs.Framing.{value, last_ten, octet_of, hunting, in_sync, last_of_sync}
use Rattle.listening.specs.declared.Listener.{Listener}
use Rattle.listening.specs.Record.{in_range, fresh}
use Rattle.listening.specs.Hearing.{Told, cj, heard_bit, heard_bits, silent}
use Rattle.stretches.specs.Stretch.{bits_all, Ends}
use Rattle.stretches.specs.Hearing.{once_heard, Report, message, noted, reports, nothing, flagged, Sent, line_of, messages_of, repeated, Handed}
use Rattle.stretches.specs.Heard.{Led, PassedOver, Unsynced}

-- the record of a line on which these bits were heard, and what one more tells
abbrev pub line : List ℕ → Listener
line bits = once_heard fresh bits

abbrev pub tells : List ℕ → ℕ → Told
tells bits bit = (heard_bit (line bits) bit).report

-- bits, and a last one
abbrev pub AreBits : List ℕ → ℕ → Type 0
AreBits bits bit = bits_all (bits ++ bit ∷ []) ≡ true

-- "CJ is reported whenever the last 30 heard bits are CJ, however they were framed.", and not otherwise
pub record CjIsToldWhereItStands : Type 0 where
  pub told : (bits : List ℕ) (bit : ℕ) → AreBits bits bit → Ends cjBits (bits ++ bit ∷ []) → tells bits bit ≡ cj
  pub only : (bits : List ℕ) (bit : ℕ) → AreBits bits bit → tells bits bit ≡ cj → Ends cjBits (bits ++ bit ∷ [])
  -- so behind any bits the last bit of what the writer of CJ wrote tells it
  pub written : (bits out : List ℕ) (size : ℕ) → bits_all bits ≡ true → (written_cj out).answer ≡ count size
      → (first : List ℕ) (last : ℕ) → first ++ last ∷ [] ≡ take size (written_cj out).buffer → tells (bits ++ first) last ≡ cj

-- "A menu is agreed when reading it gives no refusal and it equals, in kind and in every octet, the message reported just before it on that
-- line; refusals and CJ between them don't matter, a CI between them does."
pub record AgreedIsTheMessageBefore : Type 0 where
  -- whatever bytes are heard: exactly then
  pub flags : (bytes : List ℕ) → reports fresh bytes ≡ flagged nothing (reports fresh bytes)
  -- and messages that are sent one behind the other are reported, each in its turn
  pub told : (messages : Sent) → reports fresh (line_of messages ++ ten_ones) ≡ flagged nothing (messages_of messages)

-- what a record holds is what was heard
pub record HoldsWhatWasHeard (bits : List ℕ) : Type 0 where
  -- how many bits, up to 30
  pub count : (line bits).ear.heard ≡ when (ltb (length bits) 30) (length bits) 30
  -- the last ten, as a number that is compared: with "ten preceding heard bits" and with "the ten bits from there"
  pub ten : (word : List ℕ) → length word ≡ 10 → Ends word bits → last_ten (line bits).ear.past ≡ value word
  pub ends : (word : List ℕ) → bits_all word ≡ true → length word ≡ 10 → 10 ≤ length bits → last_ten (line bits).ear.past ≡ value word → Ends word bits
  pub ones : last_ten (line bits).ear.past ≡ value ten_ones → Ends ten_ones bits
  -- the octet: the eight bits before the last, "b0 first, weight 1"
  pub octet : (data' : List ℕ) (stop : ℕ) → length data' ≡ 8 → Ends (data' ++ stop ∷ []) bits → octet_of (line bits).ear.past ≡ value data'
  -- its place in the framing and its octets, by the bits that led there
  pub led : Led bits (line bits).msg (line bits).ear.place

-- a message is reported only where it stands: ten 1s, its sync, its octets, and ten 1s
pub record ReportsStandOnTheLine : Type 0 where
  pub stands : (bits : List ℕ) (bit : ℕ) → AreBits bits bit → (kind : Kind) (octets : List ℕ) (flag : Bool) (span : ℕ)
      → noted (tells bits bit) (heard_bit (line bits) bit).rec.msg [] ≡ message kind octets flag span ∷ [] → Ends (sequence kind octets ++ ten_ones) (bits ++ bit ∷ [])

-- "Any other sync is passed over and hunting resumes."
pub record OtherSyncsArePassedOver : Type 0 where
  pub others : (bits : List ℕ) → bits_all bits ≡ true → (line bits).ear.place ≡ hunting → Ends ten_ones bits
      → (later : List ℕ) → bits_all later ≡ true → length later ≡ last_of_sync → ((kind : Kind) → 0 ∷ later ≡ sync kind → ⊥) → PassedOver (line bits) (0 ∷ later)
  -- "V.92's own" is such a one
  pub v92 : (bits : List ℕ) → bits_all bits ≡ true → (line bits).ear.place ≡ hunting → Ends ten_ones bits → PassedOver (line bits) v92_sync
  -- never "Octet 55 taken for the V.92 sync": its frame is the same ten bits, and it is stored as any other octet
  pub octet55 : framed 0x55 ≡ v92_sync
  pub stored : (n : ℕ) → reports fresh (copies n (sequence Menu (0xC1 ∷ 0x55 ∷ [])) ++ ten_ones) ≡ repeated Menu (0xC1 ∷ 0x55 ∷ []) n

-- "Stored octets stay readable until the next accepted sync."
pub record StoredOctetsStayReadable : Type 0 where
  -- behind a report, CJ or a refusal of a bit no octet is being heard
  pub hunts : (rec : Listener) (bit : ℕ) → in_range rec ≡ true → bit < 2 → silent (heard_bit rec bit).report ≡ false → (heard_bit rec bit).rec.ear.place ≤ in_sync
  -- and from such a place on, whatever bytes come, without an accepted sync they change no octet
  pub stays : (rec : Listener) (bytes : List ℕ) → in_range rec ≡ true → rec.ear.place ≤ last_of_sync → Unsynced rec bytes → (once_heard rec bytes).msg ≡ rec.msg

-- many bits at once: however they are parted into calls, the calls come to an end and report what bit after bit does; and a call leaves the record that
-- the bits which it took leave, so what is asked of it is what is asked of that
pub record PartsMakeNoDifference : Type 0 where
  pub told : (rec : Listener) (parts : List (List ℕ)) (told : List Report) → in_range rec ≡ true → Handed rec parts told → told ≡ reports rec (joined parts)
  pub leaves : (rec : Listener) (part : List ℕ) → in_range rec ≡ true → (heard_bits rec part).rec ≡ once_heard rec (take (heard_bits rec part).taken part)
  pub ends : (rec : Listener) (parts : List (List ℕ)) → in_range rec ≡ true → Handed rec parts (reports rec (joined parts))
