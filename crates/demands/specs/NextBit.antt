-- Document 01, 'Listening', sentence by sentence: what the next bit brings, by the bits that a fresh record has heard.
use Rattle.std.specs.Prelude.{ℕ, ◌<◌, ◌+◌, ◌≡◌, true, false, List, [], ◌∷◌, ◌++◌, length}
use Rattle.octets.specs.declared.Kind.{Kind}
use Rattle.octets.specs.Octets.{bad}
use Rattle.sequences.specs.Line.{ten_ones, sync}
use Rattle.sequences.specs.Line.{cj as cjBits}
use Rattle.framing.specs.Framing.{value, hunting, in_sync, last_of_sync, boundary, in_octet, stop_position, ending_ones, last_of_ending}
use Rattle.listening.specs.declared.Message.{Message}
use Rattle.listening.specs.Hearing.{Told, silence, cj, refusal, started, stored, reported}
use Rattle.stretches.specs.Stretch.{Ends}
use Rattle.stretches.specs.Heard.{coded, Brings}
use Rattle.demands.specs.Heard.{line}

-- where the next bit is, what is being heard, and what the bit brings: what it tells, the place behind it, the message that is held there; the
-- message reported last stays
abbrev pub at : List ℕ → ℕ
at bits = (line bits).ear.place

abbrev pub held : List ℕ → Message
held bits = (line bits).msg

abbrev pub Next : List ℕ → ℕ → Told → ℕ → Message → Type 0
Next bits bit t next m = Brings (line bits) bit t next m (line bits).last

-- these stand before it: no CJ comes to its end
abbrev pub NoCj : List ℕ → ℕ → Type 0
NoCj bits bit = Ends cjBits (bits ++ bit ∷ []) → ⊥

-- an octet without its stop bit: eight data bits, of which b0 came first
pub record DataBits (bits data' : List ℕ) : Type 0 where
  pub eight : length data' ≡ 8
  pub last : Ends data' bits

pub record NextBitIsAsLaidDown (bits : List ℕ) : Type 0 where
  -- "CJ is reported whenever the last 30 heard bits are CJ"; at every place, and hunting is next
  pub tells_cj : (bit : ℕ) → bit < 2 → Ends cjBits (bits ++ bit ∷ []) → Next bits bit cj hunting (held bits)
  -- "A 0 whose ten preceding heard bits are all 1 starts a sync.", and nothing else does
  pub sync_starts : at bits ≡ hunting → Ends ten_ones bits → Next bits 0 silence in_sync (held bits)
  pub hunts : (bit : ℕ) → bit < 2 → at bits ≡ hunting → NoCj bits bit → (bit ≡ 0 → Ends ten_ones bits → ⊥) → Next bits bit silence hunting (held bits)
  pub inside_sync : (bit : ℕ) → bit < 2 → 0 < at bits → at bits < last_of_sync → Next bits bit silence (at bits + 1) (held bits)
  -- "If the ten bits from there are the CI or menu sync, octets follow and the stored octets start empty."
  pub synced : (bit : ℕ) → bit < 2 → (kind : Kind) → at bits ≡ last_of_sync → Ends (sync kind) (bits ++ bit ∷ []) → Next bits bit silence boundary (started (held bits) (coded kind))
  -- "Any other sync is passed over and hunting resumes."
  pub passed : (bit : ℕ) → bit < 2 → at bits ≡ last_of_sync → ((kind : Kind) → Ends (sync kind) (bits ++ bit ∷ []) → ⊥) → Next bits bit silence hunting (held bits)
  -- "At an octet boundary, 0 starts an octet and 1 ends the sequence."
  pub opens : at bits ≡ boundary → Next bits 0 silence in_octet (held bits)
  pub ends : at bits ≡ boundary → Next bits 1 silence ending_ones (held bits)
  pub inside_octet : (bit : ℕ) → bit < 2 → boundary < at bits → at bits < stop_position → Next bits bit silence (at bits + 1) (held bits)
  -- "At the stop position: a 0 is refusal 2."
  pub stop_zero : at bits ≡ stop_position → Next bits 0 (refusal 2) hunting (held bits)
  -- "With a 1 the order is CJ, then 3, then 4. All these store nothing and resume hunting; otherwise the octet is stored."
  pub bad_octet : at bits ≡ stop_position → NoCj bits 1 → (data' : List ℕ) → DataBits bits data' → bad (value data') ≡ true → Next bits 1 (refusal 3) hunting (held bits)
  pub too_many : at bits ≡ stop_position → NoCj bits 1 → (data' : List ℕ) → DataBits bits data' → bad (value data') ≡ false → (held bits).len ≡ 64 → Next bits 1 (refusal 4) hunting (held bits)
  pub stores : at bits ≡ stop_position → NoCj bits 1 → (data' : List ℕ) → DataBits bits data' → bad (value data') ≡ false → ((held bits).len ≡ 64 → ⊥) → Next bits 1 silence boundary (stored (held bits) (value data'))
  -- "When ten 1s stand there in a row, counted from the boundary, the message is reported at the tenth, .. and hunting resumes."
  pub another1 : stop_position < at bits → at bits < last_of_ending → Next bits 1 silence (at bits + 1) (held bits)
  pub tenth : at bits ≡ last_of_ending → Brings (line bits) 1 (reported (held bits) (line bits).last) hunting (held bits) (held bits)
  -- "If a 0 comes sooner, that is refusal 13 and hunting resumes; if ten 1s precede it all the same (..), it also starts a sync."
  pub cut_short : stop_position < at bits → (Ends ten_ones bits → ⊥) → Next bits 0 (refusal 13) hunting (held bits)
  pub cut_by_sync : stop_position < at bits → Ends ten_ones bits → Next bits 0 (refusal 13) in_sync (held bits)
