-- Demand 1: "Every public call takes every input. A bit, message, record or event that breaks the rules gets a numbered refusal. The caller
-- never has to test first. A refusal writes nothing into a lent buffer, and what it leaves in the listening record and the session is laid
-- down." That a call takes every input is that no public function has a `requires`: a test reads that in the code (host/tests/documents.rs).
-- What the others say is here, for every input.
use Rattle.std.specs.Prelude.{ℕ, Option, ◌<◌, ◌+◌, ◌≡◌, Bool, true, false, List, [], ◌∷◌, ◌++◌, eqb, length, drop}
use Rattle.laws.specs.Logic.{when, either}
use Rattle.octets.specs.declared.Kind.{Kind}
use Rattle.sequences.specs.Line.{ten_ones}
use Rattle.refusals.specs.Lent.{count, WriteOutcome}
use Rattle.refusals.specs.Lent as lent
use Rattle.sequences.specs.Writing.{written, written_cj}
use Rattle.framing.specs.Framing.{value, pushed, more, last_ten, hunting, in_sync}
use Rattle.listening.specs.declared.Listener.{Listener}
use Rattle.listening.specs.Record.{in_range, fresh}
use Rattle.listening.specs.Hearing.{refusal, refused_bit, heard_bit, ManyOutcome, taking, heard_bits}
use Rattle.stretches.specs.Hearing.{once_heard, reports}
use Rattle.fields.specs.Field.{field_read}
use Rattle.records.specs.declared.Record.{Record}
use Rattle.offers.specs.Making.{made_cm, made_jm}
use Rattle.steps.specs.declared.Session.{Session}
use Rattle.steps.specs.Session as steps
use Rattle.steps.specs.Session.{Start, ready, answerer_from, started_caller}
use Rattle.steps.specs.Stepping as stepping
use Rattle.steps.specs.Stepping.{refused_step, stepped}
use Rattle.steps.specs.Drawing.{drawn}
use Rattle.codes.specs.Writing.{written_as}

-- one of the numbers
abbrev pub one_of : List ℕ → ℕ → Bool
one_of [] n = false
one_of (k ∷ ks) n = either (eqb n k) (one_of ks n)

-- a buffer that was lent
pub record KeepsItsBytes (out : List ℕ) (laid : WriteOutcome) : Type 0 where
  -- "A refusal writes nothing into a lent buffer"
  pub refused : (n : ℕ) → laid.answer ≡ lent.refusal n → laid.buffer ≡ out
  -- "Later bytes keep their values."
  pub later : (size : ℕ) → laid.answer ≡ count size → drop size laid.buffer ≡ drop size out
  -- and it stays as long as it was
  pub whole : length laid.buffer ≡ length out

-- every call that writes
pub record LentBuffersKeepTheirBytes : Type 0 where
  pub writing : (kind : Kind) (octets : List ℕ) (n : ℕ) (out : List ℕ) → KeepsItsBytes out (written kind octets n out)
  pub writing_as : (asked : Option Kind) (octets : List ℕ) (n : ℕ) (out : List ℕ) → KeepsItsBytes out (written_as asked octets n out)
  pub writing_cj : (out : List ℕ) → KeepsItsBytes out (written_cj out)
  pub making_cm : (own : Record) (function : ℕ) (blocks out : List ℕ) → KeepsItsBytes out (made_cm own function blocks out)
  pub making_jm : (own : Record) (heard_cm out : List ℕ) → KeepsItsBytes out (made_jm own heard_cm out)
  pub reading_field : (heard_cm out : List ℕ) → KeepsItsBytes out (field_read heard_cm out)
  pub drawing : (s : Session) (out : List ℕ) → KeepsItsBytes out (record { answer = (drawn s out).answer; buffer = (drawn s out).buffer })

-- a bit that was heard and refused: it is in the past, the framing goes on at this place, and "All these store nothing", so "Stored octets
-- stay readable": both messages are as they were, in kind and in every octet
pub record HeardThough (rec : Listener) (bit next : ℕ) (after : Listener) : Type 0 where
  pub past : after.ear.past ≡ pushed rec.ear.past bit
  pub heard : after.ear.heard ≡ more rec.ear.heard
  pub place : after.ear.place ≡ next
  pub msg : after.msg ≡ rec.msg
  pub last : after.last ≡ rec.last

-- "that is refusal 13 and hunting resumes; if ten 1s precede it all the same (..), it also starts a sync"
abbrev pub place_after : Listener → ℕ → ℕ
place_after rec n = when (eqb n 13) (when (eqb (last_ten rec.ear.past) (value ten_ones)) in_sync hunting) hunting

-- many bits, of which one is refused: those before it told nothing, those behind it were not taken, and what is told and left is what that bit
-- tells and leaves
pub record RefusedAtOneBit (rec : Listener) (bits : List ℕ) (n : ℕ) (all : ManyOutcome) : Type 0 where
  pub before : List ℕ
  pub bit : ℕ
  pub untaken : List ℕ
  pub split : bits ≡ before ++ bit ∷ untaken
  pub taken : all.taken ≡ length before + 1
  pub quietly : reports rec before ≡ []
  pub told : (heard_bit (once_heard rec before) bit).report ≡ refusal n
  pub left : all.rec ≡ (heard_bit (once_heard rec before) bit).rec

-- "what it leaves in the listening record .. is laid down"
pub record RefusedBitsLeaveWhatIsLaidDown : Type 0 where
  -- a refusal of one bit has one of these numbers
  pub numbers : (rec : Listener) (bit n : ℕ) → (heard_bit rec bit).report ≡ refusal n → one_of (1 ∷ 2 ∷ 3 ∷ 4 ∷ 10 ∷ 13 ∷ []) n ≡ true
  -- "The listening record keeps its value on 1 and 10"
  pub kept : (rec : Listener) (bit n : ℕ) → (heard_bit rec bit).report ≡ refusal n → one_of (1 ∷ 10 ∷ []) n ≡ true → (heard_bit rec bit).rec ≡ rec
  -- "on 2, 3, 4, 13 it is as Listening says"
  pub heard : (rec : Listener) (bit n : ℕ) → (heard_bit rec bit).report ≡ refusal n → one_of (2 ∷ 3 ∷ 4 ∷ 13 ∷ []) n ≡ true
      → HeardThough rec bit (place_after rec n) (heard_bit rec bit).rec
  -- "10 for a lent listening record or session comes before all of these", then 1
  pub outside : (rec : Listener) (bit : ℕ) → in_range rec ≡ false → heard_bit rec bit ≡ refused_bit 10 rec
  pub no_bit : (rec : Listener) (bit : ℕ) → in_range rec ≡ true → 1 < bit → heard_bit rec bit ≡ refused_bit 1 rec
  -- and many bits
  pub many_outside : (rec : Listener) (bits : List ℕ) → in_range rec ≡ false → heard_bits rec bits ≡ taking (refused_bit 10 rec) 0
  pub many : (rec : Listener) (bits : List ℕ) (n : ℕ) → in_range rec ≡ true → (heard_bits rec bits).report ≡ refusal n → RefusedAtOneBit rec bits n (heard_bits rec bits)

-- "what it leaves in .. the session is laid down": "Buffers and the session keep their values."
pub record RefusedEventsLeaveTheSession : Type 0 where
  pub kept : (s : Session) (event value now n : ℕ) → (stepped s event value now).answer ≡ stepping.refusal n → (stepped s event value now).session ≡ s
  -- a refusal has one of these numbers
  pub numbers : (s : Session) (event value now n : ℕ) → (stepped s event value now).answer ≡ stepping.refusal n → one_of (10 ∷ 7 ∷ 9 ∷ 8 ∷ []) n ≡ true
  -- asking for bits: 10 alone
  pub undrawn : (s : Session) (out : List ℕ) (n : ℕ) → (drawn s out).answer ≡ lent.refusal n → ((drawn s out).session ≡ s) × (n ≡ 10)

abbrev pub StartsInRange : Start → Type 0
StartsInRange (ready s) = steps.in_range s ≡ true
StartsInRange (steps.refusal n) = one_of (10 ∷ 16 ∷ []) n ≡ true

-- "docs/ states the ranges; a fresh record, a start and every call stay within them."
pub record EveryCallStaysInRange : Type 0 where
  pub fresh_record : in_range fresh ≡ true
  pub bit : (rec : Listener) (bit : ℕ) → in_range rec ≡ true → in_range (heard_bit rec bit).rec ≡ true
  pub bits : (rec : Listener) (bits : List ℕ) → in_range rec ≡ true → in_range (heard_bits rec bits).rec ≡ true
  pub caller : (now te function on off : ℕ) → StartsInRange (started_caller now te function on off)
  pub answerer : (now : ℕ) → steps.in_range (answerer_from now) ≡ true
  pub event : (s : Session) (event value now : ℕ) → steps.in_range s ≡ true → steps.in_range (stepped s event value now).session ≡ true
  pub drawing : (s : Session) (out : List ℕ) → steps.in_range s ≡ true → steps.in_range (drawn s out).session ≡ true
  -- "listening record or session with a field outside its range" is refused with 10, and keeps its value
  pub outside : (s : Session) (event value now : ℕ) → steps.in_range s ≡ false → stepped s event value now ≡ refused_step 10 s
  pub drawing_outside : (s : Session) (out : List ℕ) → steps.in_range s ≡ false → drawn s out ≡ record { answer = lent.refusal 10; buffer = out; session = s }

-- demand 1
pub record RefusalsLeaveWhatIsLaidDown : Type 0 where
  pub buffers : LentBuffersKeepTheirBytes
  pub bits : RefusedBitsLeaveWhatIsLaidDown
  pub events : RefusedEventsLeaveTheSession
  pub ranges : EveryCallStaysInRange
