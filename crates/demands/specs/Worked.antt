-- Document 01, 'Worked values': the lines marked P, as one table.
use Rattle.std.specs.Prelude.{ℕ, ◌+◌, ◌^◌, ◌≡◌, false, List, [], ◌∷◌, ◌++◌, length, replicate}
use Rattle.laws.specs.Front.{front}
use Rattle.laws.specs.Joined.{joined}
use Rattle.octets.specs.declared.Kind.{Kind}
use Rattle.octets.specs.declared.Kind.TheVariants.{Ci, Menu}
use Rattle.sequences.specs.Line.{sequence}
use Rattle.refusals.specs.Lent.{Said, count, refusal, WriteOutcome}
use Rattle.sequences.specs.Writing.{written}
use Rattle.menus.specs.declared.Offer.{Offer}
use Rattle.menus.specs.Offer.{Read, offers, menu_read}
use Rattle.menus.specs.Offer as reading
use Rattle.records.specs.declared.Record.{Record}
use Rattle.records.specs.Record.{no_modes}
use Rattle.offers.specs.Making.{made_cm, made_jm}
use Rattle.choices.specs.Choosing.{Chosen, none, item, pcm, choice_of}
use Rattle.cadence.specs.declared.Cadence.{Cadence}
use Rattle.steps.specs.declared.Session.{Session}
use Rattle.steps.specs.Table.{quiet, menu, going, tick}
use Rattle.steps.specs.Session.{caller}
use Rattle.steps.specs.Stepping.{elapsed, stepped}

-- a line of the table: what is asked, and what document 01 says comes of it
pub data Case : Type 0 where
  -- a message's kind and octets, and its bits on the line
  stands : Kind → List ℕ → List ℕ → Case
  -- a message's kind and octets, the bytes lent, what the writer of one copy answers, and the bits that it leaves at the front
  writes : Kind → List ℕ → ℕ → Said → List ℕ → Case
  -- a menu, and what reading it gives
  reads : List ℕ → Read → Case
  -- a record, a function, and the CM that is made
  asks : Record → ℕ → List ℕ → Case
  -- a record, a heard CM, and the JM that is made
  answers : Record → List ℕ → List ℕ → Case
  -- CM, JM, and the choice from them
  chooses : List ℕ → List ℕ → Chosen → Case
  -- the entry time, a later time, and what is elapsed between them
  lasts : ℕ → ℕ → ℕ → Case
  -- a session, the time of a tick, and the state behind it
  ticks : Session → ℕ → ℕ → Case

-- the menu stands in a buffer that has room for just that
abbrev made : List ℕ → WriteOutcome
made menu = record { answer = count (length menu); buffer = menu }

-- bytes that are no bits, so that a bit shows wherever one is written
abbrev pub lent : ℕ → List ℕ
lent room = replicate room 7

-- the definitions give what the line says: in writing the whole buffer, with its later bytes; of a choice its case too, so that item 0 is not none
abbrev pub Holds : Case → Type 0
Holds (stands kind octets line) = sequence kind octets ≡ line
Holds (writes kind octets room said bits) = written kind octets 1 (lent room) ≡ record { answer = said; buffer = front bits (lent room) }
Holds (reads octets read) = menu_read octets ≡ read
Holds (asks own function menu) = made_cm own function [] (replicate (length menu) 0) ≡ made menu
Holds (answers own heard menu) = made_jm own heard (replicate (length menu) 0) ≡ made menu
Holds (chooses cm jm chosen) = choice_of cm jm ≡ chosen
Holds (lasts entry now passed) = elapsed now entry ≡ passed
Holds (ticks session now state) = (stepped session tick 0 now).session.state ≡ state

-- every line of a table
infixr 5 ◌and◌
pub data AllHold : List Case → Type 0 where
  done : AllHold []
  ◌and◌ : {line : Case} {rest : List Case} → Holds line → AllHold rest → AllHold (line ∷ rest)

-- a set of items
abbrev set : List ℕ → ℕ
set [] = 0
set (i ∷ rest) = 2 ^ i + set rest

-- a record with modes for data alone
abbrev pub for_data : List ℕ → ℕ → ℕ → ℕ → Record
for_data items options lapm digital = record {
  functions = no_modes ∷ no_modes ∷ no_modes ∷ no_modes ∷ no_modes ∷ record { available = 1; pcm = options; items = set items } ∷ [];
  home = 6;
  lapm = lapm;
  access = 0;
  cellular = 0;
  digital = digital;
}

-- "CM of A is C1 45 13 90 2A"
abbrev pub cm_of_a : List ℕ
cm_of_a = 0xC1 ∷ 0x45 ∷ 0x13 ∷ 0x90 ∷ 0x2A ∷ []

-- "C1 05 13 10", "C1 05 10 10"
abbrev jm_with_3 : List ℕ
jm_with_3 = 0xC1 ∷ 0x05 ∷ 0x13 ∷ 0x10 ∷ []

abbrev jm_with_none : List ℕ
jm_with_none = 0xC1 ∷ 0x05 ∷ 0x10 ∷ 0x10 ∷ []

-- "C1 65 10 10 27 0D", "C1 65 10 10 47 8D"
abbrev cm_with_pcm : List ℕ
cm_with_pcm = 0xC1 ∷ 0x65 ∷ 0x10 ∷ 0x10 ∷ 0x27 ∷ 0x0D ∷ []

abbrev jm_with_pcm : List ℕ
jm_with_pcm = 0xC1 ∷ 0x65 ∷ 0x10 ∷ 0x10 ∷ 0x47 ∷ 0x8D ∷ []

-- quiet with this Te, from this time on, behind this cadence
abbrev pub quiet_from : ℕ → ℕ → Cadence → Session
quiet_from te entry c = record { entry = entry; te = te; cadence = c; end = caller; state = quiet; chosen = 0; ended = going }

-- three CI sequences for data, and ANSam
abbrev sent_three : Cadence
sent_three = record { off = 120; place = 90; on = 3; function = 6; sent = 90; tone = 1 }

-- A's CM on the line: "ten 1s, ten sync bits, then octets. Each octet is 0, then b0 to b7 (b0 first, weight 1), then 1."
abbrev preamble : List ℕ
preamble = 1 ∷ 1 ∷ 1 ∷ 1 ∷ 1 ∷ 1 ∷ 1 ∷ 1 ∷ 1 ∷ 1 ∷ 0 ∷ 0 ∷ 0 ∷ 0 ∷ 0 ∷ 0 ∷ 1 ∷ 1 ∷ 1 ∷ 1 ∷ []

abbrev octet_c1 : List ℕ
octet_c1 = 0 ∷ 1 ∷ 0 ∷ 0 ∷ 0 ∷ 0 ∷ 0 ∷ 1 ∷ 1 ∷ 1 ∷ []

abbrev octet10 : List ℕ
octet10 = 0 ∷ 0 ∷ 0 ∷ 0 ∷ 0 ∷ 1 ∷ 0 ∷ 0 ∷ 0 ∷ 1 ∷ []

abbrev line_of_a : List ℕ
line_of_a =
    preamble
    ++ octet_c1
    ++ (0 ∷ 1 ∷ 0 ∷ 1 ∷ 0 ∷ 0 ∷ 0 ∷ 1 ∷ 0 ∷ 1 ∷ [])
    ++ (0 ∷ 1 ∷ 1 ∷ 0 ∷ 0 ∷ 1 ∷ 0 ∷ 0 ∷ 0 ∷ 1 ∷ [])
    ++ (0 ∷ 0 ∷ 0 ∷ 0 ∷ 0 ∷ 1 ∷ 0 ∷ 0 ∷ 1 ∷ 1 ∷ [])
    ++ (0 ∷ 0 ∷ 1 ∷ 0 ∷ 1 ∷ 0 ∷ 1 ∷ 0 ∷ 0 ∷ 1 ∷ [])

-- a menu of this many octets, the call function data and then extension octets without options, and its bits
abbrev long_menu : ℕ → List ℕ
long_menu more = 0xC1 ∷ replicate more 0x10

abbrev long_line : ℕ → List ℕ
long_line more = preamble ++ octet_c1 ++ joined (replicate more octet10)

-- data, and nothing else
abbrev data_alone : Offer
data_alone = record { function = 6; items = 0; pcm = 0; lapm = false; access = false; access_options = 0 }

abbrev pub worked : List Case
worked =
    -- "Record A, data: items 1, 3, 4, 12, LAPM.", "CM of A is C1 45 13 90 2A, 70 bits."
    asks (for_data (1 ∷ 3 ∷ 4 ∷ 12 ∷ []) 0 1 0) 6 cm_of_a
    ∷ writes Menu cm_of_a 100 (count 70) line_of_a
    -- "answerer with items 3, 4, 8, no LAPM: JM C1 05 13 10, choice item 3."
    ∷ answers (for_data (3 ∷ 4 ∷ 8 ∷ []) 0 0 0) cm_of_a jm_with_3
    ∷ chooses cm_of_a jm_with_3 (item 3)
    -- "answerer with item 5 only: C1 05 10 10, choice none."
    ∷ answers (for_data (5 ∷ []) 0 0 0) cm_of_a jm_with_none
    ∷ chooses cm_of_a jm_with_none none
    -- "caller with item 1, analogue PCM: C1 65 10 10 27 0D. Answerer with items 1, 3, digital PCM, digital line: C1 65 10 10 47 8D, choice PCM, b6."
    ∷ asks (for_data (1 ∷ []) 1 0 0) 6 cm_with_pcm
    ∷ answers (for_data (1 ∷ 3 ∷ []) 2 0 1) cm_with_pcm jm_with_pcm
    ∷ chooses cm_with_pcm jm_with_pcm (pcm 2)
    -- "CI for data: 1111111111 0000000001 0100000111."
    ∷ stands Ci (0xC1 ∷ []) (1 ∷ 1 ∷ 1 ∷ 1 ∷ 1 ∷ 1 ∷ 1 ∷ 1 ∷ 1 ∷ 1 ∷ 0 ∷ 0 ∷ 0 ∷ 0 ∷ 0 ∷ 0 ∷ 0 ∷ 0 ∷ 0 ∷ 1 ∷ 0 ∷ 1 ∷ 0 ∷ 0 ∷ 0 ∷ 0 ∷ 0 ∷ 1 ∷ 1 ∷ 1 ∷ [])
    -- "64 octets accepted, 65 refused with 4."
    ∷ writes Menu (long_menu 63) 700 (count 660) (long_line 63)
    ∷ writes Menu (long_menu 64) 700 (refusal 4) []
    ∷ reads (long_menu 63) (offers data_alone)
    ∷ reads (long_menu 64) (reading.refusal 4)
    -- "buffer of 69 bytes for one copy of A's CM: 6; 70 is enough."
    ∷ writes Menu cm_of_a 69 (refusal 6) []
    ∷ writes Menu cm_of_a 70 (count 70) line_of_a
    -- "elapsed from 4,294,967,000 to 79 is 375; to 204 it is 500, and Quiet with Te 500 ends." Document 02, Req 01: it "is one where the value is given."
    ∷ lasts 4294967000 79 375
    ∷ ticks (quiet_from 500 4294967000 sent_three) 79 quiet
    ∷ lasts 4294967000 204 500
    ∷ ticks (quiet_from 500 4294967000 sent_three) 204 menu
    ∷ []
