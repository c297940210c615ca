-- What a reader reports while it hears bits, one after the other.
use Rattle.std.specs.Prelude.{ℕ, zero, suc, ◌≡◌, Bool, true, false, List, [], ◌∷◌, ◌++◌, length, drop, replicate}
use Rattle.laws.specs.Logic.{both}
use Rattle.laws.specs.Tests.{same_list}
use Rattle.octets.specs.declared.Kind.{Kind}
use Rattle.octets.specs.declared.Kind.TheVariants.{Ci, Menu}
use Rattle.octets.specs.Lists.{readable}
use Rattle.sequences.specs.Line.{sequence}
use Rattle.listening.specs.declared.Message.{Message}
use Rattle.listening.specs.declared.Listener.{Listener}
use Rattle.listening.specs.Hearing as hearing
use Rattle.listening.specs.Hearing.{Told, silence, ci, menu, octets_of, span_of, heard_bit, heard_bits}
use Rattle.listening.specs.Spans.{Spanned, spans}
use Rattle.listening.specs.Record.{fresh}
use Rattle.stretches.specs.Stretch.{AcceptedMessage}

-- the record once bits are heard
unfoldable pub once_heard : Listener → List ℕ → Listener
once_heard rec [] = rec
once_heard rec (bit ∷ bits) = once_heard (heard_bit rec bit).rec bits

-- a report: a message, in kind and in every octet, whether it is an agreed menu, and its span; CJ; or a refusal's number
pub data Report : Type 0 where
  message : Kind → List ℕ → Bool → ℕ → Report
  cj : Report
  refusal : ℕ → Report

-- what a bit tells, with the octets that stand readable then, in front of the later reports
abbrev pub noted : Told → Message → List Report → List Report
noted silence m later = later
noted (ci span) m later = message Ci (octets_of m) false span ∷ later
noted (menu agreed span) m later = message Menu (octets_of m) agreed span ∷ later
noted hearing.cj m later = cj ∷ later
noted (hearing.refusal n) m later = refusal n ∷ later

-- a message with the span that one of so many octets has
abbrev pub message_of : Kind → List ℕ → Bool → Report
message_of kind octets agreed = message kind octets agreed (span_of (length octets))

-- all reports on the bits, in order
unfoldable pub reports : Listener → List ℕ → List Report
reports rec [] = []
reports rec (bit ∷ bits) = noted (heard_bit rec bit).report (heard_bit rec bit).rec.msg (reports (heard_bit rec bit).rec bits)

-- document 02, Req 05: the span of the last message among reports, or what was told before them
unfoldable pub last_of : Spanned → List Report → Spanned
last_of before [] = before
last_of before (message kind octets agreed n ∷ later) = last_of (spans n) later
last_of before (cj ∷ later) = last_of before later
last_of before (refusal number ∷ later) = last_of before later

-- the bits of a line in parts, as they arrive, and a host that calls for many bits again and again: what a call did not take of a part comes
-- with the next call, and what it reports is noted
pub data Handed : Listener → List (List ℕ) → List Report → Type 0 where
  all : {rec : Listener} → Handed rec [] []
  taken : {rec : Listener} {parts : List (List ℕ)} {told : List Report} → Handed rec parts told → Handed rec ([] ∷ parts) told
  call : {rec : Listener} {part : List ℕ} {parts : List (List ℕ)} {told : List Report} → Handed (heard_bits rec part).rec (drop (heard_bits rec part).taken part ∷ parts) told
      → Handed rec (part ∷ parts) (noted (heard_bits rec part).report (heard_bits rec part).rec.msg told)

-- the message that was reported last, if there is one
pub data Earlier : Type 0 where
  nothing : Earlier
  earlier : Kind → List ℕ → Earlier

-- "A menu is agreed when reading it gives no refusal and it equals, in kind and in every octet, the message reported just before it on that line"
abbrev pub agrees : Earlier → Kind → List ℕ → Bool
agrees before Ci octets = false
agrees nothing Menu octets = false
agrees (earlier Ci octets') Menu octets = false
agrees (earlier Menu octets') Menu octets = both (readable octets) (same_list octets octets')

-- reports, each menu agreed or not by the message before it: "refusals and CJ between them don't matter, a CI between them does"
unfoldable pub flagged : Earlier → List Report → List Report
flagged before [] = []
flagged before (message kind octets flag span ∷ later) = message kind octets (agrees before kind octets) span ∷ flagged (earlier kind octets) later
flagged before (cj ∷ later) = cj ∷ flagged before later
flagged before (refusal n ∷ later) = refusal n ∷ flagged before later

-- messages that are sent one behind the other, each of them accepted by the writer; their bits; and the reports on them, of which none is
-- flagged yet
pub data Sent : Type 0 where
  none_sent : Sent
  sent : (kind : Kind) (octets : List ℕ) → AcceptedMessage kind octets → Sent → Sent

abbrev pub line_of : Sent → List ℕ
line_of none_sent = []
line_of (sent kind octets accepted later) = sequence kind octets ++ line_of later

abbrev pub messages_of : Sent → List Report
messages_of none_sent = []
messages_of (sent kind octets accepted later) = message_of kind octets false ∷ messages_of later

-- a message so many times and nothing else: a menu is agreed from the second time on
abbrev pub agrees_again : Kind → Bool
agrees_again Ci = false
agrees_again Menu = true

abbrev pub repeated : Kind → List ℕ → ℕ → List Report
repeated kind octets zero = []
repeated kind octets (suc n) = message_of kind octets false ∷ replicate n (message_of kind octets (agrees_again kind))

-- a fresh reader "reports that message first", perhaps again, and nothing else: no other message, "no refusal or CJ"
pub record Reads (kind : Kind) (octets bits : List ℕ) : Type 0 where
  pub again : ℕ
  pub all : reports fresh bits ≡ repeated kind octets (suc again)
