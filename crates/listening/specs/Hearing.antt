-- Document 01, 'Listening': what one bit does to the record and what it reports; and many bits.
use Rattle.std.specs.Prelude.{ℕ, ◌+◌, ◌*◌, ◌%◌, ◌≡◌, Bool, true, false, List, [], ◌∷◌, ltb, eqb, set, take, Result, Ok, Err}
use Rattle.laws.specs.Logic.{when, both}
use Rattle.laws.specs.Tests.{same_list}
use Rattle.refusals.specs.declared.Refusal.{Refusal}
use Rattle.refusals.specs.Refusals.{number}
use Rattle.octets.specs.Lists.{readable}
use Rattle.framing.specs.declared.Ear.{Ear}
use Rattle.framing.specs.declared.Turned.{Turned}
use Rattle.framing.specs.Framing.{octet_of, start_ci, start_menu, store, report, tell_cj, refusal_act, refusal_in, stay, turned_by}
use Rattle.listening.specs.declared.Message.{Message}
use Rattle.listening.specs.declared.Listener.{Listener}
use Rattle.listening.specs.declared.Messages.{Messages}
use Rattle.listening.specs.declared.Heard.{Heard}
use Rattle.listening.specs.declared.Heard.TheVariants.{Nothing, Ci, Menu, Cj}
use Rattle.listening.specs.declared.BitHeard.{BitHeard}
use Rattle.listening.specs.declared.BitsHeard.{BitsHeard}
use Rattle.listening.specs.Record.{parts_in_range, in_range}

-- what is reported: nothing, CI, a menu that is agreed or not, CJ, or a refusal's number; a message "also carries" its span
pub data Told : Type 0 where
  silence : Told
  ci : ℕ → Told
  menu : Bool → ℕ → Told
  cj : Told
  refusal : ℕ → Told

-- what an answer says on paper
abbrev pub says_heard : Result Heard Refusal → Told
says_heard (Ok Nothing) = silence
says_heard (Ok (Ci span)) = ci span
says_heard (Ok (Menu span agreed)) = menu agreed span
says_heard (Ok Cj) = cj
says_heard (Err r) = refusal (number r)

-- the octets of a message
abbrev pub octets_of : Message → List ℕ
octets_of m = take m.len m.octets

-- "the stored octets start empty"
abbrev pub started : Message → ℕ → Message
started m kind = record { kind = kind; len = 0; octets = m.octets }

-- "otherwise the octet is stored": a message of 64 octets was refused with 4 before that, so the count is its own rest
abbrev pub stored : Message → ℕ → Message
stored m b = record { kind = m.kind; len = m.len % 64 + 1; octets = set m.octets (m.len % 64) b }

-- what an act does to the message being heard
unfoldable pub changed : Message → ℕ → ℕ → Message
changed m act past =
    when (eqb act start_ci) (started m 1)
    (when (eqb act start_menu) (started m 2)
    (when (eqb act store) (stored m (octet_of past))
    m))

-- "A menu is agreed when reading it gives no refusal and it equals, in kind and in every octet, the message reported just before it"
unfoldable pub agreed : Message → Message → Bool
agreed m last = both (readable (octets_of m)) (both (eqb m.kind last.kind) (same_list (octets_of m) (octets_of last)))

-- document 02, Req 05: "the number of bits from its sync's first bit to the bit reporting it, both counted": ten of the sync, ten of each
-- octet, and ten 1s. That so many were heard is `spans_tell_where_messages_began`
abbrev pub span_of : ℕ → ℕ
span_of octets = 20 + 10 * octets

-- the message is reported
unfoldable pub reported : Message → Message → Told
reported m last = when (eqb m.kind 1) (ci (span_of m.len)) (menu (agreed m last) (span_of m.len))

-- what an act tells that reports no message: nothing where it only touches one, CJ, or a refusal
unfoldable pub told_alone : ℕ → Told
told_alone act = when (ltb act report) silence (when (eqb act tell_cj) cj (refusal (refusal_in act)))

-- what an act tells
unfoldable pub told : ℕ → Message → Message → Told
told act m last = when (eqb act report) (reported m last) (told_alone act)

-- what a bit leaves: what it reports, and the record
pub record HearOutcome : Type 0 where
  pub report : Told
  pub rec : Listener

-- what an act does to the messages
abbrev pub messages_after : Message → Message → ℕ → ℕ → Messages
messages_after m last act past = record { msg = changed m act past; last = when (eqb act report) m last }

abbrev pub listener_of : Ear → Messages → Listener
listener_of ear messages = record { ear = ear; msg = messages.msg; last = messages.last }

-- what is done once the ear is turned: the one way of an act
unfoldable pub acted : Listener → Turned → HearOutcome
acted rec t = record {
  report = told t.act rec.msg rec.last;
  rec = listener_of t.ear (messages_after rec.msg rec.last t.act t.ear.past);
}

-- refusal 10: "The listening record keeps its value on 1 and 10"
abbrev pub refused_bit : ℕ → Listener → HearOutcome
refused_bit n rec = record { report = refusal n; rec = rec }

-- a bit, where the record is in range: it turns the ear, and what it asks for is done
unfoldable pub heard_in : Listener → ℕ → HearOutcome
heard_in rec bit = acted rec (turned_by rec.ear rec.msg.len bit)

-- a bit
abbrev pub heard_bit : Listener → ℕ → HearOutcome
heard_bit rec bit = when (in_range rec) (heard_in rec bit) (refused_bit 10 rec)

-- an answer that is as laid down
pub record Hears (laid : HearOutcome) (a : BitHeard) : Type 0 where
  pub report : says_heard a.report ≡ laid.report
  pub rec : a.rec ≡ laid.rec

-- the first part of a bit, which needs the ear and four numbers of the record: outside their range nothing is turned, and 10 is what the
-- second part, `acted`, is asked to tell
unfoldable pub ear_turned : Ear → ℕ → ℕ → ℕ → ℕ → ℕ → Turned
ear_turned ear kind len lastKind lastLen bit = when (parts_in_range ear kind len lastKind lastLen) (turned_by ear len bit) (stay ear (refusal_act 10))

-- many bits leave also how many of them were taken
pub record ManyOutcome : Type 0 where
  pub report : Told
  pub rec : Listener
  pub taken : ℕ

abbrev pub taking : HearOutcome → ℕ → ManyOutcome
taking o n = record { report = o.report; rec = o.rec; taken = n }

abbrev pub silent : Told → Bool
silent silence = true
silent (ci span) = false
silent (menu agreed span) = false
silent cj = false
silent (refusal n) = false

-- bit after bit, up to the first that reports something
unfoldable pub listened : Listener → List ℕ → ℕ → ManyOutcome
listened rec [] n = record { report = silence; rec = rec; taken = n }
listened rec (bit ∷ bits) n =
    when (silent (heard_in rec bit).report) (listened (heard_in rec bit).rec bits (n + 1))
    (taking (heard_in rec bit) (n + 1))

abbrev pub heard_bits : Listener → List ℕ → ManyOutcome
heard_bits rec bits = when (in_range rec) (listened rec bits 0) (taking (refused_bit 10 rec) 0)

pub record HearsMany (laid : ManyOutcome) (r : BitsHeard) : Type 0 where
  pub report : says_heard r.report ≡ laid.report
  pub rec : r.rec ≡ laid.rec
  pub taken : r.taken ≡ laid.taken
