-- Document 02, Req 05: the span of the message reported last, for a host that keeps the record alone.
use Rattle.std.specs.Prelude.{ℕ, eqb, Option, Some, None, Result, Ok, Err}
use Rattle.laws.specs.Logic.{when}
use Rattle.refusals.specs.declared.Refusal.{Refusal}
use Rattle.refusals.specs.Refusals.{number}
use Rattle.listening.specs.declared.Message.{Message}
use Rattle.listening.specs.declared.Listener.{Listener}
use Rattle.listening.specs.Record.{in_range}
use Rattle.listening.specs.Hearing.{span_of}

-- what is told: that no message was reported yet, its span, or a refusal's number
pub data Spanned : Type 0 where
  none : Spanned
  spans : ℕ → Spanned
  refusal : ℕ → Spanned

-- what an answer says on paper
abbrev pub says_span : Result (Option ℕ) Refusal → Spanned
says_span (Ok None) = none
says_span (Ok (Some n)) = spans n
says_span (Err r) = refusal (number r)

-- of a message, where it is one: 0 is the kind of none
unfoldable pub spanned : Message → Spanned
spanned m = when (eqb m.kind 0) none (spans (span_of m.len))

-- of the message reported last; "10 for a lent listening record .. comes before all of these"
unfoldable pub last_span : Listener → Spanned
last_span rec = when (in_range rec) (spanned rec.last) (refusal 10)
