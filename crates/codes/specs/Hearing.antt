-- What is heard, as the numbers that cross to C.
use Rattle.std.specs.Prelude.{ℕ, true, false, ℤ, pos, neg_ℤ}
use Rattle.listening.specs.declared.Listener.{Listener}
use Rattle.listening.specs.Hearing.{Told, silence, ci, menu, cj, refusal, told, messages_after, listener_of}
use Rattle.listening.specs.Spans.{Spanned, none, spans}
use Rattle.listening.specs.Spans as spanning
use Rattle.codes.specs.declared.Acted.{Acted}

-- nothing, CI, a menu, an agreed menu, CJ, or a refusal n as -n; the span of a message is a number of its own
abbrev pub told_code : Told → ℤ
told_code silence = pos 0
told_code (ci span) = pos 1
told_code (menu false span) = pos 2
told_code (menu true span) = pos 3
told_code cj = pos 4
told_code (refusal n) = neg_ℤ (pos n)

-- that span, 0 where no message is reported
abbrev pub told_span : Told → ℕ
told_span silence = 0
told_span (ci span) = span
told_span (menu agreed span) = span
told_span cj = 0
told_span (refusal n) = 0

-- 0 where no message was reported, since no span is as low, its span, or a refusal n as -n
abbrev pub span_code : Spanned → ℤ
span_code none = pos 0
span_code (spans n) = pos n
span_code (spanning.refusal n) = neg_ℤ (pos n)

-- the second part of a bit, with what it tells as a number
abbrev pub act_coded : Listener → ℕ → Acted
act_coded rec act = record {
  rec = listener_of rec.ear (messages_after rec.msg rec.last act rec.ear.past);
  code = told_code (told act rec.msg rec.last);
}
