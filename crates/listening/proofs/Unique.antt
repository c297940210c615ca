-- No two answers say the same, and two results that meet what is laid down are equal.
-- Assumes nothing.
use Prim.Native.Nat.{ℕ}
use mathlib.Core.Path.{◌≡◌, refl, sym, ap, ◌∙◌}
use Rattle.std.specs.Prelude.{Option, Some, None, Result, Ok, Err}
use Rattle.refusals.specs.declared.Refusal.{Refusal}
use Rattle.refusals.proofs.Numbers.{named, named_number}
use Rattle.listening.specs.declared.Heard.{Heard}
use Rattle.listening.specs.declared.Heard.TheVariants.{Nothing, Ci, Menu, Cj}
use Rattle.listening.specs.declared.Listener.{Listener}
use Rattle.listening.specs.declared.BitHeard.{BitHeard}
use Rattle.listening.specs.declared.BitsHeard.{BitsHeard}
use Rattle.listening.specs.Hearing.{Told, silence, ci, menu, cj, refusal, says_heard, HearOutcome, ManyOutcome, Hears, HearsMany}
use Rattle.listening.specs.Spans.{Spanned, none, spans, says_span}
use Rattle.listening.specs.Spans as spanning

-- the answer that says this
abbrev saying : Told → Result Heard Refusal
saying silence = Ok Nothing
saying (ci span) = Ok (Ci span)
saying (menu agreed span) = Ok (Menu span agreed)
saying cj = Ok Cj
saying (refusal n) = Err (named n)

said : (h : Result Heard Refusal) → saying (says_heard h) ≡ h
said (Ok Nothing) = refl
said (Ok (Ci span)) = refl
said (Ok (Menu span agreed)) = refl
said (Ok Cj) = refl
said (Err r) = ap Err (named_number r)

pub says_heard_injective : (h k : Result Heard Refusal) → says_heard h ≡ says_heard k → h ≡ k
says_heard_injective h k alike = sym (said h) ∙ ap saying alike ∙ said k

-- and so with a span that is asked for
abbrev span_saying : Spanned → Result (Option ℕ) Refusal
span_saying none = Ok None
span_saying (spans n) = Ok (Some n)
span_saying (spanning.refusal n) = Err (named n)

span_said : (s : Result (Option ℕ) Refusal) → span_saying (says_span s) ≡ s
span_said (Ok None) = refl
span_said (Ok (Some n)) = refl
span_said (Err r) = ap Err (named_number r)

pub says_span_injective : (s t : Result (Option ℕ) Refusal) → says_span s ≡ says_span t → s ≡ t
says_span_injective s t alike = sym (span_said s) ∙ ap span_saying alike ∙ span_said t

pub hears_unique : (laid : HearOutcome) (a b : BitHeard) → Hears laid a → Hears laid b → a ≡ b
hears_unique laid a b one other =
    let report = says_heard_injective a.report b.report (one.report ∙ sym other.report) in
    let rec = one.rec ∙ sym other.rec in
    ap (λ (r : Listener). record { rec = r; report = a.report }) rec ∙ ap (λ (h : Result Heard Refusal). record { rec = b.rec; report = h }) report

pub hears_many_unique : (laid : ManyOutcome) (a b : BitsHeard) → HearsMany laid a → HearsMany laid b → a ≡ b
hears_many_unique laid a b one other =
    let report = says_heard_injective a.report b.report (one.report ∙ sym other.report) in
    let rec = one.rec ∙ sym other.rec in
    let taken = one.taken ∙ sym other.taken in
    ap (λ (r : Listener). record { rec = r; taken = a.taken; report = a.report }) rec
    ∙ ap (λ (n : ℕ). record { rec = b.rec; taken = n; report = a.report }) taken
    ∙ ap (λ (h : Result Heard Refusal). record { rec = b.rec; taken = b.taken; report = h }) report
