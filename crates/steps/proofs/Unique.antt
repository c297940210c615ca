-- No two answers say the same, and two results that meet what is laid down are equal.
-- Assumes nothing.
use Rattle.std.proofs.Common.{Result, Ok, Err, ◌≡◌, ℕ, List, sym, refl, ap, ◌∙◌, ap₂}
use Rattle.refusals.specs.declared.Refusal.{Refusal}
use Rattle.refusals.proofs.Numbers.{named, named_number}
use Rattle.refusals.proofs.Outcomes.{says_wrote_injective}
use Rattle.steps.specs.declared.Session.{Session}
use Rattle.steps.specs.declared.Answer.{Answer}
use Rattle.steps.specs.declared.Answer.TheVariants.{Same, Entered, Ended, GoOn}
use Rattle.steps.specs.declared.Stepped.{Stepped}
use Rattle.steps.specs.declared.Drawn.{Drawn}
use Rattle.steps.specs.Session.{Start, ready, says_started}
use Rattle.steps.specs.Session as session
use Rattle.steps.specs.Stepping.{Answered, same, entered, ended, go_on, refusal, says_answer, StepOutcome, Steps}
use Rattle.steps.specs.Drawing.{DrawOutcome, Draws}

-- the answer that says this
abbrev saying : Answered → Result Answer Refusal
saying same = Ok Same
saying (entered state) = Ok (Entered state)
saying (ended how) = Ok (Ended how)
saying (go_on choice) = Ok (GoOn choice)
saying (refusal n) = Err (named n)

said : (a : Result Answer Refusal) → saying (says_answer a) ≡ a
said (Ok Same) = refl
said (Ok (Entered state)) = refl
said (Ok (Ended how)) = refl
said (Ok (GoOn choice)) = refl
said (Err r) = ap Err (named_number r)

pub says_answer_injective : (a b : Result Answer Refusal) → says_answer a ≡ says_answer b → a ≡ b
says_answer_injective a b e = sym (said a) ∙ ap saying e ∙ said b

pub steps_unique : (laid : StepOutcome) (a b : Stepped) → Steps laid a → Steps laid b → a ≡ b
steps_unique laid a b p q =
    let answer = says_answer_injective a.answer b.answer (p.answer ∙ sym q.answer) in
    let session = p.session ∙ sym q.session in
    ap (λ (s : Session). record { session = s; answer = a.answer }) session ∙ ap (λ (x : Result Answer Refusal). record { session = b.session; answer = x }) answer

-- the same of a start
abbrev starting : Start → Result Session Refusal
starting (ready s) = Ok s
starting (session.refusal n) = Err (named n)

started : (a : Result Session Refusal) → starting (says_started a) ≡ a
started (Ok s) = refl
started (Err r) = ap Err (named_number r)

pub says_started_injective : (a b : Result Session Refusal) → says_started a ≡ says_started b → a ≡ b
says_started_injective a b e = sym (started a) ∙ ap starting e ∙ started b

-- and of asking for bits
pub draws_unique : (laid : DrawOutcome) (a b : Drawn) (after before : List ℕ) → Draws laid a after → Draws laid b before → (a ≡ b) × (after ≡ before)
draws_unique laid a b after before p q =
    let answer = says_wrote_injective a.answer b.answer (p.answer ∙ sym q.answer) in
    let session = p.session ∙ sym q.session in
    (ap₂ (λ (s : Session) (w : Result ℕ Refusal). record { session = s; answer = w }) session answer, p.buffer ∙ sym q.buffer)
