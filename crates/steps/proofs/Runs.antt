-- Over many events and askings for bits: nothing changes a session that is over, leads one out of its ranges, or changes Te or the end; and
-- asking for bits changes the cadence alone.
-- Assumes nothing.
use Rattle.std.proofs.Common.{◌≡◌, ℕ, true, eqb, List, [], ◌∷◌, sym, refl, ap, ◌∙◌, arith, eq-eqb, ne_eqb}
use Rattle.laws.specs.Logic.{when}
use Rattle.laws.proofs.Logic.{either_way}
use Rattle.refusals.specs.Lent.{count, refusal}
use Rattle.cadence.specs.Giving.{cadence_fits, moved_on, GiveOutcome, given}
use Rattle.steps.specs.declared.Session.{Session}
use Rattle.steps.specs.Table.{calling, over}
use Rattle.steps.specs.Session.{in_range}
use Rattle.steps.specs.Stepping.{StepOutcome, with_cadence, refused_step, stepped_in, stepped}
use Rattle.steps.specs.Drawing.{DrawOutcome, drawing, undrawn, drawn}
use Rattle.steps.specs.Runs.{Act, happens, asks, next, run}
use Rattle.steps.proofs.Rows.{any_row, step_case}
use Rattle.steps.proofs.Ranges.{step_keeps_range, draw_keeps_range}

-- after over every event is refused with 7
pub over_is_refused : (s : Session) (event value now : ℕ) → in_range s ≡ true → s.state ≡ over → stepped s event value now ≡ refused_step 7 s
unfolding stepped_in when
over_is_refused s event value now h o = simp (h, eq-eqb _ _ o)

-- bits come in calling alone
pub drawn_elsewhere : (s : Session) (out : List ℕ) → in_range s ≡ true → (s.state ≡ calling → ⊥) → drawn s out ≡ undrawn (count 0) s out
unfolding drawn when
drawn_elsewhere s out h elsewhere = simp (h, ne_eqb s.state calling elsewhere)

pub stays_over : (s : Session) (acts : List Act) → in_range s ≡ true → s.state ≡ over → run s acts ≡ s
unfolding run
stays_over s [] h o = refl
stays_over s (happens t ∷ acts) h o = ap (λ (r : StepOutcome). run r.session acts) (over_is_refused s t.event t.value t.now h o) ∙ stays_over s acts h o
stays_over s (asks out ∷ acts) h o =
    ap (λ (r : DrawOutcome). run r.session acts) (drawn_elsewhere s out h (λ c. let z : over ≡ calling = sym o ∙ c in let w : ⊥ = omega (arith, z) in w)) ∙ stays_over s acts h o

-- nothing leads out of the ranges
pub next_keeps_range : (s : Session) (a : Act) → in_range s ≡ true → in_range (next s a).session ≡ true
next_keeps_range s (happens t) h = step_keeps_range s t.event t.value t.now h
next_keeps_range s (asks out) h = draw_keeps_range s out h

pub run_keeps_range : (s : Session) (acts : List Act) → in_range s ≡ true → in_range (run s acts) ≡ true
unfolding run
run_keeps_range s [] h = h
run_keeps_range s (a ∷ acts) h = run_keeps_range (next s a).session acts (next_keeps_range s a h)

-- asking for bits changes the cadence alone, and no tone of it
pub record OnlyDrawn (s after : Session) : Type 0 where
  pub session : after ≡ with_cadence s after.cadence
  pub tone : after.cadence.tone ≡ s.cadence.tone

pub only_drawn : (s : Session) (out : List ℕ) → OnlyDrawn s (drawn s out).session
unfolding drawn given moved_on
only_drawn s out =
    either_way (λ (o : DrawOutcome). OnlyDrawn s o.session) (in_range s) _ (undrawn (refusal 10) s out)
    (λ _. either_way (λ (o : DrawOutcome). OnlyDrawn s o.session) (eqb s.state calling) (drawing s (given s.cadence out)) (undrawn (count 0) s out)
    (λ _. record { session = refl; tone = either_way (λ (g : GiveOutcome). g.cadence.tone ≡ s.cadence.tone) (cadence_fits s.cadence) _ _ (λ _. refl) (λ _. refl) })
    (λ _. record { session = refl; tone = refl }))
    (λ _. record { session = refl; tone = refl })

-- no events change Te, or whose session it is
pub step_keeps_te : (s : Session) (event value now : ℕ) → ((stepped s event value now).session.te ≡ s.te) × ((stepped s event value now).session.end ≡ s.end)
step_keeps_te s event value now =
    step_case s event value now (λ (o : StepOutcome). (o.session.te ≡ s.te) × (o.session.end ≡ s.end)) (λ r. true) any_row (λ _ _ _. (refl, refl)) (refl, refl)
    (λ r _ _ _. (refl, refl)) (λ r _ _ _. (refl, refl))

pub next_keeps_te : (s : Session) (a : Act) → ((next s a).session.te ≡ s.te) × ((next s a).session.end ≡ s.end)
next_keeps_te s (happens t) = step_keeps_te s t.event t.value t.now
next_keeps_te s (asks out) = let only = (only_drawn s out).session in (ap (λ (x : Session). x.te) only, ap (λ (x : Session). x.end) only)

pub run_keeps_te : (s : Session) (acts : List Act) → ((run s acts).te ≡ s.te) × ((run s acts).end ≡ s.end)
unfolding run
run_keeps_te s [] = (refl, refl)
run_keeps_te s (a ∷ acts) =
    let here = next_keeps_te s a in
    let later = run_keeps_te (next s a).session acts in
    (later.0 ∙ here.0, later.1 ∙ here.1)
