-- A start is in range, and every step and every asking for bits keeps a session there: whatever row is taken, from numbers in range come numbers in range.
-- Assumes nothing.
use Rattle.std.proofs.Common.{◌≡◌, ℕ, ◌<◌, Bool, true, false, not, T, eqb, leb, List, length, sym, refl, ap, ◌∙◌, arith, eqb→eq, eqb-true}
use Rattle.laws.specs.Logic.{when, both, either}
use Rattle.laws.specs.Tests.{all_below, every}
use Rattle.laws.proofs.Logic.{either_way, both_true, clash}
use Rattle.laws.proofs.Computed.{both_left, both_right, below}
use Rattle.refusals.specs.Lent.{count, refusal}
use Rattle.cadence.specs.declared.Cadence.{Cadence}
use Rattle.cadence.specs.Cadence.{is_function, is_cadence}
use Rattle.cadence.specs.Giving.{cadence_fits, is_none, begun, remembering, due, GiveOutcome, given}
use Rattle.cadence.proofs.Moves.{begun_fits, remembering_fits, moved_fits}
use Rattle.cadence.proofs.Outcomes.{given_in}
use Rattle.steps.specs.declared.Session.{Session}
use Rattle.steps.specs.declared.Row.{Row}
use Rattle.steps.specs.Table.{caller_still, calling, left, goes_on, agreed_jm, agreed_cm, rows}
use Rattle.steps.specs.Session.{is_choice, is_te, end_fits, state_fits, choice_fits, ended_fits, beginning, cadence_of, in_range, caller, answerer, caller_from, answerer_from, Start, ready, started_caller}
use Rattle.steps.specs.Session as starting
use Rattle.steps.specs.Stepping.{StepOutcome, owns, refused_with_11, chosen_after, renewed, row_taken, with_cadence, refused_step, stepped}
use Rattle.steps.specs.Drawing.{DrawOutcome, drawing, undrawn, drawn}
use Rattle.steps.proofs.Known.{is_so, is_not, taken_if}
use Rattle.steps.proofs.Rows.{Taken, step_case}

-- the test of a session, as facts
pub record Fits (s : Session) : Type 0 where
  pub end : end_fits s.end s.te ≡ true
  pub state : state_fits s.end s.state ≡ true
  pub choice : is_choice s.chosen ≡ true
  pub chosen : choice_fits s.state (eqb s.chosen 0) ≡ true
  pub ended : ended_fits s.state (eqb s.chosen 0) s.ended ≡ true
  pub cadence : cadence_of s.end s.state s.cadence ≡ true

pub range_fits : (s : Session) → in_range s ≡ true → Fits s
unfolding in_range
range_fits s h =
    let from_end = both_true _ _ h in
    let from-state = both_true _ _ from_end.1 in
    let from-choice = both_true _ _ from-state.1 in
    let from-chosen = both_true _ _ from-choice.1 in
    let from-ended = both_true _ _ from-chosen.1 in
    record { end = from_end.0; state = from-state.0; choice = from-choice.0; chosen = from-chosen.0; ended = from-ended.0; cadence = from-ended.1 }

pub fits_range : (s : Session) → Fits s → in_range s ≡ true
unfolding in_range both
fits_range s f = simp (f.end, f.state, f.choice, f.chosen, f.ended, f.cadence)

-- whether nothing is chosen once a row is taken, where an agreed menu may bring a choice
abbrev none_after : ℕ → Bool → Bool → Bool
none_after event brings none = when (eqb event agreed_jm) brings (when (eqb event agreed_cm) brings none)

brought : (a b : Bool) (x y z : ℕ) → when a (when a (eqb x 0) (eqb y 0)) (when b (when a (eqb x 0) (eqb y 0)) (eqb z 0)) ≡ eqb (when a x (when b y z)) 0
unfolding when
brought true b x y z = refl
brought false true x y z = refl
brought false false x y z = refl

-- a row, held against an end's numbers: those before it in range, and those that it leaves
abbrev before : Row → ℕ → Bool → Bool
before r end none = both (state_fits end r.state) (both (owns end r.event) (choice_fits r.state none))

abbrev after : Row → ℕ → Bool → Bool
after r end none = both (state_fits end r.to.0) (both (choice_fits r.to.0 none) (ended_fits r.to.0 none (when (eqb r.to.1 goes_on) (when none left goes_on) r.to.1)))

abbrev keeps : Row → ℕ → Bool → Bool → Bool
keeps r end none brings = when (before r end none) (after r end (none_after r.event brings none)) true

abbrev both_ways : (Bool → Bool) → Bool
both_ways f = both (f true) (f false)

abbrev row_chosen : Row → Bool
row_chosen r = all_below (λ end. both_ways (λ none. both_ways (λ brings. keeps r end none brings))) 3

-- no row leads back to the start, and one that leads to its own state is calling's, for ANSam or ANS
abbrev row_moves : Row → Bool
row_moves r = both (not (eqb r.to.0 caller_still)) (when (eqb r.to.0 r.state) (both (eqb r.state calling) (leb r.event 2)) true)

abbrev row_keeps : Row → Bool
row_keeps r = both (row_chosen r) (row_moves r)

-- computed over the table, both ends and every way to have chosen
rows_keep : T (every row_keeps rows)
unfolding when both either every all_below rows
rows_keep = tt

of_both_ways : (f : Bool → Bool) → T (both_ways f) → (b : Bool) → T (f b)
of_both_ways f t true = both_left (f true) (f false) t
of_both_ways f t false = both_right (f true) (f false) t

all_kept : (r : Row) → T (row_chosen r) → (end : ℕ) → end < 3 → (none brings : Bool) → before r end none ≡ true → after r end (none_after r.event brings none) ≡ true
all_kept r t end h none brings b =
    is_so _ (taken_if (before r end none) (after r end (none_after r.event brings none)) true
    (of_both_ways (keeps r end none) (of_both_ways (λ n. both_ways (keeps r end n)) (below (λ e. both_ways (λ n. both_ways (keeps r e n))) 3 t end h) none) brings)
    b)

end_small : (end te : ℕ) → end_fits end te ≡ true → end < 3
end_small end te =
    either_way (λ (v : Bool). v ≡ true → end < 3) (eqb end caller) (is_te te) _
    (λ t _. omega (arith, eqb-true end caller t))
    (λ _ h. omega (arith, eqb-true end answerer (both_true _ _ h).0))

-- what an event carries leaves a choice, or what was chosen stays
choice_kept : (a b w x : Bool) (value was : ℕ) → when a (either w (is_choice value)) (when b (is_choice value) x) ≡ true → is_choice was ≡ true → is_choice (when a (when w 0 value) (when b value was)) ≡ true
unfolding when either
choice_kept true b true x value was h k = refl
choice_kept true b false x value was h k = h
choice_kept false true w x value was h k = h
choice_kept false false w x value was h k = k

-- the cadence is as good in every state but the first
cadence_by : (e f b n : Bool) → when e (both f b) n ≡ true → when e (both f true) n ≡ true
unfolding when both
cadence_by true true b n h = refl
cadence_by true false b n h = clash (sym h)
cadence_by false f b n h = h

cadence_kept : (end from to : ℕ) (c : Cadence) → eqb to caller_still ≡ false → cadence_of end from c ≡ true → cadence_of end to c ≡ true
unfolding when
cadence_kept end from to c apart h = rw apart (cadence_by (eqb end caller) (cadence_fits c) (beginning from c.sent c.tone) (is_none c) h)

-- a row that is taken leaves the session in range
row_fits : (s : Session) (event value now : ℕ) (r : Row) → Taken s event value now r → T (row_keeps r) → in_range (row_taken (renewed s event value now) r.to).session ≡ true
unfolding both
row_fits s event value now r taking tested =
    let f = range_fits s taking.inside in
    let none = eqb s.chosen 0 in
    let brings = when (eqb event agreed_jm) (eqb (when (eqb value refused_with_11) 0 value) 0) (eqb value 0) in
    let from : before r s.end none ≡ true = rw (taking.row.state, taking.row.on) (simp (f.state, taking.own, f.chosen)) in
    let same : none_after r.event brings none ≡ eqb (chosen_after event value s.chosen) 0 = rw taking.row.on (brought (eqb event agreed_jm) (eqb event agreed_cm) _ _ _) in
    let kept = sym (ap (after r s.end) same) ∙ all_kept r (both_left (row_chosen r) (row_moves r) tested) s.end (end_small s.end s.te f.end) none brings from in
    let parts = both_true _ _ kept in
    let rest = both_true _ _ parts.1 in
    fits_range _ (record { end = f.end; state = parts.0; choice = choice_kept (eqb event agreed_jm) (eqb event agreed_cm) (eqb value refused_with_11) _ value s.chosen taking.fit f.choice; chosen = rest.0; ended = rest.1; cadence = cadence_kept s.end s.state r.to.0 s.cadence (is_not (eqb r.to.0 caller_still) (both_left (not (eqb r.to.0 caller_still)) (when (eqb r.to.0 r.state) (both (eqb r.state calling) (leb r.event 2)) true) (both_right (row_chosen r) (row_moves r) tested))) f.cadence })

-- calling is the caller's
pub calls_by : (e : Bool) → when e true false ≡ true → e ≡ true
unfolding when
calls_by true h = refl
calls_by false h = h

pub caller_calls : (s : Session) → in_range s ≡ true → s.state ≡ calling → eqb s.end caller ≡ true
unfolding both either
caller_calls s inside in-calling = calls_by (eqb s.end caller) (sym (ap (state_fits s.end) in-calling) ∙ (range_fits s inside).state)

-- its cadence fits
cadence_is : (e f b n : Bool) → e ≡ true → when e (both f b) n ≡ true → f ≡ true
unfolding when
cadence_is true f b n e h = (both_true f b h).0
cadence_is false f b n e h = clash (sym e)

pub calling_cadence : (s : Session) → in_range s ≡ true → s.state ≡ calling → cadence_fits s.cadence ≡ true
calling_cadence s inside in-calling = cadence_is (eqb s.end caller) (cadence_fits s.cadence) _ _ (caller_calls s inside in-calling) (range_fits s inside).cadence

-- and any other that does leaves the session in range
pub with_cadence_fits : (s : Session) (c : Cadence) → in_range s ≡ true → s.state ≡ calling → cadence_fits c ≡ true → in_range (with_cadence s c) ≡ true
unfolding when both
with_cadence_fits s c inside in-calling fit =
    let f = range_fits s inside in
    fits_range (with_cadence s c) (record { end = f.end; state = f.state; choice = f.choice; chosen = f.chosen; ended = f.ended; cadence = rw (caller_calls s inside in-calling, in-calling, fit) refl })

-- a row that remembers its event is calling's, and the event a tone
pub record Remembers (s : Session) (event : ℕ) : Type 0 where
  pub calling : s.state ≡ calling
  pub tone : leb event 2 ≡ true

pub row_remembers : (s : Session) (event value now : ℕ) (r : Row) → Taken s event value now r → T (row_keeps r) → eqb r.to.0 s.state ≡ true → Remembers s event
row_remembers s event value now r taking tested stays =
    let moving = both_right (not (eqb r.to.0 caller_still)) _ (both_right (row_chosen r) (row_moves r) tested) in
    let said = taken_if (eqb r.to.0 r.state) (both (eqb r.state calling) (leb r.event 2)) true moving (ap (eqb r.to.0) taking.row.state ∙ stays) in
    record { calling = sym taking.row.state ∙ eqb→eq _ _ (both_left (eqb r.state calling) (leb r.event 2) said); tone = ap (λ (e : ℕ). leb e 2) (sym taking.row.on) ∙ is_so _ (both_right (eqb r.state calling) (leb r.event 2) said) }

-- every step keeps a session in range
pub step_keeps_range : (s : Session) (event value now : ℕ) → in_range s ≡ true → in_range (stepped s event value now).session ≡ true
step_keeps_range s event value now h =
    step_case s event value now (λ (o : StepOutcome). in_range o.session ≡ true) row_keeps rows_keep (λ _ _ _. h) h
    (λ r taking tested stays.
    let tone = row_remembers s event value now r taking tested stays in
    with_cadence_fits s (remembering s.cadence event) h tone.calling (remembering_fits s.cadence event (calling_cadence s h tone.calling) tone.tone))
    (λ r taking tested _. row_fits s event value now r taking tested)

-- so does asking for bits
pub draw_keeps_range : (s : Session) (out : List ℕ) → in_range s ≡ true → in_range (drawn s out).session ≡ true
unfolding drawn
draw_keeps_range s out h =
    either_way (λ (o : DrawOutcome). in_range o.session ≡ true) (in_range s) _ (undrawn (refusal 10) s out)
    (λ _. either_way (λ (o : DrawOutcome). in_range o.session ≡ true) (eqb s.state calling) (drawing s (given s.cadence out)) (undrawn (count 0) s out)
    (λ is.
    let in-calling = eqb-true s.state calling is in
    let inside = calling_cadence s h in-calling in
    with_cadence_fits s (given s.cadence out).cadence h in-calling (ap (λ (o : GiveOutcome). cadence_fits o.cadence) (given_in s.cadence out inside) ∙ moved_fits s.cadence (due s.cadence (length out)) inside))
    (λ _. h))
    (λ _. h)

-- one that is outside is refused with 10, before all else, and keeps its value
pub outside_is_refused : (s : Session) (event value now : ℕ) → in_range s ≡ false → stepped s event value now ≡ refused_step 10 s
unfolding when
outside_is_refused s event value now h = simp h

-- the starts
module _ (start te function on off : ℕ) where
  pub caller_start_is_in_range : is_te te ≡ true → is_function function ≡ true → is_cadence on off ≡ true → in_range (caller_from start te (begun function on off)) ≡ true
  unfolding when both either
  caller_start_is_in_range timed named lasting = fits_range _ (record { end = timed; state = refl; choice = refl; chosen = refl; ended = refl; cadence = rw (begun_fits function on off named lasting) refl })

abbrev pub StartFits : Start → Type 0
StartFits (ready s) = in_range s ≡ true
StartFits (starting.refusal n) = Unit

pub start_is_in_range : (start te function on off : ℕ) → StartFits (started_caller start te function on off)
start_is_in_range start te function on off =
    either_way StartFits (both (is_te te) (is_function function)) _ (starting.refusal 10)
    (λ good. either_way StartFits (is_cadence on off) (ready (caller_from start te (begun function on off))) (starting.refusal 16)
    (λ lasting. caller_start_is_in_range start te function on off (both_true _ _ good).0 (both_true _ _ good).1 lasting) (λ _. tt))
    (λ _. tt)

pub answerer_start_is_in_range : (start : ℕ) → in_range (answerer_from start) ≡ true
unfolding when both either
answerer_start_is_in_range start = fits_range _ (record { end = refl; state = refl; choice = refl; chosen = refl; ended = refl; cadence = refl })
