-- What an event is answered, in every case: "same", a state from 1 to 9, an ending from 1 to 4, a mode to go on with, or a refusal from 7 to
-- 10. The session that a row leaves is in range, and its answer says what that session holds.
-- Assumes nothing.
use Rattle.std.proofs.Common.{◌≡◌, ℕ, Bool, true, false, not, eqb, leb, sym, refl, arith, le-leb}
use borrow.Author.Tests.{eqb-false}
use Rattle.laws.specs.Logic.{when, both}
use Rattle.laws.proofs.Logic.{clash}
use Rattle.steps.specs.declared.Session.{Session}
use Rattle.steps.specs.Table.{over, left, not_offered, goes_on}
use Rattle.steps.specs.Session.{between, is_mode, in_range}
use Rattle.steps.specs.Stepping.{Answered, same, entered, ended, go_on, refusal, StepOutcome, answer_of, renewed, row_taken, stepped}
use Rattle.steps.proofs.Known.{either_right}
use Rattle.steps.proofs.Rows.{any_row, step_case}
use Rattle.steps.proofs.Ranges.{Fits, range_fits, step_keeps_range}
use Rattle.steps.proofs.Ticks.{state_small}

abbrev pub possible_answer : Answered → Bool
possible_answer same = true
possible_answer (entered state) = between 1 9 state
possible_answer (ended how) = between 1 4 how
possible_answer (go_on choice) = is_mode choice
possible_answer (refusal n) = between 7 10 n

-- what a session that is over holds
ended_by : (g none : Bool) (how chosen : ℕ) → when g (not none) (between left not_offered how) ≡ true → (none ≡ false → is_mode chosen ≡ true) → possible_answer (when g (go_on chosen) (ended how)) ≡ true
unfolding when
ended_by true true how chosen h mode = clash (sym h)
ended_by true false how chosen h mode = mode refl
ended_by false none how chosen h mode = h

module _ (s : Session) (inside : in_range s ≡ true) where
  fits : Fits s
  fits = range_fits s inside

  over_by : (o : Bool) → eqb s.state over ≡ o → when o (when (eqb s.ended goes_on) (not (eqb s.chosen 0)) (between left not_offered s.ended)) (eqb s.ended 0) ≡ true
      → possible_answer (when o (when (eqb s.ended goes_on) (go_on s.chosen) (ended s.ended)) (entered s.state)) ≡ true
  unfolding when both
  over_by true is h = ended_by (eqb s.ended goes_on) (eqb s.chosen 0) s.ended s.chosen h (λ some. either_right (eqb s.chosen 0) (is_mode s.chosen) fits.choice some)
  over_by false is h =
      let small = state_small s.end s.state fits.state in
      simp (le-leb 1 s.state small.0, le-leb s.state 9 (omega (arith, small.1, eqb-false s.state over is)))

  says_session : possible_answer (answer_of s.state s.ended s.chosen) ≡ true
  says_session = over_by (eqb s.state over) refl fits.ended

refused_in : (n : ℕ) → leb 7 n ≡ true → leb n 10 ≡ true → between 7 10 n ≡ true
unfolding both
refused_in n low high = simp (low, high)

pub answer_is_possible : (s : Session) (event value now : ℕ) → possible_answer (stepped s event value now).answer ≡ true
answer_is_possible s event value now =
    step_case s event value now (λ (o : StepOutcome). (in_range s ≡ true → in_range o.session ≡ true) → possible_answer o.answer ≡ true) (λ r. true) any_row
    (λ n low high _. refused_in n (le-leb 7 n low) (le-leb n 10 high)) (λ _. refl) (λ _ _ _ _ _. refl)
    (λ r taking _ _ keeps. says_session (row_taken (renewed s event value now) r.to).session (keeps taking.inside))
    (step_keeps_range s event value now)
