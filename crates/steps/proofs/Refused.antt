-- An event that is refused leaves the session, by one of four numbers: what a row leads to is no refusal. And an event for which no row is there
-- changes nothing.
-- Assumes nothing.
use Rattle.std.proofs.Common.{◌≡◌, ℕ, suc, ◌<◌, true, not, eqb, List, [], ◌∷◌, sym, refl, ap, ◌∙◌, subst, arith, lt-ltb, ne_eqb}
use Rattle.laws.specs.Logic.{when, both}
use Rattle.laws.specs.Tests.{every}
use Rattle.laws.proofs.Logic.{either_way, both_true, clash}
use Rattle.steps.specs.declared.Session.{Session}
use Rattle.steps.specs.declared.Row.{Row}
use Rattle.steps.specs.declared.To.{To}
use Rattle.std.specs.Prelude.{Option, Some, None}
use Rattle.steps.specs.Table.{over, goes_on, rows}
use Rattle.steps.specs.Session.{in_range}
use Rattle.steps.specs.Stepping.{Answered, same, entered, ended, go_on, refusal, StepOutcome, elapsed, owns, carries, applies, find_row, chosen_after, ended_as, answer_of, renewed, row_taken, remembered, moved, refused_step, timed, stepped_in, stepped}

-- what an event is answered, as one number more than its refusal
abbrev number_answered : Answered → ℕ
number_answered same = 0
number_answered (entered state) = 0
number_answered (ended how) = 0
number_answered (go_on choice) = 0
number_answered (refusal n) = suc n

answer_fine : (state how chosen : ℕ) → number_answered (answer_of state how chosen) ≡ 0
answer_fine state how chosen =
    either_way (λ (a : Answered). number_answered a ≡ 0) (eqb state over) _ (entered state)
    (λ _. either_way (λ (a : Answered). number_answered a ≡ 0) (eqb how goes_on) (go_on chosen) (ended how) (λ _. refl) (λ _. refl))
    (λ _. refl)

-- the numbers that a step refuses with
pub data StepNumber : ℕ → Type 0 where
  after_over : StepNumber 7
  clock : StepNumber 8
  wrong_event : StepNumber 9
  bad_session : StepNumber 10

module _ (s : Session) (event value now : ℕ) where
  moved_fine : (found : Option To) → number_answered (moved s event value now found).answer ≡ 0
  moved_fine (Some to) =
      let chosen = chosen_after event value s.chosen in
      either_way (λ (o : StepOutcome). number_answered o.answer ≡ 0) (eqb to.0 s.state) (remembered s event) (row_taken (renewed s event value now) to) (λ _. refl) (λ _. answer_fine to.0 (ended_as to.1 chosen) chosen)
  moved_fine None = refl

  abbrev Kept : StepOutcome → Type 0
  Kept o = (n : ℕ) → o.answer ≡ refusal n → (o.session ≡ s) × StepNumber n

  kept_by : (k : ℕ) → StepNumber k → Kept (refused_step k s)
  kept_by k number n e = let alike : k ≡ n = omega (arith, ap number_answered e) in (refl, subst StepNumber alike number)

  pub refused_step_lem : Kept (stepped s event value now)
  unfolding stepped_in timed
  refused_step_lem =
      either_way Kept (in_range s) (stepped_in s event value now) (refused_step 10 s)
      (λ _. either_way Kept _ (refused_step 7 s) _ (λ _. kept_by 7 after_over)
      (λ _. either_way Kept _ (timed s event value now) (refused_step 9 s)
      (λ _. either_way Kept _ _ (refused_step 8 s)
      (λ _ n e. absurd (let z : ⊥ = omega (arith, moved_fine (find_row s event value (elapsed now s.entry) rows), ap number_answered e) in z))
      (λ _. kept_by 8 clock))
      (λ _. kept_by 9 wrong_event)))
      (λ _. kept_by 10 bad_session)

  -- no row is found where none applies
  none_found : (passed : ℕ) (rs : List Row) → every (λ r. not (applies s event value passed r)) rs ≡ true → find_row s event value passed rs ≡ None
  unfolding find_row every
  none_found passed [] none = refl
  none_found passed (r ∷ rs) none =
      let parts = both_true _ _ none in
      either_way (λ (found : Option To). found ≡ None) (applies s event value passed r) (Some r.to) (find_row s event value passed rs)
      (λ applied. clash (sym (sym (ap not applied) ∙ parts.0)))
      (λ _. none_found passed rs parts.1)

  -- an event of a session that goes on, of its own end, and in time
  module _ (inside : in_range s ≡ true) (going : s.state ≡ over → ⊥) (own : both (owns s.end event) (carries event value) ≡ true) where
    pub in_time : elapsed now s.entry < 2147483648 → stepped s event value now ≡ moved s event value now (find_row s event value (elapsed now s.entry) rows)
    unfolding stepped_in timed when
    in_time soon = simp (inside, ne_eqb s.state over going, own, lt-ltb (elapsed now s.entry) 2147483648 soon)

    pub in_time_is_not_refused : elapsed now s.entry < 2147483648 → (n : ℕ) → (stepped s event value now).answer ≡ refusal n → ⊥
    in_time_is_not_refused soon n e =
        let by_Row = ap (λ (o : StepOutcome). number_answered o.answer) (in_time soon) in
        omega (arith, by_Row, moved_fine (find_row s event value (elapsed now s.entry) rows), ap number_answered e)

    pub no_row_is_same : elapsed now s.entry < 2147483648 → every (λ r. not (applies s event value (elapsed now s.entry) r)) rows ≡ true → stepped s event value now ≡ record { answer = same; session = s }
    no_row_is_same soon none = in_time soon ∙ ap (moved s event value now) (none_found (elapsed now s.entry) rows none)
