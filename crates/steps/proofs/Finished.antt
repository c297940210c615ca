-- A caller that is quiet or sends CM has nothing left to send of its CI: a row leads there where nothing is left, or from there.
-- Assumes nothing.
use Rattle.std.proofs.Common.{◌≡◌, ℕ, Bool, true, T, eqb, List, [], ◌∷◌, sym, ap, ◌∙◌, subst, ⊎_elim, eqb-true}
use Rattle.laws.specs.Logic.{when, both, either}
use Rattle.laws.specs.Tests.{every}
use Rattle.laws.proofs.Logic.{both_true, clash}
use Rattle.cadence.specs.Giving.{left}
use Rattle.steps.specs.declared.Session.{Session}
use Rattle.steps.specs.declared.Row.{Row}
use Rattle.steps.specs.Table.{quiet, menu, rows, same_condition}
use Rattle.steps.specs.declared.Condition.{Condition}
use Rattle.steps.specs.declared.Condition.TheVariants.{BehindAnsam, NothingLeft}
use Rattle.steps.proofs.Known.{asked_is}
use Rattle.steps.specs.Session.{in_range}
use Rattle.steps.specs.Stepping.{StepOutcome, holds, elapsed}
use Rattle.steps.specs.Drawing.{DrawOutcome}
use Rattle.steps.specs.Runs.{Act, happens, asks, next, run}
use Rattle.steps.proofs.Known.{is_so, taken_if, either_true}
use Rattle.steps.proofs.Rows.{step_case}
use Rattle.steps.proofs.Runs.{drawn_elsewhere, next_keeps_range, only_drawn}

abbrev pub is_behind : ℕ → Bool
is_behind state = either (eqb state quiet) (eqb state menu)

abbrev pub HasSent : Session → Type 0
HasSent s = is_behind s.state ≡ true → left s.cadence ≡ 0

abbrev asks_sent : Condition → Bool
asks_sent condition = either (same_condition condition NothingLeft) (same_condition condition BehindAnsam)

abbrev row_sends : Row → Bool
row_sends r = when (is_behind r.to.0) (either (asks_sent r.condition) (is_behind r.state)) true

rows_send : T (every row_sends rows)
unfolding when either both every rows
rows_send = tt

asks_sent_lem : (condition : Condition) (s : Session) (value passed : ℕ) → asks_sent condition ≡ true → holds condition s value passed ≡ true → left s.cadence ≡ 0
unfolding when
asks_sent_lem condition s value passed asked h =
    ⊎_elim
    (λ e. eqb-true _ _ (both_true _ _ (subst (λ (w : Condition). holds w s value passed ≡ true) (asked_is condition NothingLeft e) h)).1)
    (λ e. eqb-true _ _ (both_true _ _ (subst (λ (w : Condition). holds w s value passed ≡ true) (asked_is condition BehindAnsam e) h)).1)
    (either_true (same_condition condition NothingLeft) (same_condition condition BehindAnsam) asked)

next_has_sent : (s : Session) (a : Act) → in_range s ≡ true → HasSent s → HasSent (next s a).session
unfolding left either
next_has_sent s (happens t) inside has =
    step_case s t.event t.value t.now (λ (o : StepOutcome). HasSent o.session) row_sends rows_send (λ _ _ _. has) has (λ _ _ _ _. has)
    (λ r taking tested _ is.
    ⊎_elim (λ asked. asks_sent_lem r.condition s t.value (elapsed t.now s.entry) asked taking.row.holding) (λ from. has (ap is_behind (sym taking.row.state) ∙ from))
    (either_true (asks_sent r.condition) (is_behind r.state) (is_so _ (taken_if (is_behind r.to.0) _ true tested is))))
next_has_sent s (asks out) inside has =
    λ is.
    let only = (only_drawn s out).session in
    let there : is_behind s.state ≡ true = sym (ap (λ (x : Session). is_behind x.state) only) ∙ is in
    ap (λ (o : DrawOutcome). left o.session.cadence) (drawn_elsewhere s out inside (λ c. clash (sym there ∙ ap is_behind c))) ∙ has there

pub run_has_sent : (s : Session) (acts : List Act) → in_range s ≡ true → HasSent s → HasSent (run s acts)
unfolding run
run_has_sent s [] inside has = has
run_has_sent s (a ∷ acts) inside has = run_has_sent (next s a).session acts (next_keeps_range s a inside) (next_has_sent s a inside has)
