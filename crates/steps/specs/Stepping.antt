-- Document 01, 'Steps': what an event changes, and what it is answered.
use Rattle.std.specs.Prelude.{◌≡◌, Option, Some, None, Result, Ok, Err, ℕ, ◌+◌, ◌-◌, ◌%◌, ◌^◌, Bool, true, List, [], ◌∷◌, ◌==◌, nat_le, nat_lt}
use Rattle.laws.specs.Logic.{when, both, either}
use Rattle.refusals.specs.declared.Refusal.{Refusal}
use Rattle.refusals.specs.Refusals.{number}
use Rattle.cadence.specs.declared.Cadence.{Cadence}
use Rattle.cadence.specs.Giving.{left, remembering}
use Rattle.steps.specs.declared.Session.{Session}
use Rattle.steps.specs.declared.Row.{Row}
use Rattle.steps.specs.declared.To.{To}
use Rattle.steps.specs.declared.Condition.{Condition}
use Rattle.steps.specs.declared.Condition.TheVariants.{Always, TeElapsed, NoneChosen, JmRefused, ChosenItem, NothingLeft, NoTone, BehindAnsam, BehindAns}
use Rattle.steps.specs.declared.Answer.{Answer}
use Rattle.steps.specs.declared.Answer.TheVariants.{Same, Entered, Ended, GoOn}
use Rattle.steps.specs.declared.Stepped.{Stepped}
use Rattle.steps.specs.Table as table
use Rattle.steps.specs.Table.{over, goes_on, ansam, ans, agreed_jm, cj_sent, agreed_cm, sig_c, cj, tick, rows}
use Rattle.steps.specs.Session.{is_item, is_choice, of_end, in_range}

-- what an event is answered: "same", the state entered, how the session ended, the choice to go on with, or a refusal's number
pub data Answered : Type 0 where
  same : Answered
  entered : ℕ → Answered
  ended : ℕ → Answered
  go_on : ℕ → Answered
  refusal : ℕ → Answered

-- what an answer says on paper
abbrev pub says_answered : Answer → Answered
says_answered Same = same
says_answered (Entered state) = entered state
says_answered (Ended how) = ended how
says_answered (GoOn choice) = go_on choice

-- .. or a refusal
abbrev pub says_answer : Result Answer Refusal → Answered
says_answer (Ok a) = says_answered a
says_answer (Err r) = refusal (number r)

-- what an event leaves: its answer, and the session
pub record StepOutcome : Type 0 where
  pub answer : Answered
  pub session : Session

-- an answer that is as laid down
pub record Steps (laid : StepOutcome) (r : Stepped) : Type 0 where
  pub answer : says_answer r.answer ≡ laid.answer
  pub session : r.session ≡ laid.session

-- "a free-running 32-bit count of milliseconds that wraps; elapsed is now less the entry time"
unfoldable pub elapsed : ℕ → ℕ → ℕ
elapsed now entry = (now + 2 ^ 32 - entry) % 2 ^ 32

-- "event of the other end" is refused with 9; the tick is for both
abbrev pub owns : ℕ → ℕ → Bool
owns end event = either (event == tick) (of_end end ansam cj_sent agreed_cm cj event)

-- "for JM also 'refused with 11'": its own number beside the choices
abbrev pub refused_with_11 : ℕ
refused_with_11 = 24

-- "item not 1 to 12; PCM options not 1 to 7" are refused with 9
abbrev pub carries : ℕ → ℕ → Bool
carries event value =
    when (event == agreed_jm) (either (value == refused_with_11) (is_choice value))
    (when (event == agreed_cm) (is_choice value)
    (when (event == sig_c) (is_item value)
    true))

-- this tone was heard, or with 0 none, and "nothing is left to send"
abbrev pub is_sent : ℕ → Cadence → Bool
is_sent tone c = both (c.tone == tone) (left c == 0)

-- what else a row asks for: "elapsed Te", "choice none", "refused with 11", "sigC of the chosen item", what was heard and sent, or nothing
abbrev pub holds : Condition → Session → ℕ → ℕ → Bool
holds Always s value passed = true
holds TeElapsed s value passed = nat_le s.te passed
holds NoneChosen s value passed = s.chosen == 0
holds JmRefused s value passed = value == refused_with_11
holds ChosenItem s value passed = value == s.chosen
holds NothingLeft s value passed = is_sent 0 s.cadence
holds NoTone s value passed = s.cadence.tone == 0
holds BehindAnsam s value passed = is_sent ansam s.cadence
holds BehindAns s value passed = is_sent ans s.cadence

-- a row of this state and this event; "'Elapsed' .. means at least"
abbrev pub row_fits : Row → ℕ → ℕ → ℕ → Bool → Bool
row_fits r state event passed holding = both (r.state == state) (both (r.event == event) (both (nat_le r.least passed) holding))

-- such a row, where what else it asks for holds
unfoldable pub applies : Session → ℕ → ℕ → ℕ → Row → Bool
applies s event value passed r = row_fits r s.state event passed (holds r.condition s value passed)

-- the first row that applies
unfoldable pub find_row : Session → ℕ → ℕ → ℕ → List Row → Option To
find_row s event value passed [] = None
find_row s event value passed (r ∷ rs) = when (applies s event value passed r) (Some r.to) (find_row s event value passed rs)

-- "Agreed CM and agreed JM carry the choice"; one that is refused with 11 brings none
abbrev pub chosen_after : ℕ → ℕ → ℕ → ℕ
chosen_after event value chosen =
    when (event == agreed_jm) (when (value == refused_with_11) 0 value)
    (when (event == agreed_cm) value chosen)

-- "The time .. of each change of state, is the entry time."
abbrev pub renewed : Session → ℕ → ℕ → ℕ → Session
renewed s event value now = record { entry = now; te = s.te; cadence = s.cadence; end = s.end; state = s.state; chosen = chosen_after event value s.chosen; ended = s.ended }

-- "go on as chosen or left"
abbrev pub ended_as : ℕ → ℕ → ℕ
ended_as how chosen = when (how == goes_on) (when (chosen == 0) table.left goes_on) how

-- the state entered, or how the session ended
abbrev pub answer_of : ℕ → ℕ → ℕ → Answered
answer_of state how chosen = when (state == over) (when (how == goes_on) (go_on chosen) (ended how)) (entered state)

-- the session in this state, and what that is answered
abbrev pub entering : Session → ℕ → ℕ → StepOutcome
entering s state how = record {
  answer = answer_of state how s.chosen;
  session = record { entry = s.entry; te = s.te; cadence = s.cadence; end = s.end; state = state; chosen = s.chosen; ended = how };
}

-- what a row leads to
abbrev pub row_taken : Session → To → StepOutcome
row_taken s to = entering s to.0 (ended_as to.1 s.chosen)

-- the session with another cadence
abbrev pub with_cadence : Session → Cadence → Session
with_cadence s c = record { entry = s.entry; te = s.te; cadence = c; end = s.end; state = s.state; chosen = s.chosen; ended = s.ended }

-- a tone that is remembered: the state and the entry time stay, and it is answered "same"
abbrev pub remembered : Session → ℕ → StepOutcome
remembered s event = record { answer = same; session = with_cadence s (remembering s.cadence event) }

-- a row that leads to its own state remembers its event; "Any other pair of a state and its own end's event changes nothing and is answered 'same'."
abbrev pub moved : Session → ℕ → ℕ → ℕ → Option To → StepOutcome
moved s event value now (Some to) = when (to.0 == s.state) (remembered s event) (row_taken (renewed s event value now) to)
moved s event value now None = record { answer = same; session = s }

-- "A refusal carries its number alone. Buffers and the session keep their values."
abbrev pub refused_step : ℕ → Session → StepOutcome
refused_step n s = record { answer = refusal n; session = s }

-- "2^31 or more is refusal 8"
unfoldable pub timed : Session → ℕ → ℕ → ℕ → StepOutcome
timed s event value now =
    when (nat_lt (elapsed now s.entry) 2147483648)
    (moved s event value now (find_row s event value (elapsed now s.entry) rows))
    (refused_step 8 s)

-- "steps 7, 9, 8"
unfoldable pub stepped_in : Session → ℕ → ℕ → ℕ → StepOutcome
stepped_in s event value now =
    when (s.state == over) (refused_step 7 s)
    (when (both (owns s.end event) (carries event value)) (timed s event value now) (refused_step 9 s))

-- "10 for a lent .. session comes before all of these"
abbrev pub stepped : Session → ℕ → ℕ → ℕ → StepOutcome
stepped s event value now = when (in_range s) (stepped_in s event value now) (refused_step 10 s)
