-- Document 01, 'Steps': what each line of the table says of a step, the answer and the whole session.
use Rattle.std.specs.Prelude.{ℕ, ◌<◌, ◌≡◌, true, leb, eqb}
use Rattle.laws.specs.Logic.{when}
use Rattle.cadence.specs.declared.Cadence.{Cadence}
use Rattle.cadence.specs.Giving.{left, remembering}
use Rattle.steps.specs.declared.Session.{Session}
use Rattle.steps.specs.Table as table
use Rattle.steps.specs.Table.{caller_still, calling, quiet, menu, closing, pause, answerer_still, answering, joint, over, going, late, cleared, not_offered, goes_on, ansam, ans, sig_a, agreed_jm, cj_sent, agreed_cm, sig_c, cj, tick}
use Rattle.steps.specs.Session.{caller, answerer, is_item, is_choice, in_range}
use Rattle.steps.specs.Stepping.{same, entered, ended, go_on, StepOutcome, elapsed, refused_with_11, stepped}

-- a session that is not over
abbrev pub session : ℕ → ℕ → Cadence → ℕ → ℕ → ℕ → Session
session end te c state chosen entry = record { entry = entry; te = te; cadence = c; end = end; state = state; chosen = chosen; ended = going }

-- an event in time, of a session in range: "2^31 or more is refusal 8"
pub record InTime (s : Session) (now : ℕ) : Type 0 where
  pub inside : in_range s ≡ true
  pub soon : elapsed now s.entry < 2147483648

-- what comes of it: a state is entered; the session is over; "changes nothing and is answered 'same'". "The time .. of each change of state, is
-- the entry time."
abbrev pub enters : Session → ℕ → ℕ → ℕ → StepOutcome
enters s state chosen now = record { answer = entered state; session = record { entry = now; te = s.te; cadence = s.cadence; end = s.end; state = state; chosen = chosen; ended = going } }

abbrev pub is_over : Session → ℕ → ℕ → ℕ → StepOutcome
is_over s how chosen now = record { answer = ended how; session = record { entry = now; te = s.te; cadence = s.cadence; end = s.end; state = over; chosen = chosen; ended = how } }

abbrev pub goes_on_with : Session → ℕ → ℕ → StepOutcome
goes_on_with s chosen now = record { answer = go_on chosen; session = record { entry = now; te = s.te; cadence = s.cadence; end = s.end; state = over; chosen = chosen; ended = goes_on } }

abbrev pub stays : Session → StepOutcome
stays s = record { answer = same; session = s }

-- document 02, Req 04: ANSam or ANS that is remembered is answered "same", and leaves the state and the entry time
abbrev pub remembers : Session → ℕ → StepOutcome
remembers s tone = record { answer = same; session = record { entry = s.entry; te = s.te; cadence = remembering s.cadence tone; end = s.end; state = s.state; chosen = s.chosen; ended = s.ended } }

-- "with that event if nothing is left to send", else it is remembered; "a later ANS or ANSam changes nothing"
abbrev pub at_tone : Session → ℕ → StepOutcome → StepOutcome
at_tone s tone outcome = when (eqb s.cadence.tone 0) (when (eqb (left s.cadence) 0) outcome (remembers s tone)) (stays s)

-- ".. else with the first tick after the last such bit"
abbrev pub once_sent : Session → StepOutcome → StepOutcome → StepOutcome
once_sent s quiets leaves = when (eqb (left s.cadence) 0) (when (eqb s.cadence.tone ansam) quiets (when (eqb s.cadence.tone ans) leaves (stays s))) (stays s)

-- "'Elapsed' is tested on a tick only and means at least"
abbrev pub once_elapsed : ℕ → Session → StepOutcome → ℕ → StepOutcome
once_elapsed least s outcome now = when (leb least (elapsed now s.entry)) outcome (stays s)

pub record CallerGoesByTheTable (te chosen entry now : ℕ) (c : Cadence) : Type 0 where
  -- "Caller still", "elapsed 1,000: calling"
  pub still : (v : ℕ) → let s = session caller te c caller_still chosen entry in InTime s now → stepped s tick v now ≡ once_elapsed 1000 s (enters s calling chosen now) now
  -- "Calling", "ANSam: quiet. ANS or sigA: over, left"; document 02, Req 04: "Quiet begins, or the machine leaves, with that event if nothing is left to send,
  -- else with the first tick after the last such bit"
  pub on_ansam : (v : ℕ) → let s = session caller te c calling chosen entry in InTime s now → stepped s ansam v now ≡ at_tone s ansam (enters s quiet chosen now)
  pub on_ans : (v : ℕ) → let s = session caller te c calling chosen entry in InTime s now → stepped s ans v now ≡ at_tone s ans (is_over s table.left chosen now)
  pub on_sig_a : (v : ℕ) → let s = session caller te c calling chosen entry in InTime s now → stepped s sig_a v now ≡ is_over s table.left chosen now
  pub in_calling : (v : ℕ) → let s = session caller te c calling chosen entry in InTime s now → stepped s tick v now ≡ once_sent s (enters s quiet chosen now) (is_over s table.left chosen now)
  -- "Quiet", "elapsed Te: menu (sends CM)"
  pub in_quiet : (v : ℕ) → let s = session caller te c quiet chosen entry in InTime s now → stepped s tick v now ≡ once_elapsed te s (enters s menu chosen now) now
  -- "Menu", "agreed JM: closing (sends CJ); where the choice is refused with 11: over, not offered. Elapsed 10,000 (house): over, late"
  pub on_jm : (choice : ℕ) → is_choice choice ≡ true → let s = session caller te c menu chosen entry in InTime s now → stepped s agreed_jm choice now ≡ enters s closing choice now
  pub on_refused_jm : let s = session caller te c menu chosen entry in InTime s now → stepped s agreed_jm refused_with_11 now ≡ is_over s not_offered 0 now
  pub in_menu : (v : ℕ) → let s = session caller te c menu chosen entry in InTime s now → stepped s tick v now ≡ once_elapsed 10000 s (is_over s late chosen now) now
  -- "Closing", "CJ sent: pause; choice none: over, cleared"
  pub on_cj_sent : (v : ℕ) → let s = session caller te c closing chosen entry in InTime s now → stepped s cj_sent v now ≡ when (eqb chosen 0) (is_over s cleared chosen now) (enters s pause chosen now)

pub record AnswererGoesByTheTable (chosen entry now : ℕ) (c : Cadence) : Type 0 where
  -- "Answerer still", "elapsed 200: answering (sends ANSam)"
  pub still : (v : ℕ) → let s = session answerer 0 c answerer_still chosen entry in InTime s now → stepped s tick v now ≡ once_elapsed 200 s (enters s answering chosen now) now
  -- "Answering", "agreed CM: joint (sends JM). sigC, or elapsed 5,000: pause, then left"
  pub on_cm : (choice : ℕ) → is_choice choice ≡ true → let s = session answerer 0 c answering chosen entry in InTime s now → stepped s agreed_cm choice now ≡ enters s joint choice now
  pub on_sig_c : (item : ℕ) → is_item item ≡ true → let s = session answerer 0 c answering chosen entry in InTime s now → stepped s sig_c item now ≡ enters s pause chosen now
  pub in_answering : (v : ℕ) → let s = session answerer 0 c answering chosen entry in InTime s now → stepped s tick v now ≡ once_elapsed 5000 s (enters s pause chosen now) now
  -- "Joint", "CJ: pause, choice none: over, cleared. sigC of the chosen item: pause. Elapsed 10,000 (house): over, late"
  pub on_cj : (v : ℕ) → let s = session answerer 0 c joint chosen entry in InTime s now → stepped s cj v now ≡ when (eqb chosen 0) (is_over s cleared chosen now) (enters s pause chosen now)
  pub on_chosen_sig_c : (item : ℕ) → is_item item ≡ true → let s = session answerer 0 c joint chosen entry in InTime s now → stepped s sig_c item now ≡ when (eqb item chosen) (enters s pause chosen now) (stays s)
  pub in_joint : (v : ℕ) → let s = session answerer 0 c joint chosen entry in InTime s now → stepped s tick v now ≡ once_elapsed 10000 s (is_over s late chosen now) now

-- "Pause", "elapsed 75: over, go on as chosen or left", at both ends
pub record PauseGoesByTheTable (end te chosen entry now : ℕ) (c : Cadence) : Type 0 where
  pub in_pause : (v : ℕ) → let s = session end te c pause chosen entry in InTime s now → stepped s tick v now ≡ once_elapsed 75 s (when (eqb chosen 0) (is_over s table.left chosen now) (goes_on_with s chosen now)) now
