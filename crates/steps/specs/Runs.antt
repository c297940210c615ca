-- Document 01, 'Steps', over many events, and bits that are asked for between them: what stands once they are taken in turn, which bits came
-- out, which menu was agreed, and how long a state lasts.
use Rattle.std.specs.Prelude.{◌≡◌, ℕ, Bool, true, false, not, List, [], ◌∷◌, ◌++◌, take, ◌==◌}
use Rattle.laws.specs.Logic.{when, both, either}
use Rattle.refusals.specs.Lent.{Said, count}
use Rattle.refusals.specs.Lent as lent
use Rattle.steps.specs.declared.Session.{Session}
use Rattle.steps.specs.declared.Row.{Row}
use Rattle.steps.specs.declared.Condition.TheVariants.{TeElapsed}
use Rattle.steps.specs.Table.{calling, closing, joint, over, tick, same_condition, rows}
use Rattle.steps.specs.Stepping.{Answered, same, entered, ended, go_on, refusal, StepOutcome, stepped}
use Rattle.steps.specs.Drawing.{drawn}

-- an event with what it carries; "Every event carries the time"
pub record Timed : Type 0 where
  pub event : ℕ
  pub value : ℕ
  pub now : ℕ

-- what a host does: it hands over an event, or it asks for bits and lends what they go into
pub data Act : Type 0 where
  happens : Timed → Act
  asks : List ℕ → Act

-- what comes of it; asking for bits enters no state, and counts as answered "same"
abbrev pub next : Session → Act → StepOutcome
next s (happens t) = stepped s t.event t.value t.now
next s (asks out) = record { answer = same; session = (drawn s out).session }

-- what an event carries
abbrev pub value_of : Act → ℕ
value_of (happens t) = t.value
value_of (asks out) = 0

-- all of them in turn
unfoldable pub run : Session → List Act → Session
run s [] = s
run s (a ∷ acts) = run (next s a).session acts

-- the bits that came, of those that were asked for
abbrev pub came : Said → List ℕ → List ℕ
came (count n) buffer = take n buffer
came (lent.refusal n) buffer = []

abbrev pub bits_of : Session → Act → List ℕ
bits_of s (happens t) = []
bits_of s (asks out) = came (drawn s out).answer (drawn s out).buffer

-- "what comes out": the bits of all askings, joined
unfoldable pub given_out : Session → List Act → List ℕ
given_out s [] = []
given_out s (a ∷ acts) = bits_of s a ++ given_out (next s a).session acts

-- closing or joint was entered: the states that an agreed menu leads to
abbrev pub enters_agreed : Answered → Bool
enters_agreed same = false
enters_agreed (entered state) = either (state == closing) (state == joint)
enters_agreed (ended how) = false
enters_agreed (go_on choice) = false
enters_agreed (refusal n) = false

-- no menu is agreed in these events
unfoldable pub none_agreed : Session → List Act → Bool
none_agreed s [] = true
none_agreed s (a ∷ acts) = both (not (enters_agreed (next s a).answer)) (none_agreed (next s a).session acts)

-- the choice is what the one agreed menu among the events carried
pub data Brought : Session → List Act → ℕ → Type 0 where
  here : {s : Session} {a : Act} {acts : List Act} → enters_agreed (next s a).answer ≡ true → none_agreed (next s a).session acts ≡ true → Brought s (a ∷ acts) (value_of a)
  later : {s : Session} {a : Act} {acts : List Act} {choice : ℕ} → enters_agreed (next s a).answer ≡ false → Brought (next s a).session acts choice → Brought s (a ∷ acts) choice

-- the time that a row asks for
abbrev pub least : Row → Session → ℕ
least r s = when (same_condition r.condition TeElapsed) s.te r.least

-- a row of this state for a tick
abbrev pub ticks : ℕ → Row → Bool
ticks state r = both (r.state == state) (r.event == tick)

-- how long a state lasts: what its row for a tick asks for
unfoldable pub limit_in : List Row → Session → ℕ
limit_in [] s = 0
limit_in (r ∷ rs) s = when (ticks s.state r) (least r s) (limit_in rs s)

abbrev pub limit : Session → ℕ
limit s = limit_in rows s

-- every state but calling, closing and over
abbrev pub passes : ℕ → Bool
passes state = not (either (state == calling) (either (state == closing) (state == over)))
