-- Whatever events come, in any order, refused ones among them, and whenever bits are asked for: an end goes on with the choice that an agreed
-- menu carried, and it is cleared only where that was none. So where menus arrive as sent, no two ends go on with different choices, and none
-- where nothing is shared.
use Rattle.std.specs.Prelude.{ℕ, ◌≡◌, true, List, [], ◌∷◌}
use Rattle.records.specs.declared.Record.{Record}
use Rattle.cadence.specs.Cadence.{is_function, is_cadence}
use Rattle.cadence.specs.Giving.{begun}
use Rattle.steps.specs.declared.Session.{Session}
use Rattle.steps.specs.Table.{cleared, goes_on}
use Rattle.steps.specs.Session.{is_mode, is_te, caller_from, answerer_from}
use Rattle.steps.specs.Stepping.{go_on}
use Rattle.steps.specs.Runs.{Timed, Act, happens, next, value_of, run, enters_agreed, Brought}
use Rattle.demands.specs.OneChoice.{NothingShared}

-- a session at its start
pub data Starts : Session → Type 0 where
  calling : (now te function on off : ℕ) → is_te te ≡ true → is_function function ≡ true → is_cadence on off ≡ true → Starts (caller_from now te (begun function on off))
  answering : (now : ℕ) → Starts (answerer_from now)

-- "Agreed CM and agreed JM carry the choice": what an end goes on with, or is cleared by, the one agreed menu among its events carried
pub record EndsAsAgreed (start : Session) (acts : List Act) : Type 0 where
  -- "go on as chosen": an event that is answered so, and the session from then on
  pub goes : (t : Timed) (choice : ℕ) → (next (run start acts) (happens t)).answer ≡ go_on choice → Brought start acts choice × (is_mode choice ≡ true)
  pub went : (run start acts).ended ≡ goes_on → Brought start acts (run start acts).chosen × (is_mode (run start acts).chosen ≡ true)
  -- "choice none: over, cleared"
  pub clears : (run start acts).ended ≡ cleared → Brought start acts 0

-- whenever a menu is agreed in these events, its event carries this
pub data Carrying (choice : ℕ) : Session → List Act → Type 0 where
  done : {s : Session} → Carrying choice s []
  more : {s : Session} {a : Act} {acts : List Act} → (enters_agreed (next s a).answer ≡ true → value_of a ≡ choice) → Carrying choice (next s a).session acts → Carrying choice s (a ∷ acts)

-- an end of a call that goes on does so with this choice, and something is shared; one that is cleared shares nothing
pub record EndsOnlyWith (choice : ℕ) (caller answerer : Record) (function : ℕ) (start : Session) (acts : List Act) : Type 0 where
  pub goes : (t : Timed) (other : ℕ) → (next (run start acts) (happens t)).answer ≡ go_on other → other ≡ choice
  pub went : (run start acts).ended ≡ goes_on → (run start acts).chosen ≡ choice
  pub shared : (run start acts).ended ≡ goes_on → NothingShared caller answerer function → ⊥
  pub clears : (run start acts).ended ≡ cleared → NothingShared caller answerer function

-- both ends, with one choice
pub record NoEndGoesOnOtherwise (choice : ℕ) (caller answerer : Record) (function on off callerStart te answererStart : ℕ) (callerActs answererActs : List Act) : Type 0 where
  pub calling : EndsOnlyWith choice caller answerer function (caller_from callerStart te (begun function on off)) callerActs
  pub answering : EndsOnlyWith choice caller answerer function (answerer_from answererStart) answererActs
