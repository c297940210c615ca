-- The whole call: over a line that delivers menus as sent, with the events in the order that V.8 gives them and bits asked for between them, both
-- ends go on with the choice that they name or both clear, and they clear exactly when nothing is shared.
use Rattle.std.specs.Prelude.{ℕ, ◌≡◌, Bool, true, false, List, [], ◌∷◌, leb, ltb, eqb}
use Rattle.laws.specs.Logic.{when, both}
use Rattle.records.specs.declared.Record.{Record}
use Rattle.choices.specs.Choosing.{Chosen}
use Rattle.cadence.specs.Giving.{begun, left}
use Rattle.steps.specs.declared.Session.{Session}
use Rattle.steps.specs.Table.{over, cleared, goes_on, ansam, agreed_jm, cj_sent, agreed_cm, sig_c, cj, tick}
use Rattle.steps.specs.Session.{is_item, is_mode, caller_from, answerer_from}
use Rattle.steps.specs.Stepping.{same, elapsed}
use Rattle.steps.specs.Runs.{Timed, Act, happens, next, run}
use Rattle.codes.specs.Choosing.{choice_code}
use Rattle.codes.specs.Steps.{carried_of}
use Rattle.demands.specs.OneChoice.{NothingShared}

-- "Agreed CM and agreed JM carry the choice": as a host does that hands the number of the choice to the step
abbrev pub carried : Chosen → ℕ
carried chosen = carried_of (choice_code chosen)

-- an event that the order waits for, what it carries, the milliseconds in its state before which it does not count, and whether it counts only
-- once nothing is left to send
pub record Due : Type 0 where
  pub event : ℕ
  pub value : ℕ
  pub least : ℕ
  pub sent : Bool

abbrev due : ℕ → ℕ → ℕ → Due
due event value least = record { event = event; value = value; least = least; sent = false }

-- document 02, Req 04: "the first tick after the last such bit"
abbrev pub sent_tick : Due
sent_tick = record { event = tick; value = 0; least = 0; sent = true }

-- not sooner than that, and within half the clock: "2^31 or more is refusal 8"
abbrev pub IsInTime : Session → Due → ℕ → Bool
IsInTime s d now = both (leb d.least (elapsed now s.entry)) (both (ltb (elapsed now s.entry) 2147483648) (when d.sent (eqb (left s.cadence) 0) true))

-- what the order waits for behind an event: where CI is left to send at ANSam, a tick behind its last bit as well
abbrev pub behind : Session → Due → List Due → List Due
behind s d ds = when (both (eqb d.event ansam) (ltb 0 (left s.cadence))) (sent_tick ∷ ds) ds

-- events in their order: between those that the order waits for, only such as are answered "same" and remember no tone (ticks that come early, a
-- tone heard again), and bits that are asked for; once all have come, whatever comes
pub data InOrder : Session → List Due → List Act → Type 0 where
  all : {s : Session} {acts : List Act} → InOrder s [] acts
  waiting : {s : Session} {ds : List Due} {a : Act} {acts : List Act} → (next s a).answer ≡ same → (next s a).session.cadence.tone ≡ s.cadence.tone → InOrder (next s a).session ds acts → InOrder s ds (a ∷ acts)
  comes : {s : Session} {d : Due} {ds : List Due} {t : Timed} {acts : List Act} → t.event ≡ d.event → t.value ≡ d.value → IsInTime s d t.now ≡ true
      → InOrder (next s (happens t)).session (behind s d ds) acts → InOrder s (d ∷ ds) (happens t ∷ acts)

-- a session that is cleared is over at CJ; one with a choice pauses: "elapsed 75: over, go on as chosen or left"
abbrev pub last_tick : ℕ → List Due
last_tick choice = when (eqb choice 0) [] (due tick 0 75 ∷ [])

-- the caller: "elapsed 1,000: calling", "ANSam: quiet", "elapsed Te: menu (sends CM)", "agreed JM: closing (sends CJ)", "CJ sent: pause"
abbrev pub caller_order : ℕ → ℕ → List Due
caller_order te choice = due tick 0 1000 ∷ due ansam 0 0 ∷ due tick 0 te ∷ due agreed_jm choice 0 ∷ due cj_sent 0 0 ∷ last_tick choice

-- what ends joint: "CJ: pause", or in its place "sigC of the chosen item: pause"
pub data EndsJoint (choice : ℕ) : Due → Type 0 where
  by_cj : EndsJoint choice (due cj 0 0)
  by_sig_c : is_item choice ≡ true → EndsJoint choice (due sig_c choice 0)

-- the answerer: "elapsed 200: answering (sends ANSam)", "agreed CM: joint (sends JM)", and what ends joint
abbrev pub answerer_order : Due → ℕ → List Due
answerer_order last choice = due tick 0 200 ∷ due agreed_cm choice 0 ∷ last ∷ last_tick choice

-- a session that is over with this choice, or cleared where it is none
pub record EndsWith (choice : ℕ) (s : Session) : Type 0 where
  pub state : s.state ≡ over
  pub chosen : s.chosen ≡ choice
  pub ended : s.ended ≡ when (eqb choice 0) cleared goes_on

-- both ends, each with its start and what happens to it; "they clear exactly when no mode and no PCM pairing is shared"
pub record BothEndWith (choice : ℕ) (caller answerer : Record) (function on off callerStart te answererStart : ℕ) (callerActs answererActs : List Act) : Type 0 where
  pub calling : EndsWith choice (run (caller_from callerStart te (begun function on off)) callerActs)
  pub answering : EndsWith choice (run (answerer_from answererStart) answererActs)
  pub mode : (NothingShared caller answerer function → ⊥) → is_mode choice ≡ true
  pub clears : choice ≡ 0 → NothingShared caller answerer function
  pub cleared : NothingShared caller answerer function → choice ≡ 0
