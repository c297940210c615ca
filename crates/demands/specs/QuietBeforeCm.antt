-- Document 02, Req 01: how long a caller is quiet before CM, by the Te that it was started with and whatever came in between.
use Rattle.std.specs.Prelude.{ℕ, ◌<◌, ◌≤◌, ◌+◌, ◌%◌, ◌^◌, ◌≡◌, List, [], ◌∷◌, ◌⊎◌, length}
use Rattle.cadence.specs.declared.Cadence.{Cadence}
use Rattle.cadence.specs.Giving.{begun}
use Rattle.steps.specs.declared.Session.{Session}
use Rattle.steps.specs.Table.{quiet, menu, ansam, tick}
use Rattle.steps.specs.Session.{default_te, caller_from, ready, refusal, started_caller}
use Rattle.steps.specs.Stepping.{refused_step, stepped}
use Rattle.steps.specs.Runs.{Act, happens, asks, run}
use Rattle.demands.specs.Worked.{quiet_from}
use Rattle.demands.specs.TableLines.{enters, stays}

-- so many milliseconds behind a time, by "a free-running 32-bit count of milliseconds that wraps"
abbrev pub later : ℕ → ℕ → ℕ
later passed time = (passed + time) % 2 ^ 32

-- a tick so many milliseconds behind the entry of quiet, its answer and the whole session: sooner than Te it stays, then "menu (sends CM)", and
-- "2^31 or more is refusal 8"
pub record EachTick (te : ℕ) (s : Session) (passed value : ℕ) : Type 0 where
  pub waits : passed < te → stepped s tick value (later passed s.entry) ≡ stays s
  pub ends : te ≤ passed → passed < 2 ^ 31 → stepped s tick value (later passed s.entry) ≡ enters s menu 0 (later passed s.entry)
  pub refuses : 2 ^ 31 ≤ passed → passed < 2 ^ 32 → stepped s tick value (later passed s.entry) ≡ refused_step 8 s

-- a tick, ANSam, bits that are asked for, and a tick behind them
abbrev pub finishes_ci : ℕ → ℕ → List ℕ → ℕ → List Act
finishes_ci ticked heard out finished =
    happens (record { event = tick; value = 0; now = ticked })
    ∷ happens (record { event = ansam; value = 0; now = heard })
    ∷ asks out
    ∷ happens (record { event = tick; value = 0; now = finished })
    ∷ []

-- the cadence behind three sequences and ANSam
abbrev pub behind_three : ℕ → ℕ → ℕ → Cadence
behind_three function on off = record { off = off; place = 90; on = on; function = function; sent = 90; tone = ansam }

-- a caller that was started at this time, and how long it is quiet
pub record IsQuietFor (te start function on off : ℕ) (started : Session) : Type 0 where
  -- it gets there: "elapsed 1,000: calling", "ANSam: quiet"; document 02, Req 04: "if fewer than three were sent since the call began, the third is", and quiet
  -- begins "with the first tick after the last such bit"
  pub reaches : (waited more finished : ℕ) (out : List ℕ) → start < 2 ^ 32 → 1000 ≤ waited → waited < 2 ^ 31 → more < 2 ^ 31 → finished < 2 ^ 31 → 90 ≤ length out
      → let ticked = later waited start in run started (finishes_ci ticked (later more ticked) out (later finished ticked)) ≡ quiet_from te (later finished ticked) (behind_three function on off)
  -- whatever leads there, it is the same quiet but for its cadence, and every tick in it is as laid down
  pub is_quiet : (acts : List Act) → (run started acts).state ≡ quiet → run started acts ≡ quiet_from te (run started acts).entry (run started acts).cadence
  pub lasts : (acts : List Act) → (run started acts).state ≡ quiet → (run started acts).entry < 2 ^ 32 → (passed value : ℕ) → EachTick te (run started acts) passed value

pub record QuietGoesByTheStart (start function on off : ℕ) : Type 0 where
  -- "Without a value, Te becomes 1,000."
  pub without_value : IsQuietFor 1000 start function on off (caller_from start default_te (begun function on off))
  -- "Te is 500 to 5,000, given at the start": "they give 500 by name", and are not refused
  pub given : (te : ℕ) → 500 ≤ te → te ≤ 5000
      → (started_caller start te function on off ≡ ready (caller_from start te (begun function on off))) × IsQuietFor te start function on off (caller_from start te (begun function on off))
  -- "Te out of range" is refused with 10
  pub outside : (te : ℕ) → (te < 500) ⊎ (5000 < te) → started_caller start te function on off ≡ refusal 10
