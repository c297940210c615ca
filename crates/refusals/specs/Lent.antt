-- Document 01, 'Bits on the line' and 'Refusal numbers': what a call that writes answers, and what it leaves in the lent buffer.
use Rattle.std.specs.Prelude.{ℕ, ◌≡◌, Result, Ok, Err, List, ltb, eqb, length}
use Rattle.laws.specs.Logic.{when}
use Rattle.laws.specs.Front.{front}
use Rattle.refusals.specs.declared.Refusal.{Refusal}
use Rattle.refusals.specs.Refusals.{number}

-- "answers the number of bits written", or "A refusal carries its number alone."
pub data Said : Type 0 where
  count : ℕ → Said
  refusal : ℕ → Said

-- what an answer says on paper
abbrev pub says_wrote : Result ℕ Refusal → Said
says_wrote (Ok n) = count n
says_wrote (Err r) = refusal (number r)

-- what a call leaves: its answer, and the lent buffer
pub record WriteOutcome : Type 0 where
  pub answer : Said
  pub buffer : List ℕ

-- refusal 6, "lent buffer too short", or 0
abbrev pub room_fault : List ℕ → List ℕ → ℕ
room_fault new out = when (ltb (length out) (length new)) 6 0

-- where nothing is refused it stands at the front, "Later bytes keep their values."; on a refusal "Buffers .. keep their values."
unfoldable pub put : ℕ → List ℕ → List ℕ → WriteOutcome
put f new out =
    when (eqb f 0) (record { answer = count (length new); buffer = front new out })
    (record { answer = refusal f; buffer = out })

-- a result that is as laid down
pub record Meets (laid : WriteOutcome) (r : Result ℕ Refusal) (after : List ℕ) : Type 0 where
  pub answer : says_wrote r ≡ laid.answer
  pub buffer : after ≡ laid.buffer
