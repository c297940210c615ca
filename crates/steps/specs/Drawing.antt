-- Document 02, Req 04: "Calling now gives out a cadence": what is given to a host that asks for bits, and what that leaves.
use Rattle.std.specs.Prelude.{◌≡◌, ℕ, List, ◌==◌}
use Rattle.laws.specs.Logic.{when}
use Rattle.refusals.specs.Lent.{Said, count, refusal, says_wrote}
use Rattle.cadence.specs.Giving.{GiveOutcome, given}
use Rattle.steps.specs.declared.Session.{Session}
use Rattle.steps.specs.declared.Drawn.{Drawn}
use Rattle.steps.specs.Table.{calling}
use Rattle.steps.specs.Session.{in_range}
use Rattle.steps.specs.Stepping.{with_cadence}

-- what asking leaves: the answer, the lent buffer, and the session
pub record DrawOutcome : Type 0 where
  pub answer : Said
  pub buffer : List ℕ
  pub session : Session

-- the next bits of the session's cadence
abbrev pub drawing : Session → GiveOutcome → DrawOutcome
drawing s g = record { answer = g.answer; buffer = g.buffer; session = with_cadence s g.cadence }

-- nothing is written, and the session stays
abbrev pub undrawn : Said → Session → List ℕ → DrawOutcome
undrawn said s out = record { answer = said; buffer = out; session = s }

-- bits come in calling alone; "10 for a lent .. session comes before all of these"
unfoldable pub drawn : Session → List ℕ → DrawOutcome
drawn s out =
    when (in_range s) (when (s.state == calling) (drawing s (given s.cadence out)) (undrawn (count 0) s out))
    (undrawn (refusal 10) s out)

-- an answer that is as laid down
pub record Draws (laid : DrawOutcome) (r : Drawn) (after : List ℕ) : Type 0 where
  pub answer : says_wrote r.answer ≡ laid.answer
  pub buffer : after ≡ laid.buffer
  pub session : r.session ≡ laid.session
