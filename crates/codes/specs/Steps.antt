-- Steps, as the numbers that cross to C.
use Rattle.std.specs.Prelude.{ℕ, ◌+◌, ltb, eqb, ℤ, pos, negsuc, neg_ℤ}
use Rattle.laws.specs.Logic.{when}
use Rattle.refusals.specs.Lent.{Said, count}
use Rattle.refusals.specs.Lent as lent
use Rattle.cadence.specs.Giving.{no_cadence}
use Rattle.steps.specs.declared.Session.{Session}
use Rattle.steps.specs.Session.{Start, ready}
use Rattle.steps.specs.Session as starting
use Rattle.steps.specs.Stepping.{Answered, same, entered, ended, go_on, refusal, refused_with_11}

-- what stands beside a refusal: no number of it is in range
abbrev pub no_session : Session
no_session = record { entry = 0; te = 0; cadence = no_cadence; end = 0; state = 0; chosen = 0; ended = 0 }

-- 0 with the session, or a refusal n as -n
abbrev pub start_code : Start → ℤ
start_code (ready s) = pos 0
start_code (starting.refusal n) = neg_ℤ (pos n)

abbrev pub start_session : Start → Session
start_session (ready s) = s
start_session (starting.refusal n) = no_session

-- 0 for "same", the state entered, 16 and how the session ended, 32 and the choice to go on with, or a refusal n as -n
abbrev pub step_code : Answered → ℤ
step_code same = pos 0
step_code (entered state) = pos state
step_code (ended how) = pos (16 + how)
step_code (go_on choice) = pos (32 + choice)
step_code (refusal n) = neg_ℤ (pos n)

-- 0 with how many bits came, or a refusal n as -n and none
abbrev pub draw_code : Said → ℤ
draw_code (count n) = pos 0
draw_code (lent.refusal n) = neg_ℤ (pos n)

abbrev pub draw_count : Said → ℕ
draw_count (count n) = n
draw_count (lent.refusal n) = 0

-- a number that no event may carry
abbrev pub nothing_carried : ℕ
nothing_carried = 255

-- what an event carries: a choice as `choice_code` gives it, -11 where it was refused with 11; any other number is carried by no event
abbrev pub carried_of : ℤ → ℕ
carried_of (pos n) = when (ltb n refused_with_11) n nothing_carried
carried_of (negsuc n) = when (eqb n 10) refused_with_11 nothing_carried
