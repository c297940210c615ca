-- docs/RANGES.md: what a session may hold; and how it starts.
use Rattle.std.specs.Prelude.{Result, Ok, Err, ℕ, Bool, true, not, ◌==◌, nat_le, nat_lt}
use Rattle.laws.specs.Logic.{when, both, either}
use Rattle.refusals.specs.declared.Refusal.{Refusal}
use Rattle.refusals.specs.Refusals.{number}
use Rattle.cadence.specs.declared.Cadence.{Cadence}
use Rattle.cadence.specs.Cadence.{is_function, is_cadence}
use Rattle.cadence.specs.Giving.{cadence_fits, no_cadence, is_none, begun}
use Rattle.steps.specs.declared.Session.{Session}
use Rattle.steps.specs.Table.{caller_still, closing, pause, answerer_still, answering, joint, over, going, left, not_offered, goes_on}

-- from low to high, both counted
abbrev pub between : ℕ → ℕ → ℕ → Bool
between low high n = both (nat_le low n) (nat_le n high)

-- "item not 1 to 12" is refused
abbrev pub is_item : ℕ → Bool
is_item value = between 1 12 value

-- "PCM options not 1 to 7" are refused: a choice holds them above 16, since no item is as high
abbrev pub is_pcm : ℕ → Bool
is_pcm value = between 17 23 value

-- what a session can go on with
abbrev pub is_mode : ℕ → Bool
is_mode value = either (is_item value) (is_pcm value)

-- "none, an item, or PCM options"; 0 is none
abbrev pub is_choice : ℕ → Bool
is_choice value = either (value == 0) (is_mode value)

-- "Te is 500 to 5,000, given at the start"
abbrev pub is_te : ℕ → Bool
is_te te = between 500 5000 te

-- document 02, Req 01: "Without a value, Te becomes 1,000."
abbrev pub default_te : ℕ
default_te = 1000

-- the two ends
abbrev pub caller : ℕ
caller = 1

abbrev pub answerer : ℕ
answerer = 2

-- Te is the caller's alone
abbrev pub end_fits : ℕ → ℕ → Bool
end_fits end te = when (end == caller) (is_te te) (both (end == answerer) (te == 0))

-- from low to high at the caller, and from least to most at the answerer
abbrev pub of_end : ℕ → ℕ → ℕ → ℕ → ℕ → ℕ → Bool
of_end end low high least most n = when (end == caller) (between low high n) (between least most n)

-- a state of this end; pause and over are both ends'
abbrev pub state_fits : ℕ → ℕ → Bool
state_fits end state = either (state == over) (of_end end caller_still pause pause joint state)

-- the states before a menu is agreed: caller still to menu, answerer still and answering
abbrev pub early : ℕ → Bool
early state = either (nat_lt state closing) (between answerer_still answering state)

-- nothing is chosen before a menu is agreed
abbrev pub choice_fits : ℕ → Bool → Bool
choice_fits state none = when (early state) none true

-- how it ended, once it is over; it goes on with a choice only
abbrev pub ended_fits : ℕ → Bool → ℕ → Bool
ended_fits state none ended = when (state == over) (when (ended == goes_on) (not none) (between left not_offered ended)) (ended == going)

-- before "Calling" nothing was sent, and no tone was heard
abbrev pub beginning : ℕ → ℕ → ℕ → Bool
beginning state sent tone = when (state == caller_still) (both (sent == 0) (tone == 0)) true

-- the cadence is the caller's alone
abbrev pub cadence_of : ℕ → ℕ → Cadence → Bool
cadence_of end state c = when (end == caller) (both (cadence_fits c) (beginning state c.sent c.tone)) (is_none c)

-- "session with a field outside its range" is refused with 10
unfoldable pub in_range : Session → Bool
in_range s =
    both (end_fits s.end s.te)
    (both (state_fits s.end s.state)
    (both (is_choice s.chosen)
    (both (choice_fits s.state (s.chosen == 0))
    (both (ended_fits s.state (s.chosen == 0) s.ended) (cadence_of s.end s.state s.cadence)))))

-- "The time of the start .. is the entry time."
abbrev pub caller_from : ℕ → ℕ → Cadence → Session
caller_from now te c = record { entry = now; te = te; cadence = c; end = caller; state = caller_still; chosen = 0; ended = going }

abbrev pub answerer_from : ℕ → Session
answerer_from now = record { entry = now; te = 0; cadence = no_cadence; end = answerer; state = answerer_still; chosen = 0; ended = going }

-- what a start gives: a session, or a refusal's number
pub data Start : Type 0 where
  ready : Session → Start
  refusal : ℕ → Start

abbrev pub says_started : Result Session Refusal → Start
says_started (Ok s) = ready s
says_started (Err r) = refusal (number r)

-- "Te out of range" is refused with 10, and so is a function that is none; document 02, Req 04: "16 cadence outside these numbers, at the start, after 10"
abbrev pub started_caller : ℕ → ℕ → ℕ → ℕ → ℕ → Start
started_caller now te function on off =
    when (both (is_te te) (is_function function)) (when (is_cadence on off) (ready (caller_from now te (begun function on off))) (refusal 16))
    (refusal 10)
