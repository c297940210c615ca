-- Document 01, 'Steps': the table, and the numbers that stand for states, endings, events and what a row asks for.
use Rattle.std.specs.Prelude.{ℕ, Bool, eqb, List, [], ◌∷◌}
use Rattle.steps.specs.declared.Row.{Row}
use Rattle.steps.specs.declared.Condition.{Condition}
use Rattle.steps.specs.declared.Condition.TheVariants.{Always, TeElapsed, NoneChosen, JmRefused, ChosenItem, NothingLeft, NoTone, BehindAnsam, BehindAns}

-- the states of both ends, by their line in the table; a session that is over stands below them
abbrev pub caller_still : ℕ
caller_still = 1

abbrev pub calling : ℕ
calling = 2

abbrev pub quiet : ℕ
quiet = 3

abbrev pub menu : ℕ
menu = 4

abbrev pub closing : ℕ
closing = 5

abbrev pub pause : ℕ
pause = 6

abbrev pub answerer_still : ℕ
answerer_still = 7

abbrev pub answering : ℕ
answering = 8

abbrev pub joint : ℕ
joint = 9

abbrev pub over : ℕ
over = 10

-- how a session ended: not yet, or "left", "late", "cleared", "not offered", "go on"
abbrev pub going : ℕ
going = 0

abbrev pub left : ℕ
left = 1

abbrev pub late : ℕ
late = 2

abbrev pub cleared : ℕ
cleared = 3

abbrev pub not_offered : ℕ
not_offered = 4

abbrev pub goes_on : ℕ
goes_on = 5

-- "The caller's events are ANSam, ANS, sigA, agreed JM and CJ sent; the answerer's are agreed CM, sigC and CJ; the tick is for both."
abbrev pub ansam : ℕ
ansam = 1

abbrev pub ans : ℕ
ans = 2

abbrev pub sig_a : ℕ
sig_a = 3

abbrev pub agreed_jm : ℕ
agreed_jm = 4

abbrev pub cj_sent : ℕ
cj_sent = 5

abbrev pub agreed_cm : ℕ
agreed_cm = 6

abbrev pub sig_c : ℕ
sig_c = 7

abbrev pub cj : ℕ
cj = 8

abbrev pub tick : ℕ
tick = 9

-- what a row asks for besides its state, its event and elapsed time, counted from 0. Document 02, Req 04: "nothing is left to send", and no tone
-- was heard yet (`NothingLeft`); no tone was heard yet; ANSam or ANS was, and nothing is left
abbrev pub condition_number : Condition → ℕ
condition_number Always = 0
condition_number TeElapsed = 1
condition_number NoneChosen = 2
condition_number JmRefused = 3
condition_number ChosenItem = 4
condition_number NothingLeft = 5
condition_number NoTone = 6
condition_number BehindAnsam = 7
condition_number BehindAns = 8

-- whether one condition is another
abbrev pub same_condition : Condition → Condition → Bool
same_condition a b = eqb (condition_number a) (condition_number b)

-- a line's state, its event, the milliseconds elapsed, what else it asks for, the next state, and how the session ended
abbrev row : ℕ → ℕ → ℕ → Condition → ℕ → ℕ → Row
row state event least condition next ended = record { to = record { 0 = next; 1 = ended }; state = state; event = event; least = least; condition = condition }

-- "One constant table, by state and event, is the rule."; the first row that applies counts
unfoldable pub rows : List Row
rows =
    -- "elapsed 1,000: calling"
    row caller_still tick 1000 Always calling going
    -- "ANSam: quiet. ANS or sigA: over, left"; document 02, Req 04: "with that event if nothing is left to send, else with the first tick after the
    -- last such bit". A row that leads to its own state remembers the tone
    ∷ row calling ansam 0 NothingLeft quiet going
    ∷ row calling ansam 0 NoTone calling going
    ∷ row calling ans 0 NothingLeft over left
    ∷ row calling ans 0 NoTone calling going
    ∷ row calling tick 0 BehindAnsam quiet going
    ∷ row calling tick 0 BehindAns over left
    ∷ row calling sig_a 0 Always over left
    -- "elapsed Te: menu (sends CM)"
    ∷ row quiet tick 0 TeElapsed menu going
    -- "agreed JM: closing (sends CJ); where the choice is refused with 11: over, not offered. Elapsed 10,000 (house): over, late"
    ∷ row menu agreed_jm 0 JmRefused over not_offered
    ∷ row menu agreed_jm 0 Always closing going
    ∷ row menu tick 10000 Always over late
    -- "CJ sent: pause; choice none: over, cleared"
    ∷ row closing cj_sent 0 NoneChosen over cleared
    ∷ row closing cj_sent 0 Always pause going
    -- "elapsed 75: over, go on as chosen or left"
    ∷ row pause tick 75 Always over goes_on
    -- "elapsed 200: answering (sends ANSam)"
    ∷ row answerer_still tick 200 Always answering going
    -- "agreed CM: joint (sends JM). sigC, or elapsed 5,000: pause, then left"
    ∷ row answering agreed_cm 0 Always joint going
    ∷ row answering sig_c 0 Always pause going
    ∷ row answering tick 5000 Always pause going
    -- "CJ: pause, choice none: over, cleared. sigC of the chosen item: pause. Elapsed 10,000 (house): over, late"
    ∷ row joint cj 0 NoneChosen over cleared
    ∷ row joint cj 0 Always pause going
    ∷ row joint sig_c 0 ChosenItem pause going
    ∷ row joint tick 10000 Always over late
    ∷ []
