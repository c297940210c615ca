-- The plans that texts say: what reading gives, and what the plain form gives back.
use Rattle.std.specs.Prelude.{◌≡◌, ℕ, ◌%◌, ◌<◌, ◌≤◌, true, false, ◌⊎◌, List, [], ◌++◌, length, replicate, Ok, ◌≢◌, nat_le, nat_lt}
use Rattle.laws.specs.Tests.{every}
use Rattle.names.specs.Bytes.{bytes}
use Rattle.records.specs.Record.{bad_record}
use Rattle.cadence.specs.Cadence.{is_cadence}
use Rattle.steps.specs.Session.{is_te}
use Rattle.plans.specs.declared.Plan.{Plan}
use Rattle.plans.specs.Reading.{home, stranger, set_at, is_answer, record_of, read_text, marked, blocks_in, cm_in}
use Rattle.plans.specs.Plain.{octets_text, damage_text, head_text, te_text, cadence_text, answers_text, plain}

-- an end whose record is accepted: sets of sixteen numbers; nothing is said of a function that it has not; the home function is one of six; it wants
-- and is no more than there is
pub record GoodEnd (plan : Plan) (end : ℕ) : Type 0 where
  pub accepted : bad_record (record_of plan end) ≡ false
  pub sets : (f : ℕ) → f ≤ 6 → set_at plan end f < 65536
  pub nothing_else : (f : ℕ) → 1 ≤ f → f ≤ 6 → (set_at plan end f % 2 ≡ 1) ⊎ (set_at plan end f ≡ 0)
  pub home_function : set_at plan end home ≤ 6
  pub said : set_at plan end 0 ≤ 15

-- a caller whose record is known, with a function that it has
pub record KnownCaller (plan : Plan) : Type 0 where
  pub caller : GoodEnd plan 1
  pub function : (1 ≤ plan.function) × (plan.function ≤ 6)
  pub called : set_at plan 1 plan.function % 2 ≡ 1

-- a caller of which nothing is said but its CM
pub record Stranger (plan : Plan) : Type 0 where
  pub unknown : plan.function ≡ stranger
  pub nothing_said : (k : ℕ) → k < 8 → set_at plan 1 k ≡ 0

-- a call that can be made: a caller and an answerer, Te within its range, a cadence that a caller starts with, and an answer in time
pub record Good (plan : Plan) : Type 0 where
  pub sixteen : length plan.sets ≡ 16
  pub caller : KnownCaller plan ⊎ Stranger plan
  pub answerer : GoodEnd plan 2
  pub te : is_te plan.te ≡ true
  pub cadence : is_cadence plan.on plan.off ≡ true
  pub answers : is_answer plan.answers ≡ true

-- 1 for each damaged bit of both ends, 0 for every other
pub record Marks (damaged : List ℕ) : Type 0 where
  pub both_ends : length damaged ≡ 18000
  pub bits : every (λ (b : ℕ). nat_le b 1) damaged ≡ true

-- numbers that are octets
abbrev pub Octets : List ℕ → Type 0
Octets list = every (λ (b : ℕ). nat_lt b 256) list ≡ true

-- the CM that is given with a plan: octets, of a stranger at least one, and of a caller that is known none
pub record Given (plan : Plan) (cm : List ℕ) : Type 0 where
  pub octets : Octets cm
  pub some : plan.function ≡ stranger → 0 < length cm
  pub none : (plan.function ≢ stranger) → cm ≡ []

-- a text that is no mistake is a call that can be made, with the CM of a stranger where one calls
abbrev pub PlansAreGood : Type 0
PlansAreGood = (text : List ℕ) (plan : Plan) → read_text text ≡ Ok plan → Good plan × Given plan (cm_in text)

-- what a text gives as blocks are octets
abbrev pub BlocksAreOctets : Type 0
BlocksAreOctets = (text : List ℕ) → Octets (blocks_in text)

-- a text that is read as this call with this CM, these blocks and these bits damaged
abbrev pub IsReadAs : Plan → List ℕ → List ℕ → List ℕ → List ℕ → Type 0
IsReadAs plan cm blocks damaged text =
    (read_text text ≡ Ok plan) × (cm_in text ≡ cm) × (blocks_in text ≡ blocks) × (marked text (replicate 18000 0) ≡ damaged)

-- the plain form of a call that can be made is read as that call, with the same CM, the same blocks and the same bits damaged
abbrev pub PlainReadsBack : Type 0
PlainReadsBack =
    (plan : Plan) (cm blocks damaged : List ℕ) → Good plan → Given plan cm → Octets blocks → Marks damaged
    → IsReadAs plan cm blocks damaged (plain plan cm blocks damaged)

-- the plain form without its line for Te
abbrev pub without_te : Plan → List ℕ → List ℕ → List ℕ → List ℕ
without_te plan cm blocks damaged =
    head_text plan cm ++ cadence_text plan.on plan.off ++ answers_text plan.answers ++ octets_text (bytes "\nblocks   ") 0 blocks ++ damage_text damaged ++ bytes "\n"

-- document 02, Req 01: "Without a value, Te becomes 1,000.": a text that says all of a call but Te is read as that call with a Te of 1,000
abbrev pub TeIsTheDefault : Type 0
TeIsTheDefault =
    (plan : Plan) (cm blocks damaged : List ℕ) → Good plan → Given plan cm → Octets blocks → Marks damaged → plan.te ≡ 1000
    → IsReadAs plan cm blocks damaged (without_te plan cm blocks damaged)

-- the plain form without its line for the cadence
abbrev pub without_cadence : Plan → List ℕ → List ℕ → List ℕ → List ℕ
without_cadence plan cm blocks damaged =
    head_text plan cm ++ te_text plan.te ++ answers_text plan.answers ++ octets_text (bytes "\nblocks   ") 0 blocks ++ damage_text damaged ++ bytes "\n"

-- a text that says all of a call but the cadence is read as that call with five sequences on and 450 bit times off
abbrev pub CadenceIsTheDefault : Type 0
CadenceIsTheDefault =
    (plan : Plan) (cm blocks damaged : List ℕ) → Good plan → Given plan cm → Octets blocks → Marks damaged → plan.on ≡ 5 → plan.off ≡ 450
    → IsReadAs plan cm blocks damaged (without_cadence plan cm blocks damaged)

-- the plain form without its line for the answer
abbrev pub without_answer : Plan → List ℕ → List ℕ → List ℕ → List ℕ
without_answer plan cm blocks damaged =
    head_text plan cm ++ te_text plan.te ++ cadence_text plan.on plan.off ++ octets_text (bytes "\nblocks   ") 0 blocks ++ damage_text damaged ++ bytes "\n"

-- a text that says all of a call but when it is answered is read as that call with ANSam from 200 ms on
abbrev pub AnswerIsTheDefault : Type 0
AnswerIsTheDefault =
    (plan : Plan) (cm blocks damaged : List ℕ) → Good plan → Given plan cm → Octets blocks → Marks damaged → plan.answers ≡ 200
    → IsReadAs plan cm blocks damaged (without_answer plan cm blocks damaged)

-- what any text says that is this plan, in plain form
abbrev pub plain_of : Plan → List ℕ → List ℕ
plain_of plan text = plain plan (cm_in text) (blocks_in text) (marked text (replicate 18000 0))

-- so what any text says is said again by the plain form of it
abbrev pub ReadsAgain : Type 0
ReadsAgain =
    (text : List ℕ) (plan : Plan) → read_text text ≡ Ok plan
    → (read_text (plain_of plan text) ≡ Ok plan) × (cm_in (plain_of plan text) ≡ cm_in text) × (blocks_in (plain_of plan text) ≡ blocks_in text)
    × (marked (plain_of plan text) (replicate 18000 0) ≡ marked text (replicate 18000 0))
