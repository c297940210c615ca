-- The whole call from two records: the bits that each end gives out or writes, what the other end hears in them from fresh, and the sessions that this
-- leads to. So the menus that the whole call takes as heard are those that the bits bring.
use Rattle.std.specs.Prelude.{ℕ, ◌≤◌, ◌≡◌, Bool, true, false, List, [], ◌∷◌, ◌++◌, eqb, take, replicate}
use Rattle.laws.specs.Logic.{when}
use Rattle.octets.specs.declared.Kind.TheVariants.{Ci, Menu}
use Rattle.octets.specs.Octets.{call_function_tag, category_octet}
use Rattle.sequences.specs.Line.{ten_ones}
use Rattle.sequences.specs.Writing.{written}
use Rattle.refusals.specs.Lent.{count, WriteOutcome}
use Rattle.listening.specs.Record.{fresh}
use Rattle.stretches.specs.Hearing.{Report, message, message_of, cj, refusal, reports, repeated}
use Rattle.records.specs.declared.Record.{Record}
use Rattle.offers.specs.Making.{made_cm, made_jm}
use Rattle.cadence.specs.Cadence.{silence}
use Rattle.cadence.specs.Giving.{begun}
use Rattle.steps.specs.Table.{menu}
use Rattle.steps.specs.Session.{caller_from, answerer_from}
use Rattle.steps.specs.Runs.{Act, run, given_out}
use Rattle.choices.specs.Choosing.{choice_of}
use Rattle.demands.specs.WholeCall.{carried, Due, InOrder, caller_order, EndsJoint, answerer_order, BothEndWith}

-- a menu that an end made, as octets
pub record Makes (made : WriteOutcome) (octets : List ℕ) : Type 0 where
  pub size : ℕ
  pub told : made.answer ≡ count size
  pub stands : take size made.buffer ≡ octets

-- what it sends of them: two copies or more, with ten 1s behind them
pub record Sends (octets bits : List ℕ) : Type 0 where
  pub copies : ℕ
  pub two : 2 ≤ copies
  pub lent : List ℕ
  pub size : ℕ
  pub told : (written Menu octets copies lent).answer ≡ count size
  pub stands : take size (written Menu octets copies lent).buffer ++ ten_ones ≡ bits

-- what the other end hears: the first agreed menu among its reports, whatever they are, has these octets
abbrev pub is_agreed : Report → Bool
is_agreed (message kind octets flag span) = flag
is_agreed cj = false
is_agreed (refusal n) = false

pub data Agreed (octets : List ℕ) : List Report → Type 0 where
  here : {span : ℕ} {later : List Report} → Agreed octets (message Menu octets true span ∷ later)
  later : {other : Report} {rest : List Report} → is_agreed other ≡ false → Agreed octets rest → Agreed octets (other ∷ rest)

-- what goes over the line of what is given out: silence is no bit, and is not handed to a listener
unfoldable pub sounding : List ℕ → List ℕ
sounding [] = []
sounding (b ∷ bits) = when (eqb b silence) (sounding bits) (b ∷ sounding bits)

-- a caller that sends CI until it is answered: whatever happens and is asked for before it sends CM, in menu
pub record Calls (function on off callerStart te : ℕ) : Type 0 where
  pub acts : List Act
  pub sends_cm : (run (caller_from callerStart te (begun function on off)) acts).state ≡ menu

abbrev pub ci_bits : (function on off callerStart te : ℕ) → Calls function on off callerStart te → List ℕ
ci_bits function on off callerStart te calls = sounding (given_out (caller_from callerStart te (begun function on off)) calls.acts)

-- a call: the caller gives out CI, makes CM, with the octets of its own blocks, and sends it; the answerer, which heard that CI since it was fresh,
-- agrees a CM, makes JM for it and sends it; the caller agrees a JM
pub record Exchange (caller answerer : Record) (function : ℕ) (blocks : List ℕ) (ci : List ℕ) : Type 0 where
  pub cm_lent : List ℕ
  pub cm : List ℕ
  pub makes_cm : Makes (made_cm caller function blocks cm_lent) cm
  pub cm_bits : List ℕ
  pub sends_cm : Sends cm cm_bits
  pub heard_cm : List ℕ
  pub agreed_cm : Agreed heard_cm (reports fresh (ci ++ cm_bits))
  pub jm_lent : List ℕ
  pub jm : List ℕ
  pub makes_jm : Makes (made_jm answerer heard_cm jm_lent) jm
  pub jm_bits : List ℕ
  pub sends_jm : Sends jm jm_bits
  pub heard_jm : List ℕ
  pub agreed_jm : Agreed heard_jm (reports fresh jm_bits)

-- what the answerer is told: CI, three times or more, the last at CM's tenth 1; then CM, agreed from its second copy on
pub record HearsCiThenCm (function : ℕ) (cm ci cm_bits : List ℕ) (copies : ℕ) : Type 0 where
  pub sequences : ℕ
  pub three : 3 ≤ sequences
  pub all : reports fresh (ci ++ cm_bits) ≡ replicate sequences (message_of Ci (category_octet call_function_tag function ∷ []) false) ++ repeated Menu cm copies

-- "Where both menus arrive as they were sent": they do, and each end hands over the choice from what it sent and what it heard
pub record ExchangeEnds (caller answerer : Record) (function on off callerStart te : ℕ) (blocks : List ℕ) (calls : Calls function on off callerStart te)
    (e : Exchange caller answerer function blocks (ci_bits function on off callerStart te calls)) : Type 0 where
  pub heard : HearsCiThenCm function e.cm (ci_bits function on off callerStart te calls) e.cm_bits e.sends_cm.copies
  pub cm_arrives : e.heard_cm ≡ e.cm
  pub jm_arrives : e.heard_jm ≡ e.jm
  pub ends : (answererStart : ℕ) (callerActs answererActs : List Act) (last : Due)
      → InOrder (caller_from callerStart te (begun function on off)) (caller_order te (carried (choice_of e.cm e.heard_jm))) callerActs
      → EndsJoint (carried (choice_of e.heard_cm e.jm)) last
      → InOrder (answerer_from answererStart) (answerer_order last (carried (choice_of e.heard_cm e.jm))) answererActs
      → BothEndWith (carried (choice_of e.cm e.heard_jm)) caller answerer function on off callerStart te answererStart callerActs answererActs
