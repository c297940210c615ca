-- The numbers that cross to C: those that `include/tailsprig.h` lists for a choice, a step and a bit are all that come, each tells what it
-- stands for, and a choice that a host hands to the step as its number arrives there.
use Rattle.std.specs.Prelude.{ℕ, suc, ◌+◌, ◌%◌, ◌≡◌, Bool, true, List, [], ◌∷◌, eqb, leb, ℤ, pos, negsuc}
use Rattle.laws.specs.Logic.{when, both, either}
use Rattle.choices.specs.Choosing.{Chosen, none, item, pcm, refusal, choice_of}
use Rattle.listening.specs.declared.Listener.{Listener}
use Rattle.listening.specs.Hearing.{heard_bit, heard_bits}
use Rattle.listening.specs.Spans.{last_span}
use Rattle.steps.specs.declared.Session.{Session}
use Rattle.steps.specs.Table.{over, agreed_jm, agreed_cm}
use Rattle.steps.specs.Session.{between, is_choice, in_range}
use Rattle.steps.specs.Stepping.{refused_with_11, refused_step, stepped}
use Rattle.refusals.specs.Lent.{count}
use Rattle.menus.specs.Groups.{looked}
use Rattle.menus.specs.Asking.{answer, asked}
use Rattle.fields.specs.Field.{field_read}
use Rattle.records.specs.declared.Record.{Record}
use Rattle.offers.specs.Making.{made_cm, made_jm}
use Rattle.codes.specs.Reading.{looked_code, asked_code, asked_count}
use Rattle.codes.specs.Choosing.{choice_code}
use Rattle.codes.specs.Steps.{nothing_carried, step_code}
use Rattle.codes.specs.Hearing.{told_code, told_span, span_code}
use Rattle.demands.specs.Refusals.{one_of}
use Rattle.demands.specs.WholeCall.{carried}

-- `tailsprig_choice`: 0 for none, 1 to 12 for an item, 17 to 23 for PCM options; refusals 4, 5 and 3 of a menu, and 11
abbrev pub choice_number : ℤ → Bool
choice_number (pos n) = is_choice n
choice_number (negsuc n) = one_of (3 ∷ 4 ∷ 5 ∷ 11 ∷ []) (suc n)

-- `tailsprig_step`: 0 for "same", 1 to 9 for the state entered, 17 to 20 for left, late, cleared or not offered, and of 33 to 55 those that
-- are 32 and a choice; refusals 10, 7, 9 and 8
abbrev pub step_number : ℤ → Bool
step_number (pos n) = either (leb n 9) (either (between 17 20 n) (either (between 33 44 n) (between 49 55 n)))
step_number (negsuc n) = one_of (7 ∷ 8 ∷ 9 ∷ 10 ∷ []) (suc n)

-- `tailsprig_hear` and `tailsprig_hear_many`: 0 to 4 for nothing, CI, a menu, an agreed menu, CJ; refusals 10, 1, 2, 3, 4 and 13
abbrev pub heard_number : ℤ → Bool
heard_number (pos n) = leb n 4
heard_number (negsuc n) = one_of (1 ∷ 2 ∷ 3 ∷ 4 ∷ 10 ∷ 13 ∷ []) (suc n)

-- `tailsprig_last_span`: 0 where no message was reported, a multiple of ten from 20 to 660 for a span; refusal 10
abbrev pub span_number : ℤ → Bool
span_number (pos n) = either (eqb n 0) (both (between 20 660 n) (eqb (n % 10) 0))
span_number (negsuc n) = one_of (10 ∷ []) (suc n)

-- `tailsprig_find`: 0 to 63 for a place, 64 for nowhere; refusals 4, 5 and 3
abbrev pub place_number : ℤ → Bool
place_number (pos n) = leb n 64
place_number (negsuc n) = one_of (3 ∷ 4 ∷ 5 ∷ []) (suc n)

-- `tailsprig_asks`: 1 where the item is offered, 0 where it is not; refusals 9, 4, 5 and 3
abbrev pub asked_number : ℤ → Bool
asked_number (pos n) = leb n 1
asked_number (negsuc n) = one_of (3 ∷ 4 ∷ 5 ∷ 9 ∷ []) (suc n)

-- no other numbers come, and no two answers share one
pub record NumbersAreToldApart : Type 0 where
  pub choices : (cm jm : List ℕ) → choice_number (choice_code (choice_of cm jm)) ≡ true
  pub choices_apart : (cm jm cm' jm' : List ℕ) → choice_code (choice_of cm jm) ≡ choice_code (choice_of cm' jm') → choice_of cm jm ≡ choice_of cm' jm'
  pub steps : (s : Session) (event value now : ℕ) → step_number (step_code (stepped s event value now).answer) ≡ true
  pub steps_apart : (s s' : Session) (event event' value value' now now' : ℕ) → step_code (stepped s event value now).answer ≡ step_code (stepped s' event' value' now').answer
      → (stepped s event value now).answer ≡ (stepped s' event' value' now').answer
  pub reports : (rec : Listener) (bit : ℕ) → heard_number (told_code (heard_bit rec bit).report) ≡ true
  -- but for the span of a message, which is a number of its own
  pub reports_apart : (rec rec' : Listener) (bit bit' : ℕ) → told_code (heard_bit rec bit).report ≡ told_code (heard_bit rec' bit').report → told_span (heard_bit rec bit).report ≡ told_span (heard_bit rec' bit').report
      → (heard_bit rec bit).report ≡ (heard_bit rec' bit').report
  pub many_reports : (rec : Listener) (bits : List ℕ) → heard_number (told_code (heard_bits rec bits).report) ≡ true
  pub many_reports_apart : (rec rec' : Listener) (bits bits' : List ℕ) → told_code (heard_bits rec bits).report ≡ told_code (heard_bits rec' bits').report
      → told_span (heard_bits rec bits).report ≡ told_span (heard_bits rec' bits').report → (heard_bits rec bits).report ≡ (heard_bits rec' bits').report
  pub spans : (rec : Listener) → span_number (span_code (last_span rec)) ≡ true
  pub spans_apart : (rec rec' : Listener) → span_code (last_span rec) ≡ span_code (last_span rec') → last_span rec ≡ last_span rec'
  pub places : (octets : List ℕ) (t : ℕ) → place_number (looked_code (looked octets t)) ≡ true
  pub places_apart : (octets octets' : List ℕ) (t t' : ℕ) → looked_code (looked octets t) ≡ looked_code (looked octets' t') → looked octets t ≡ looked octets' t'
  pub asks : (octets : List ℕ) (item : ℕ) → asked_number (asked_code (asked octets item)) ≡ true
  -- but for the octets looked at, which are a number of their own, 1 to 64
  pub asks_apart : (octets octets' : List ℕ) (item item' : ℕ) → asked_code (asked octets item) ≡ asked_code (asked octets' item') → asked_count (asked octets item) ≡ asked_count (asked octets' item')
      → asked octets item ≡ asked octets' item'
  pub looked : (octets : List ℕ) (item : ℕ) (offered : Bool) (n : ℕ) → asked octets item ≡ answer offered n → between 1 64 n ≡ true
  -- and both are told as they are
  pub told : (octets : List ℕ) (item : ℕ) (offered : Bool) (n : ℕ) → asked octets item ≡ answer offered n → (asked_code (asked octets item) ≡ pos (when offered 1 0)) × (asked_count (asked octets item) ≡ n)
  -- `tailsprig_cm`: 4 to 64 octets, and 4 to 7 without blocks; `tailsprig_jm`: 1 to 64; `tailsprig_fields`: 0 to 38
  pub cm_size : (own : Record) (function : ℕ) (blocks out : List ℕ) (size : ℕ) → (made_cm own function blocks out).answer ≡ count size → between 4 64 size ≡ true
  pub cm_alone : (own : Record) (function : ℕ) (out : List ℕ) (size : ℕ) → (made_cm own function [] out).answer ≡ count size → between 4 7 size ≡ true
  pub field_size : (heard out : List ℕ) (size : ℕ) → (field_read heard out).answer ≡ count size → between 0 38 size ≡ true
  pub jm_size : (own : Record) (heard out : List ℕ) (size : ℕ) → (made_jm own heard out).answer ≡ count size → between 1 64 size ≡ true

-- "Agreed CM and agreed JM carry the choice: none, an item, or PCM options, for JM also 'refused with 11'."
abbrev pub as_chosen : Chosen → ℕ
as_chosen none = 0
as_chosen (item i) = i
as_chosen (pcm options) = 16 + options
as_chosen (refusal n) = when (eqb n 11) refused_with_11 nothing_carried

-- a host that hands the number of a choice to the step hands over that choice
pub record ChoicesAreHandedOver : Type 0 where
  pub handed : (cm jm : List ℕ) → carried (choice_of cm jm) ≡ as_chosen (choice_of cm jm)
  -- that a menu cannot be read is no choice: no agreed menu carries it; nor does an agreed CM carry "refused with 11"
  pub unread : (s : Session) (event now : ℕ) → either (eqb event agreed_jm) (eqb event agreed_cm) ≡ true → in_range s ≡ true → (s.state ≡ over → ⊥) → stepped s event nothing_carried now ≡ refused_step 9 s
  pub not_for_cm : (s : Session) (now : ℕ) → in_range s ≡ true → (s.state ≡ over → ⊥) → stepped s agreed_cm refused_with_11 now ≡ refused_step 9 s
