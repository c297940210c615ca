-- Document 01, 'Refusal numbers': which refusal is told where several could be. Each fault is a number of its own, 0 where there is none, and a
-- call answers the first of them.
use Rattle.std.specs.Prelude.{ℕ, ◌≡◌, Bool, not, List, [], ◌∷◌, ltb, eqb, length, take, drop, get_or}
use Rattle.laws.specs.Logic.{when, both}
use Rattle.laws.specs.Tests.{every}
use Rattle.octets.specs.declared.Kind.{Kind}
use Rattle.octets.specs.declared.Purpose.{Purpose}
use Rattle.octets.specs.declared.Purpose.TheVariants.{Reading, Writing}
use Rattle.octets.specs.Octets.{bad, options}
use Rattle.octets.specs.Lists.{accepts, opens, most_octets, list_fault}
use Rattle.refusals.specs.Lent.{count}
use Rattle.refusals.specs.Lent as lent
use Rattle.sequences.specs.Line.{sequence, copies}
use Rattle.sequences.specs.Writing.{written, written_cj}
use Rattle.items.specs.Items.{place_of, in_set}
use Rattle.menus.specs.Groups.{first_group, looked, group_of}
use Rattle.menus.specs.Groups as looking
use Rattle.menus.specs.Offer.{offers, offer_of, menu_read}
use Rattle.menus.specs.Offer as reading
use Rattle.menus.specs.Asking.{answer, looks, asked}
use Rattle.menus.specs.Asking as asking
use Rattle.fields.specs.Blocks.{blocks_of, fits}
use Rattle.fields.specs.Packing.{fills_octets}
use Rattle.fields.specs.Field.{field_octets, field_read}
use Rattle.records.specs.declared.Record.{Record}
use Rattle.records.specs.Record.{flag, in_use, bad_record}
use Rattle.offers.specs.Making.{made_cm, made_jm}
use Rattle.choices.specs.Choosing.{refusal, chosen_from, choice_of}
use Rattle.cadence.specs.Giving.{begun}
use Rattle.steps.specs.declared.Session.{Session}
use Rattle.steps.specs.Table.{over}
use Rattle.steps.specs.Session as starting
use Rattle.steps.specs.Session.{between, in_range, ready, caller_from, started_caller}
use Rattle.steps.specs.Stepping as stepping
use Rattle.steps.specs.Stepping.{elapsed, owns, carries, refused_step, stepped}
use Rattle.demands.specs.Joint.{cm_of, jm_of}

-- the first fault that there is, or 0
abbrev pub first_of : List ℕ → ℕ
first_of [] = 0
first_of (fault ∷ faults) = when (eqb fault 0) (first_of faults) fault

-- a call's answer by its first fault
abbrev pub answered : {A : Type 0} → A → (ℕ → A) → ℕ → A
answered fine refused fault = when (eqb fault 0) fine (refused fault)

-- 4, "over 64 octets"
abbrev pub too_many : List ℕ → ℕ
too_many octets = when (ltb most_octets (length octets)) 4 0

-- 5, "first octet not tag 1 with b4 = 0, no octets"
abbrev pub no_call_function : List ℕ → ℕ
no_call_function octets = when (opens octets) 0 5

-- an octet behind the first that is taken: in reading any but a bad one, in writing what 'Bits on the line' says is accepted
abbrev pub takes : Purpose → ℕ → Bool
takes Reading b = not (bad b)
takes (Writing kind) b = accepts kind b

-- "at the first bad octet 3 or 12": for each octet, 3 is "b4 = 1 with b3 or b5 = 1"
abbrev pub octet_faults : Purpose → List ℕ → List ℕ
octet_faults p [] = []
octet_faults p (b ∷ octets) = when (takes p b) 0 (when (bad b) 3 12) ∷ octet_faults p octets

-- 9, "item not 1 to 12"
abbrev pub no_mode : ℕ → ℕ
no_mode item = when (between 1 12 item) 0 9

-- the octets that are looked at where an item is asked for
abbrev pub seen : List ℕ → ℕ → List ℕ
seen octets item = take (looks (place_of item).octet octets) octets

-- 6, "lent buffer too short"
abbrev pub too_short : List ℕ → List ℕ → ℕ
too_short new out = when (ltb (length out) (length new)) 6 0

-- 10, "bad record"
abbrev pub bad_fault : Record → ℕ
bad_fault own = when (bad_record own) 10 0

-- 5, "a CM asked for a function not available"
abbrev pub unavailable : Record → ℕ → ℕ
unavailable own function = when (flag (in_use own function).available) 0 5

-- 15, "more than four bits left over, or leftover bits or options not 0"
abbrev pub badly_packed : List ℕ → ℕ
badly_packed group = when (both (eqb (options (get_or group 0 0)) 0) (fills_octets (drop 1 group))) 0 15

-- 14, "block longer than what remains or a code that doesn't fit in it"
abbrev pub bad_blocks : List ℕ → ℕ
bad_blocks octets = when (every fits (blocks_of octets)) 0 14

-- "steps 7, 9, 8; 10 for a lent .. session comes before all of these": 10 for its range, 7 "event after over", 9 "event of the other end; item
-- not 1 to 12; PCM options not 1 to 7", 8 "clock"
abbrev pub step_faults : Session → ℕ → ℕ → ℕ → List ℕ
step_faults s event value now =
    when (in_range s) 0 10
    ∷ when (eqb s.state over) 7 0
    ∷ when (both (owns s.end event) (carries event value)) 0 9
    ∷ when (ltb (elapsed now s.entry) 2147483648) 0 8
    ∷ []

-- document 02, Req 04: "16 cadence outside these numbers, at the start, after 10": 10 for Te and for a function that is none of the six
abbrev pub start_faults : ℕ → ℕ → ℕ → ℕ → List ℕ
start_faults te function on off =
    when (between 500 5000 te) 0 10
    ∷ when (between 1 6 function) 0 10
    ∷ when (between 3 20 on) 0 16
    ∷ when (between 120 600 off) 0 16
    ∷ []

pub record RefusalsComeInOrder : Type 0 where
  -- "reading or writing octets 4, 5, then at the first bad octet 3 or 12"
  pub octets : (p : Purpose) (octets : List ℕ) → list_fault p octets ≡ first_of (too_many octets ∷ no_call_function octets ∷ octet_faults p (drop 1 octets))
  pub read : (octets : List ℕ) → menu_read octets ≡ answered (offers (offer_of octets)) reading.refusal (list_fault Reading octets)
  pub looked : (octets : List ℕ) (t : ℕ) → looked octets t ≡ answered (first_group t 0 octets) looking.refusal (list_fault Reading octets)
  -- document 02, Req 06: "item not 1 to 12 is 9, first of all", "4 and 5 as before", 3 among the octets looked at
  pub asked : (octets : List ℕ) (item : ℕ) → asked octets item
      ≡ answered (answer (in_set (offer_of (seen octets item)).items item) (looks (place_of item).octet octets)) asking.refusal (first_of (no_mode item ∷ too_many octets ∷ no_call_function octets ∷ octet_faults Reading (drop 1 (seen octets item))))
  -- ".. then 6"
  pub written : (kind : Kind) (octets : List ℕ) (n : ℕ) (out : List ℕ) → (written kind octets n out).answer
      ≡ answered (count (length (copies n (sequence kind octets)))) lent.refusal (first_of (list_fault (Writing kind) octets ∷ too_short (copies n (sequence kind octets)) out ∷ []))
  -- "CJ has its own call: once, 30 bits, or refusal 6."
  pub written_cj : (out : List ℕ) → (written_cj out).answer ≡ answered (count 30) lent.refusal (when (ltb (length out) 30) 6 0)
  -- document 02, Req 02: "order in reading 4, 5, 3, 15, 14, 6, in making a CM 10, 5, 4, 14, 6"
  pub field : (heard out : List ℕ) → (field_read heard out).answer
      ≡ answered (count (length (field_octets (group_of heard 15)))) lent.refusal (first_of (list_fault Reading heard ∷ badly_packed (group_of heard 15) ∷ bad_blocks (field_octets (group_of heard 15)) ∷ too_short (field_octets (group_of heard 15)) out ∷ []))
  pub cm : (own : Record) (function : ℕ) (blocks out : List ℕ) → (made_cm own function blocks out).answer
      ≡ answered (count (length (cm_of own function blocks))) lent.refusal (first_of (bad_fault own ∷ unavailable own function ∷ too_many (cm_of own function blocks) ∷ bad_blocks blocks ∷ too_short (cm_of own function blocks) out ∷ []))
  -- "menus from records 10, then the heard CM's refusals or 5, then 6"; Req 03: "A JM that would pass 64 octets is refused with 4, just before 6."
  pub jm : (own : Record) (heard out : List ℕ) → (made_jm own heard out).answer
      ≡ answered (count (length (jm_of own heard))) lent.refusal (first_of (bad_fault own ∷ list_fault Reading heard ∷ too_many (jm_of own heard) ∷ too_short (jm_of own heard) out ∷ []))
  -- "the choice CM, JM, 11"
  pub choice : (cm jm : List ℕ) → choice_of cm jm ≡ answered (chosen_from (offer_of cm) (offer_of jm)) refusal (first_of (list_fault Reading cm ∷ list_fault Reading jm ∷ []))
  pub eleven : (cm jm : List ℕ) (n : ℕ) → first_of (list_fault Reading cm ∷ list_fault Reading jm ∷ []) ≡ 0 → choice_of cm jm ≡ refusal n → n ≡ 11
  pub start : (now te function on off : ℕ) → started_caller now te function on off ≡ answered (ready (caller_from now te (begun function on off))) starting.refusal (first_of (start_faults te function on off))
  -- "steps 7, 9, 8"; "8 is tested on each"
  pub step : (s : Session) (event value now : ℕ) → (first_of (step_faults s event value now) ≡ 0 → ⊥) → stepped s event value now ≡ refused_step (first_of (step_faults s event value now)) s
  pub step_fine : (s : Session) (event value now n : ℕ) → first_of (step_faults s event value now) ≡ 0 → (stepped s event value now).answer ≡ stepping.refusal n → ⊥
