-- The order of refusals: each definition, by its tests, is the first of its faults.
-- Assumes nothing.
use Prim.Native.Nat.{ℕ, ◌≤◌}
use native.Mathlib.Omega.{arith}
use mathlib.Core.Path.{◌≡◌, refl, sym, ap, subst, ◌∙◌}
use mathlib.Core.Bool.{Bool, true, false, not}
use mathlib.Core.List.{List, [], ◌∷◌, ◌++◌}
use borrow.Author.Tests.{eqb-true, eqb-false, ltb-true, ltb-false, le-ltb}
use lib.Dec.{ltb, leb, eqb}
use lib.ListN.{length, drop, length-take}
use Rattle.laws.specs.Logic.{when, both}
use Rattle.laws.proofs.Logic.{either_way}
use Rattle.refusals.specs.Refusals.{before}
use Rattle.laws.specs.Front.{front}
use Rattle.refusals.specs.Lent.{count, WriteOutcome, room_fault, put}
use Rattle.refusals.specs.Lent as lent
use Rattle.octets.specs.declared.Purpose.{Purpose}
use Rattle.octets.specs.declared.Purpose.TheVariants.{Reading, Writing}
use Rattle.octets.specs.Octets.{category, bad}
use Rattle.octets.specs.Lists.{octet_fault, first_fault, opens, most_octets, list_fault}
use Rattle.octets.proofs.EachOctet.{accepts_or_refuses}
use Rattle.sequences.specs.Line.{sequence, copies, cj}
use Rattle.sequences.specs.Writing.{written_cj}
use Rattle.sequences.proofs.Lines.{cj_length}
use Rattle.items.specs.Items.{place_of, in_set}
use Rattle.menus.specs.declared.Offer.{Offer}
use Rattle.menus.specs.Groups.{looked, group_of}
use Rattle.menus.specs.Offer.{offers, offer_of, menu_read}
use Rattle.menus.specs.Offer as reading
use Rattle.menus.specs.Asking.{Asked, answer, looks, asked}
use Rattle.menus.specs.Asking as asking
use Rattle.menus.proofs.Asking.{opens_seen, asked_seen}
use Rattle.fields.specs.Blocks.{blocks_fault}
use Rattle.fields.specs.Field.{field_tag, field_octets, packing_fault}
use Rattle.offers.specs.Making.{record_fault, function_fault, size_fault}
use Rattle.choices.specs.Choosing.{refusal, chosen_from, on_read, choice_of}
use Rattle.steps.specs.declared.Session.{Session}
use Rattle.steps.specs.Table.{over, rows}
use Rattle.cadence.specs.Cadence.{is_function}
use Rattle.cadence.specs.Giving.{begun}
use Rattle.steps.specs.Session as starting
use Rattle.steps.specs.Session.{between, is_te, in_range, Start, ready, caller_from}
use Rattle.steps.specs.Stepping.{StepOutcome, elapsed, owns, carries, find_row, moved, refused_step, timed, stepped_in, stepped}
use Rattle.steps.proofs.Refused.{in_time_is_not_refused}
use Rattle.demands.specs.Joint.{cm_of, jm_of}
use Rattle.octets.proofs.Lists.{before_none}
use Rattle.demands.specs.Shared.{NotShared, cm_unread, jm_unread, item_missing, none_pairs, Shared}
use Rattle.demands.proofs.Refusals.{behind}
use Rattle.demands.proofs.Shared.{choice_is_shared}
use Rattle.demands.specs.RefusalOrder.{first_of, answered, too_many, no_call_function, takes, octet_faults, no_mode, seen, step_faults, RefusalsComeInOrder}

-- the fault of an octet behind the first
abbrev fault_of : Purpose → ℕ → ℕ
fault_of p b = when (takes p b) 0 (when (bad b) 3 12)

reading_fault : (isBad isCategory : Bool) → ◌≡◌ {A = ℕ} (when isBad 3 (when isCategory 0 0)) (when (not isBad) 0 (when isBad 3 12))
unfolding when
reading_fault true c = refl
reading_fault false true = refl
reading_fault false false = refl

octet_fault_lem : (p : Purpose) (b : ℕ) → octet_fault p b ≡ fault_of p b
octet_fault_lem Reading b = reading_fault (bad b) (category b)
octet_fault_lem (Writing kind) b = accepts_or_refuses kind b

first_fault_lem : (p : Purpose) (octets : List ℕ) → first_fault p octets ≡ first_of (octet_faults p octets)
unfolding first_fault
first_fault_lem p [] = refl
first_fault_lem p (b ∷ octets) = ap (λ (f : ℕ). before f (first_fault p octets)) (octet_fault_lem p b) ∙ ap (λ (f : ℕ). before (fault_of p b) f) (first_fault_lem p octets)

-- 4 and 5 before that
in_order : (many opened : Bool) (rest : ℕ) → when many 4 (when opened rest 5) ≡ when (eqb (when many 4 0) 0) (when (eqb (when opened 0 5) 0) rest (when opened 0 5)) (when many 4 0)
unfolding when
in_order true opened rest = refl
in_order false true rest = refl
in_order false false rest = refl

list_fault_lem : (p : Purpose) (octets : List ℕ) → list_fault p octets ≡ first_of (too_many octets ∷ no_call_function octets ∷ octet_faults p (drop 1 octets))
list_fault_lem p octets =
    ap (λ (f : ℕ). when (ltb 64 (length octets)) 4 (when (opens octets) f 5)) (first_fault_lem p (drop 1 octets))
    ∙ in_order (ltb 64 (length octets)) (opens octets) (first_of (octet_faults p (drop 1 octets)))

-- an item that is asked for: the item, then the octets looked at
module _ (octets : List ℕ) (item : ℕ) where
  abbrev offered : Asked
  offered = answer (in_set (offer_of (seen octets item)).items item) (looks (place_of item).octet octets)

  seen_fault : length octets ≤ 64 → list_fault Reading (seen octets item) ≡ first_of (no_call_function octets ∷ octet_faults Reading (drop 1 (seen octets item)))
  unfolding when
  seen_fault few =
      let fits : length (seen octets item) ≤ 64 = omega (arith, few, length-take (looks (place_of item).octet octets) octets) in
      list_fault_lem Reading (seen octets item) ∙ simp (le-ltb 64 (length (seen octets item)) fits, opens_seen (place_of item).octet octets)

  asked_order : (is_mode many : Bool) → between 1 12 item ≡ is_mode → ltb most_octets (length octets) ≡ many
      → asked octets item ≡ answered offered asking.refusal (first_of (no_mode item ∷ too_many octets ∷ no_call_function octets ∷ octet_faults Reading (drop 1 (seen octets item))))
  unfolding asked when
  asked_order false many none e = simp none
  asked_order true true mode e = simp (mode, e)
  asked_order true false mode e =
      let few = ltb-false most_octets (length octets) e in
      asked_seen item mode octets few ∙ ap (answered offered asking.refusal) (seen_fault few) ∙ simp (mode, e)

-- the last of the faults, as it is told
by_last : (f : ℕ) (none : Bool) → eqb f 0 ≡ none → f ≡ when none 0 f
unfolding when
by_last f true e = eqb-true f 0 e
by_last f false e = refl

last_fault : (f : ℕ) → f ≡ first_of (f ∷ [])
last_fault f = by_last f (eqb f 0) refl

-- what is answered, by whether there is a fault
module _ {A : Type 0} (fine : A) (refused : ℕ → A) (f : ℕ) where
  answered_fine : eqb f 0 ≡ true → answered fine refused f ≡ fine
  unfolding when
  answered_fine none = simp none

  answered_refused : eqb f 0 ≡ false → answered fine refused f ≡ refused f
  unfolding when
  answered_refused some = simp some

-- what a call that writes answers, by its fault
put_answer : (f : ℕ) (new out : List ℕ) → (put f new out).answer ≡ answered (count (length new)) lent.refusal f
unfolding put
put_answer f new out =
    either_way (λ (o : WriteOutcome). o.answer ≡ answered (count (length new)) lent.refusal f) (eqb f 0) (record { answer = count (length new); buffer = front new out }) (record { answer = lent.refusal f; buffer = out })
    (λ none. sym (answered_fine _ lent.refusal f none)) (λ some. sym (answered_refused (count (length new)) lent.refusal f some))

-- by any faults, the last of which is told as it is
pub first_behind : (faults : List ℕ) (last : ℕ) → behind faults last ≡ first_of (faults ++ last ∷ [])
first_behind [] last = last_fault last
first_behind (f ∷ faults) last = ap (before f) (first_behind faults last)

put_behind : (faults : List ℕ) (last : ℕ) (new out : List ℕ) → (put (behind faults last) new out).answer ≡ answered (count (length new)) lent.refusal (first_of (faults ++ last ∷ []))
put_behind faults last new out = put_answer (behind faults last) new out ∙ ap (answered (count (length new)) lent.refusal) (first_behind faults last)

-- the choice: CM, then JM
by_reads : (cm jm : Offer) (f g : ℕ) (cm-fine jm-fine : Bool) → eqb f 0 ≡ cm-fine → eqb g 0 ≡ jm-fine
    → on_read (when cm-fine (offers cm) (reading.refusal f)) (λ offer. on_read (when jm-fine (offers jm) (reading.refusal g)) (λ other. chosen_from offer other))
    ≡ answered (chosen_from cm jm) refusal (when cm-fine (when jm-fine 0 g) f)
unfolding when
by_reads cm jm f g true true e h = refl
by_reads cm jm f g true false e h = sym (answered_refused (chosen_from cm jm) refusal g h)
by_reads cm jm f g false jm-fine e h = sym (answered_refused (chosen_from cm jm) refusal f e)

choice_order : (cm jm : List ℕ) → choice_of cm jm ≡ answered (chosen_from (offer_of cm) (offer_of jm)) refusal (first_of (list_fault Reading cm ∷ list_fault Reading jm ∷ []))
unfolding menu_read
choice_order cm jm = by_reads (offer_of cm) (offer_of jm) (list_fault Reading cm) (list_fault Reading jm) (eqb (list_fault Reading cm) 0) (eqb (list_fault Reading jm) 0) refl refl

eleven : (cm jm : List ℕ) (n : ℕ) → list_fault Reading cm ≡ 0 → list_fault Reading jm ≡ 0 → NotShared cm jm n → n ≡ 11
eleven cm jm n cm-read jm_read (cm_unread refused) = absurd (refused cm-read)
eleven cm jm n cm-read jm_read (jm_unread fine refused) = absurd (refused jm_read)
eleven cm jm n cm-read jm_read (item_missing i readable lowest why) = refl
eleven cm jm n cm-read jm_read (none_pairs readable counted why) = refl

choice_eleven : (cm jm : List ℕ) (n : ℕ) → first_of (list_fault Reading cm ∷ list_fault Reading jm ∷ []) ≡ 0 → choice_of cm jm ≡ refusal n → n ≡ 11
choice_eleven cm jm n none e =
    let cm-first = before_none (list_fault Reading cm) (before (list_fault Reading jm) 0) none in
    let jm-first = before_none (list_fault Reading jm) 0 cm-first.1 in
    eleven cm jm n cm-first.0 jm-first.0 (subst (Shared cm jm) e (choice_is_shared cm jm).shared)

-- a start: by its tests
by_start : (good : Start) (t f a b c d : Bool) → when (both t f) (when (both a (both b (both c d))) good (starting.refusal 16)) (starting.refusal 10)
    ≡ answered good starting.refusal (first_of (when t 0 10 ∷ when f 0 10 ∷ when (both a b) 0 16 ∷ when (both c d) 0 16 ∷ []))
unfolding when both
by_start good false f a b c d = refl
by_start good true false a b c d = refl
by_start good true true false b c d = refl
by_start good true true true false c d = refl
by_start good true true true true false d = refl
by_start good true true true true true false = refl
by_start good true true true true true true = refl

-- steps: by the four tests
by_tests : (s : Session) (moves : StepOutcome) (inside is_over own soon : Bool)
    → (first_of (when inside 0 10 ∷ when is_over 7 0 ∷ when own 0 9 ∷ when soon 0 8 ∷ []) ≡ 0 → ⊥)
    → when inside (when is_over (refused_step 7 s) (when own (when soon moves (refused_step 8 s)) (refused_step 9 s))) (refused_step 10 s)
    ≡ refused_step (first_of (when inside 0 10 ∷ when is_over 7 0 ∷ when own 0 9 ∷ when soon 0 8 ∷ [])) s
unfolding when
by_tests s moves false is_over own soon some = refl
by_tests s moves true true own soon some = refl
by_tests s moves true false false soon some = refl
by_tests s moves true false true false some = refl
by_tests s moves true false true true some = absurd (some refl)

step_order : (s : Session) (event value now : ℕ) → (first_of (step_faults s event value now) ≡ 0 → ⊥) → stepped s event value now ≡ refused_step (first_of (step_faults s event value now)) s
unfolding stepped_in timed
step_order s event value now =
    by_tests s (moved s event value now (find_row s event value (elapsed now s.entry) rows)) (in_range s) (eqb s.state over) (both (owns s.end event) (carries event value)) (ltb (elapsed now s.entry) 2147483648)

-- a step without a fault: what its tests say
pub record StepFine (s : Session) (event value now : ℕ) : Type 0 where
  pub inside : in_range s ≡ true
  pub going : eqb s.state over ≡ false
  pub own : both (owns s.end event) (carries event value) ≡ true
  pub soon : ltb (elapsed now s.entry) 2147483648 ≡ true

no_fault : (inside is_over own soon : Bool) → first_of (when inside 0 10 ∷ when is_over 7 0 ∷ when own 0 9 ∷ when soon 0 8 ∷ []) ≡ 0
    → (inside ≡ true) × ((is_over ≡ false) × ((own ≡ true) × (soon ≡ true)))
unfolding when
no_fault false is_over own soon e = absurd (let z : ⊥ = omega (arith, e) in z)
no_fault true true own soon e = absurd (let z : ⊥ = omega (arith, e) in z)
no_fault true false false soon e = absurd (let z : ⊥ = omega (arith, e) in z)
no_fault true false true false e = absurd (let z : ⊥ = omega (arith, e) in z)
no_fault true false true true e = (refl, (refl, (refl, refl)))

pub step_fine_lem : (s : Session) (event value now : ℕ) → first_of (step_faults s event value now) ≡ 0 → StepFine s event value now
step_fine_lem s event value now e =
    let tests = no_fault (in_range s) (eqb s.state over) (both (owns s.end event) (carries event value)) (ltb (elapsed now s.entry) 2147483648) e in
    record { inside = tests.0; going = tests.1.0; own = tests.1.1.0; soon = tests.1.1.1 }

cj_answer : (out : List ℕ) → (written_cj out).answer ≡ answered (count 30) lent.refusal (when (ltb (length out) 30) 6 0)
cj_answer out = put_answer (room_fault cj out) cj out ∙ ap (λ (n : ℕ). answered (count n) lent.refusal (when (ltb (length out) n) 6 0)) cj_length

pub refusals_come_in_order : RefusalsComeInOrder
unfolding menu_read looked
refusals_come_in_order = record {
  octets = list_fault_lem;
  read = λ octets. refl;
  looked = λ octets t. refl;
  asked = λ octets item. asked_order octets item (between 1 12 item) (ltb most_octets (length octets)) refl refl;
  written = λ kind octets n out. put_behind (list_fault (Writing kind) octets ∷ []) (room_fault (copies n (sequence kind octets)) out) (copies n (sequence kind octets)) out;
  written_cj = cj_answer;
  field = λ heard out.
      let group = group_of heard field_tag in
      put_behind (list_fault Reading heard ∷ packing_fault group ∷ blocks_fault (field_octets group) ∷ []) (room_fault (field_octets group) out) (field_octets group) out;
  cm = λ own function blocks out. put_behind (record_fault own ∷ function_fault own function ∷ size_fault (cm_of own function blocks) ∷ blocks_fault blocks ∷ []) (room_fault (cm_of own function blocks) out) (cm_of own function blocks) out;
  jm = λ own heard out. put_behind (record_fault own ∷ list_fault Reading heard ∷ size_fault (jm_of own heard) ∷ []) (room_fault (jm_of own heard) out) (jm_of own heard) out;
  choice = choice_order;
  eleven = choice_eleven;
  start = λ now te function on off. by_start (ready (caller_from now te (begun function on off))) (is_te te) (is_function function) (leb 3 on) (leb on 20) (leb 120 off) (leb off 600);
  step = step_order;
  step_fine = λ s event value now n none e.
      let fine = step_fine_lem s event value now none in
      in_time_is_not_refused s event value now fine.inside (eqb-false _ _ fine.going) fine.own (ltb-true _ _ fine.soon) n e;
}
