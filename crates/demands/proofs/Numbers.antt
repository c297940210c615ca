-- Every number that comes is one that the header lists, by the cases of each answer and tests computed over the few numbers there are; what
-- can come is known by its number, so no two share one. And a choice goes to its number and back.
-- Assumes nothing.
use Prim.Native.Nat.{ℕ, zero, suc, ◌<◌, ◌≤◌, ◌+◌}
use native.Mathlib.Omega.{arith}
use mathlib.Core.Path.{◌≡◌, refl, sym, ap, subst, ◌∙◌}
use mathlib.Core.Bool.{Bool, true, false}
use mathlib.Core.List.{List, [], ◌∷◌}
use mathlib.Core.Logic.{⊎_elim}
use borrow.Author.Tests.{lt-ltb, ltb-false, le-leb, ne_eqb, eqb-true, eqb-false}
use lib.Dec.{T, ltb, eqb}
use lib.IntN.{pos}
use lib.ListN.{length, take, drop}
use Rattle.laws.specs.Logic.{when, both, either}
use Rattle.laws.specs.Tests.{all_below}
use Rattle.laws.proofs.Logic.{either_way, both_neither, clash}
use Rattle.laws.proofs.Computed.{below}
use Rattle.octets.specs.declared.Purpose.TheVariants.{Reading}
use Rattle.octets.specs.Octets.{bad, category}
use Rattle.octets.specs.Lists.{octet_fault, first_fault, opens, most_octets, list_fault}
use Rattle.octets.proofs.Lists.{accepted_short, before_none}
use Rattle.refusals.proofs.Outcomes.{counted}
use Rattle.items.specs.Items.{place_of}
use Rattle.items.specs.Items as items
use Rattle.menus.specs.Groups.{Looked, place, opens_group, first_group, looked, group_of}
use Rattle.menus.specs.Groups as looking
use Rattle.menus.specs.Offer.{Read, offers, offer_of, menu_read}
use Rattle.menus.specs.Offer as reading
use Rattle.menus.specs.Asking.{Asked, answer, looks, item_in, asked_first, asked}
use Rattle.menus.specs.Asking as asking
use Rattle.menus.proofs.Asking.{looks_few}
use Rattle.fields.specs.Field.{field_tag, field_octets, field_of}
use Rattle.fields.proofs.Field.{field_none}
use Rattle.fields.proofs.Finding.{field_few}
use Rattle.offers.specs.Offering.{cm_offer, jm_offer}
use Rattle.offers.specs.Making.{house_count, record_fault, function_fault, with_field, modulation_count}
use Rattle.offers.proofs.Making.{menu_length, menu_short, with_length, size_short}
use Rattle.choices.specs.Choosing.{Chosen, none, item, pcm, refusal, choice_of}
use Rattle.listening.specs.declared.Listener.{Listener}
use Rattle.listening.specs.Record as record_of
use Rattle.listening.specs.Hearing.{Told, silence, ci, menu, cj, ManyOutcome, span_of, told, heard_bit, heard_bits}
use Rattle.listening.specs.Hearing as hearing
use Rattle.steps.specs.declared.Session.{Session}
use Rattle.steps.specs.Table.{over, agreed_jm, agreed_cm}
use Rattle.steps.specs.Session.{between, is_item, is_pcm, is_mode, is_choice, in_range}
use Rattle.steps.specs.Stepping.{Answered, same, entered, ended, go_on, refused_with_11, owns, carries, refused_step, stepped_in, stepped}
use Rattle.steps.specs.Stepping as stepping
use Rattle.steps.proofs.Known.{is_so, taken_if, either_true}
use Rattle.steps.proofs.Ticks.{between_true}
use Rattle.steps.proofs.Answers.{possible_answer, answer_is_possible}
use Rattle.codes.specs.Choosing.{choice_code}
use Rattle.codes.specs.Steps.{nothing_carried, step_code}
use Rattle.codes.specs.Hearing.{told_code}
use Rattle.codes.specs.Reading.{looked_code, asked_code, asked_count}
use Rattle.codes.proofs.Apart.{known_choice, choice_code_injective, step_code_injective, span_code_injective, known_place, looked_code_injective, asked_code_injective}
use Rattle.codes.proofs.ApartReports.{known_report, told_code_injective}
use Rattle.demands.specs.Joint.{jm_of}
use Rattle.demands.specs.WholeCall.{carried}
use Rattle.demands.specs.Shared.{NotShared, cm_unread, jm_unread, item_missing, none_pairs, Shared}
use Rattle.stretches.specs.Hearing.{once_heard}
use Rattle.demands.specs.Refusals.{one_of, RefusedBitsLeaveWhatIsLaidDown}
use Rattle.demands.proofs.Refusals.{behind_first, refusals_leave_what_is_laid_down}
use Rattle.demands.specs.Numbers.{choice_number, step_number, heard_number, place_number, NumbersAreToldApart, as_chosen, ChoicesAreHandedOver}
use Rattle.demands.proofs.Shared.{choice_is_shared}
use Rattle.demands.proofs.Told.{in_range_lem, looks_at, TellsAsked, offered_code, span_tells}

-- what is computed of every number below a limit, where a test holds
among : (f g : ℕ → Bool) (limit : ℕ) → T (all_below (λ n. when (f n) (g n) true) limit) → (n : ℕ) → n < limit → f n ≡ true → g n ≡ true
among f g limit computed n small holds = is_so (g n) (taken_if (f n) (g n) true (below (λ k. when (f k) (g k) true) limit computed n small) holds)

-- reading refuses with 3, 4 or 5
data Reads : ℕ → Type 0 where
  accepted : Reads 0
  bad_octet_lem : Reads 3
  too_many : Reads 4
  no_function_lem : Reads 5

octets_read : (octets : List ℕ) → Reads (first_fault Reading octets)
unfolding first_fault
octets_read [] = accepted
octets_read (b ∷ bs) =
    either_way Reads (eqb (octet_fault Reading b) 0) (first_fault Reading bs) (octet_fault Reading b) (λ _. octets_read bs)
    (λ _. either_way Reads (bad b) 3 (when (category b) 0 0) (λ _. bad_octet_lem) (λ _. either_way Reads (category b) 0 0 (λ _. accepted) (λ _. accepted)))

list_read : (octets : List ℕ) → Reads (list_fault Reading octets)
list_read octets =
    either_way Reads (ltb most_octets (length octets)) 4 (when (opens octets) (first_fault Reading (drop 1 octets)) 5) (λ _. too_many)
    (λ _. either_way Reads (opens octets) (first_fault Reading (drop 1 octets)) 5 (λ _. octets_read (drop 1 octets)) (λ _. no_function_lem))

-- a choice: its number is listed, and known, and carried as the choice
record TellsChoice (c : Chosen) : Type 0 where
  number : choice_number (choice_code c) ≡ true
  known : known_choice c ≡ true
  handed : carried c ≡ as_chosen c

tells_refusal : {n : ℕ} → Reads n → (n ≡ 0 → ⊥) → TellsChoice (refusal n)
unfolding either when
tells_refusal accepted some = absurd (some refl)
tells_refusal bad_octet_lem some = record { number = refl; known = refl; handed = refl }
tells_refusal too_many some = record { number = refl; known = refl; handed = refl }
tells_refusal no_function_lem some = record { number = refl; known = refl; handed = refl }

tells_11 : TellsChoice (refusal 11)
unfolding either when
tells_11 = record { number = refl; known = refl; handed = refl }

tells_none : TellsChoice none
unfolding when either
tells_none = record { number = refl; known = refl; handed = refl }

tells_item : (i : ℕ) → 0 < i → i < 13 → TellsChoice (item i)
unfolding when both either all_below
tells_item i low high =
    let is-item = in_range_lem 1 12 i (omega (arith, low)) high in
    record { number = among is_item is_choice 13 tt i high is-item; known = is-item; handed = simp (lt-ltb i 24 (omega (arith, high))) }

tells_pcm : (options : ℕ) → 0 < options → options < 8 → TellsChoice (pcm options)
unfolding when both either all_below
tells_pcm options low high = record {
  number = among (λ n. ltb 0 n) (λ n. is_choice (16 + n)) 8 tt options high (lt-ltb 0 options low);
  known = lt-ltb 0 options low;
  handed = simp (lt-ltb (16 + options) 24 (omega (arith, high)));
}

module _ (cm jm : List ℕ) where
  refusal_tells : (n : ℕ) → NotShared cm jm n → TellsChoice (refusal n)
  refusal_tells n (cm_unread unread) = tells_refusal (list_read cm) unread
  refusal_tells n (jm_unread _ unread) = tells_refusal (list_read jm) unread
  refusal_tells n (item_missing _ _ _ _) = tells_11
  refusal_tells n (none_pairs _ _ _) = tells_11

  shared_tells : (c : Chosen) → Shared cm jm c → TellsChoice c
  shared_tells none s = tells_none
  shared_tells (item i) s = tells_item i s.item.low s.item.high
  shared_tells (pcm options) s = tells_pcm options s.some s.high
  shared_tells (refusal n) s = refusal_tells n s

  choice_tells : TellsChoice (choice_of cm jm)
  choice_tells = shared_tells (choice_of cm jm) (choice_is_shared cm jm).shared

-- what an event is answered
refusal_of_step : (n : ℕ) → one_of (7 ∷ 8 ∷ 9 ∷ 10 ∷ []) n ≡ true → step_number (step_code (stepping.refusal n)) ≡ true
unfolding either
refusal_of_step zero listed = clash (sym listed)
refusal_of_step (suc n) listed = listed

mode_small : (choice : ℕ) → is_mode choice ≡ true → choice < 24
mode_small choice mode =
    ⊎_elim (λ an_item. let ends = between_true 1 12 choice an_item in omega (arith, ends.1))
    (λ some-pcm. let ends = between_true 17 23 choice some-pcm in omega (arith, ends.1)) (either_true (is_item choice) (is_pcm choice) mode)

answer_number : (a : Answered) → possible_answer a ≡ true → step_number (step_code a) ≡ true
unfolding when both either all_below
answer_number same possible = refl
answer_number (entered state) possible =
    let ends = between_true 1 9 state possible in
    among (between 1 9) (λ n. step_number (pos n)) 10 tt state (omega (arith, ends.1)) possible
answer_number (ended how) possible =
    let ends = between_true 1 4 how possible in
    among (between 1 4) (λ n. step_number (pos (16 + n))) 5 tt how (omega (arith, ends.1)) possible
answer_number (go_on choice) possible = among is_mode (λ n. step_number (pos (32 + n))) 24 tt choice (mode_small choice possible) possible
answer_number (stepping.refusal n) possible =
    let ends = between_true 7 10 n possible in
    refusal_of_step n (among (between 7 10) (one_of (7 ∷ 8 ∷ 9 ∷ 10 ∷ [])) 11 tt n (omega (arith, ends.1)) possible)

-- what looking answers
record TellsPlace (l : Looked) : Type 0 where
  number : place_number (looked_code l) ≡ true
  known : known_place l ≡ true

place_tells : (n : ℕ) → n < 64 → TellsPlace (place n)
place_tells n low = record { number = le-leb n 64 (omega arith); known = lt-ltb n 64 low }

first_tells : (t i : ℕ) (octets : List ℕ) → i + length octets ≤ 64 → TellsPlace (first_group t i octets)
unfolding first_group
first_tells t i [] room = record { number = refl; known = refl }
first_tells t i (b ∷ bs) room = either_way TellsPlace (opens_group t b) (place i) (first_group t (i + 1) bs) (λ _. place_tells i (omega arith)) (λ _. first_tells t (i + 1) bs (omega arith))

unread_tells : {n : ℕ} → Reads n → (n ≡ 0 → ⊥) → TellsPlace (looking.refusal n)
unfolding either
unread_tells accepted some = absurd (some refl)
unread_tells bad_octet_lem some = record { number = refl; known = refl }
unread_tells too_many some = record { number = refl; known = refl }
unread_tells no_function_lem some = record { number = refl; known = refl }

looked_tells : (octets : List ℕ) (t : ℕ) → TellsPlace (looked octets t)
unfolding looked
looked_tells octets t =
    either_way TellsPlace (eqb (list_fault Reading octets) 0) (first_group t 0 octets) (looking.refusal (list_fault Reading octets))
    (λ fine. first_tells t 0 octets (omega (arith, accepted_short Reading octets (eqb-true (list_fault Reading octets) 0 fine))))
    (λ refused. unread_tells (list_read octets) (eqb-false (list_fault Reading octets) 0 refused))

-- what asking for an item answers
answer_tells : (offered : Bool) (n : ℕ) → 0 < n → n ≤ 64 → TellsAsked (answer offered n)
answer_tells true n low high = record { number = refl; known = refl; looks = in_range_lem 1 64 n (omega (arith, low)) (omega (arith, high)) }
answer_tells false n low high = record { number = refl; known = refl; looks = in_range_lem 1 64 n (omega (arith, low)) (omega (arith, high)) }

unasked_tells : {n : ℕ} → Reads n → (n ≡ 0 → ⊥) → TellsAsked (asking.refusal n)
unfolding either both
unasked_tells accepted some = absurd (some refl)
unasked_tells bad_octet_lem some = record { number = refl; known = refl; looks = refl }
unasked_tells too_many some = record { number = refl; known = refl; looks = refl }
unasked_tells no_function_lem some = record { number = refl; known = refl; looks = refl }

looks_some : (ahead : ℕ) (octets : List ℕ) → list_fault Reading (take (looks ahead octets) octets) ≡ 0 → 0 < looks ahead octets
unfolding looks when
looks_some ahead [] fine = absurd (let z : ⊥ = omega (arith, fine) in z)
looks_some ahead (b ∷ bs) fine = omega arith

seen_tells : (i ahead : ℕ) (octets : List ℕ) → length octets ≤ 64 → TellsAsked (asked_first octets i (looks ahead octets))
unfolding menu_read
seen_tells i ahead octets few =
    let seen = take (looks ahead octets) octets in
    either_way (λ (read : Read). TellsAsked (item_in i (looks ahead octets) read)) (eqb (list_fault Reading seen) 0) (offers (offer_of seen)) (reading.refusal (list_fault Reading seen))
    (λ fine. answer_tells _ (looks ahead octets) (looks_some ahead octets (eqb-true (list_fault Reading seen) 0 fine)) (omega (arith, few, looks_few ahead octets)))
    (λ refused. unasked_tells (list_read seen) (eqb-false (list_fault Reading seen) 0 refused))

asked_tells : (octets : List ℕ) (i : ℕ) → TellsAsked (asked octets i)
unfolding asked either both
asked_tells octets i =
    let ahead = (place_of i).octet in
    either_way TellsAsked (items.is_mode i) (when (ltb most_octets (length octets)) (asking.refusal 4) (asked_first octets i (looks ahead octets))) (asking.refusal 9)
    (λ _. either_way TellsAsked (ltb most_octets (length octets)) (asking.refusal 4) (asked_first octets i (looks ahead octets)) (λ _. record { number = refl; known = refl; looks = refl })
    (λ few. seen_tells i ahead octets (ltb-false most_octets (length octets) few)))
    (λ _. record { number = refl; known = refl; looks = refl })

-- what a bit reports
record TellsReport (t : Told) : Type 0 where
  number : heard_number (told_code t) ≡ true
  known : known_report t ≡ true

abbrev Hears : ℕ → Type 0
Hears n = one_of (1 ∷ 2 ∷ 3 ∷ 4 ∷ 10 ∷ 13 ∷ []) n ≡ true

refusal_of_bit : (n : ℕ) → Hears n → TellsReport (hearing.refusal n)
unfolding either
refusal_of_bit zero listed = clash (sym listed)
refusal_of_bit (suc n) listed = record { number = listed; known = lt-ltb 0 (suc n) (omega arith) }

abbrev number_told : Told → ℕ
number_told silence = 0
number_told (ci span) = 0
number_told (menu is_agreed span) = 0
number_told cj = 0
number_told (hearing.refusal n) = n

told_tells : (t : Told) → ((n : ℕ) → t ≡ hearing.refusal n → Hears n) → TellsReport t
told_tells silence listed = record { number = refl; known = refl }
told_tells (ci span) listed = record { number = refl; known = refl }
told_tells (menu true span) listed = record { number = refl; known = refl }
told_tells (menu false span) listed = record { number = refl; known = refl }
told_tells cj listed = record { number = refl; known = refl }
told_tells (hearing.refusal n) listed = refusal_of_bit n (listed n refl)

-- demand 1 says which refusals a bit gives
abbrev laid : RefusedBitsLeaveWhatIsLaidDown
laid = refusals_leave_what_is_laid_down.bits

heard_tells : (rec : Listener) (bit : ℕ) → TellsReport (heard_bit rec bit).report
heard_tells rec bit = told_tells (heard_bit rec bit).report (laid.numbers rec bit)

-- and many bits give that of one, or 10
many_listed : (rec : Listener) (bits : List ℕ) (n : ℕ) (inside : Bool) → record_of.in_range rec ≡ inside → (heard_bits rec bits).report ≡ hearing.refusal n → Hears n
unfolding either
many_listed rec bits n true e told = let at = laid.many rec bits n e told in laid.numbers (once_heard rec at.before) at.bit n at.told
many_listed rec bits n false e told = rw (sym (ap number_told (sym (ap (λ (o : ManyOutcome). o.report) (laid.many_outside rec bits e)) ∙ told))) refl

many_tells : (rec : Listener) (bits : List ℕ) → TellsReport (heard_bits rec bits).report
many_tells rec bits = told_tells (heard_bits rec bits).report (λ n. many_listed rec bits n (record_of.in_range rec) refl)

pub numbers_are_told_apart : NumbersAreToldApart
numbers_are_told_apart = record {
  choices = λ cm jm. (choice_tells cm jm).number;
  choices_apart = λ cm jm cm' jm' e. choice_code_injective _ _ (choice_tells cm jm).known (choice_tells cm' jm').known e;
  steps = λ s event value now. answer_number (stepped s event value now).answer (answer_is_possible s event value now);
  steps_apart = λ s s' event event' value value' now now' e. step_code_injective _ _ (answer_is_possible s event value now) (answer_is_possible s' event' value' now') e;
  reports = λ rec bit. (heard_tells rec bit).number;
  reports_apart = λ rec rec' bit bit' e alike. told_code_injective _ _ (heard_tells rec bit).known (heard_tells rec' bit').known e alike;
  many_reports = λ rec bits. (many_tells rec bits).number;
  spans = λ rec. (span_tells rec).number;
  spans_apart = λ rec rec' e. span_code_injective _ _ (span_tells rec).known (span_tells rec').known e;
  places = λ octets t. (looked_tells octets t).number;
  places_apart = λ octets octets' t t' e. looked_code_injective _ _ (looked_tells octets t).known (looked_tells octets' t').known e;
  asks = λ octets i. (asked_tells octets i).number;
  asks_apart = λ octets octets' i i' e alike. asked_code_injective _ _ (asked_tells octets i).known (asked_tells octets' i').known e alike;
  looked = λ octets i offered n told. subst (λ (a : Asked). between 1 64 (looks_at a) ≡ true) told (asked_tells octets i).looks;
  told = λ octets i offered n e. (ap asked_code e ∙ offered_code offered n, ap asked_count e);
  cm_size = λ own function blocks out size told.
      let menu = with_field (cm_offer own function) blocks in
      let told-all = counted _ menu out size told in
      let faults = record_fault own ∷ function_fault own function ∷ [] in
      let short = size_short menu (behind_first faults _ _ told-all.fine) in
      in_range_lem 4 64 size (omega (arith, told-all.all, with_length (cm_offer own function) blocks, menu_length house_count (cm_offer own function))) (omega (arith, told-all.all, short));
  cm_alone = λ own function out size told.
      let offer = cm_offer own function in
      let all = (counted _ (with_field offer []) out size told).all in
      let alone : length (field_of []) ≡ 0 = ap length (field_none [] refl) in
      in_range_lem 4 7 size (omega (arith, all, alone, with_length offer [], menu_length house_count offer)) (omega (arith, all, alone, with_length offer [], menu_short offer));
  field_size = λ heard out size told.
      let told-all = counted _ (field_octets (group_of heard field_tag)) out size told in
      in_range_lem 0 38 size (omega arith) (omega (arith, told-all.all, field_few heard (before_none _ _ told-all.fine).0));
  jm_size = λ own heard out size told.
      let menu = jm_of own heard in
      let jm = jm_offer own (offer_of heard) in
      let told-all = counted _ menu out size told in
      let short = size_short menu (behind_first (record_fault own ∷ list_fault Reading heard ∷ []) _ _ told-all.fine) in
      in_range_lem 1 64 size (omega (arith, told-all.all, menu_length (modulation_count jm heard) jm)) (omega (arith, told-all.all, short));
  many_reports_apart = λ rec rec' bits bits' e alike. told_code_injective _ _ (many_tells rec bits).known (many_tells rec' bits').known e alike;
}

-- an event that carries what it may not is refused with 9
carried_by_none : (jm cm : Bool) (rest : Bool) → either jm cm ≡ true → when jm false (when cm false rest) ≡ false
unfolding when either
carried_by_none true cm rest menu-event = refl
carried_by_none false true rest menu-event = refl
carried_by_none false false rest menu-event = clash (sym menu-event)

no_event_carries : (event : ℕ) → either (eqb event agreed_jm) (eqb event agreed_cm) ≡ true → carries event nothing_carried ≡ false
unfolding both either
no_event_carries event menu-event = carried_by_none (eqb event agreed_jm) (eqb event agreed_cm) _ menu-event

no_cm_carries : carries agreed_cm refused_with_11 ≡ false
unfolding when both either
no_cm_carries = refl

refused_with_9 : (s : Session) (event value now : ℕ) → in_range s ≡ true → (s.state ≡ over → ⊥) → carries event value ≡ false → stepped s event value now ≡ refused_step 9 s
unfolding stepped_in when
refused_with_9 s event value now inside going not-Carried =
    let neither : both (owns s.end event) (carries event value) ≡ false = ap (both (owns s.end event)) not-Carried ∙ both_neither (owns s.end event) in
    simp (inside, ne_eqb _ _ going, neither)

pub choices_are_handed_over : ChoicesAreHandedOver
choices_are_handed_over = record {
  handed = λ cm jm. (choice_tells cm jm).handed;
  unread = λ s event now menu-event inside going. refused_with_9 s event nothing_carried now inside going (no_event_carries event menu-event);
  not_for_cm = λ s now inside going. refused_with_9 s agreed_cm refused_with_11 now inside going no_cm_carries;
}
