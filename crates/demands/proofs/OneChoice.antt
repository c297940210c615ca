-- Where menus arrive as sent both ends name the same choice, never one that was not offered, and none exactly where nothing is shared. The
-- JM holds what both have, so each reason to refuse a choice fails; what a choice says of the menus is then said of the records.
-- Assumes nothing.
use Prim.Native.Nat.{ℕ, ◌<◌, ◌≤◌, ◌*◌, ◌/◌, ◌%◌, ◌^◌}
use native.Mathlib.Omega.{arith}
use mathlib.Core.Path.{◌≡◌, refl, sym, ap, ap₂, subst, ◌∙◌}
use mathlib.Core.Bool.{Bool, true, false}
use mathlib.Core.List.{List}
use mathlib.Core.Logic.{⊎_elim}
use borrow.Author.Tests.{eqb-true, eqb-false, eq-eqb}
use lib.Dec.{T, ltb, eqb, ltb→lt, eqb→eq, lit<}
use lib.ListN.{length}
use Rattle.laws.specs.Logic.{when, both}
use Rattle.laws.specs.Tests.{all_below}
use Rattle.laws.proofs.Logic.{either_way, both_true, clash}
use Rattle.laws.proofs.Computed.{below, both_left, both_right}
use Rattle.octets.specs.declared.Purpose.TheVariants.{Reading}
use Rattle.octets.specs.Lists.{list_fault}
use Rattle.menus.specs.declared.Offer.{Offer}
use Rattle.items.specs.Items.{in_set}
use Rattle.menus.specs.Offer.{offer_of}
use Rattle.records.specs.declared.Modes.{Modes}
use Rattle.records.specs.declared.Record.{Record}
use Rattle.records.specs.Record.{flag, in_use}
use Rattle.records.proofs.Good.{good_modes, none_used}
use Rattle.offers.specs.Offering.{bit, with_item_1, cm_offer, jm_offer}
use Rattle.offers.specs.Making.{modulation_count}
use Rattle.offers.proofs.Making.{size_fits}
use Rattle.offers.proofs.Meaning.{menu_readable, house_fits}
use Rattle.offers.proofs.Fields.{with_readable}
use Rattle.menus.specs.Pcm.{v91, paired}
use Rattle.menus.proofs.Pcm.{paired_small}
use Rattle.choices.specs.Choosing.{Chosen, none, item, pcm, refusal, choice_of}
use Rattle.demands.specs.Joint.{AcceptedRecord, cm_of, jm_of, has, has_for, pcm_for, HoldsWhatBothHave, HoldsWhatBothRecordsHave}
use Rattle.demands.specs.OneChoice.{Call, NothingShared, caller_names, answerer_names, BothNameOneChoice, NothingInBoth, AnswersAnyCm}
use Rattle.demands.specs.Shared.{NothingOffered, SharedPcm, NotShared, cm_unread, jm_unread, item_missing, none_pairs, Shared}
use Rattle.demands.proofs.Shared.{crosswise, by_bits, choice_is_shared}
use Rattle.demands.proofs.Joint.{jm_back, answered_house, pcm_made, has_used, pcm_used, available_used, pcm_from_records, jm_holds_what_both_have, jm_holds_what_both_records_have}

-- options that pair still pair in the answer, and b5 or b6 among them come from both ends
abbrev pairs : ℕ → ℕ → Bool → Bool
pairs theirs ours t = eqb (paired theirs (with_item_1 t (paired theirs ours))) (with_item_1 t (paired theirs ours))

abbrev from_both : ℕ → ℕ → Bool
from_both theirs ours = when (eqb (paired theirs ours % 4) 0) true (both (ltb 0 (theirs % 4)) (ltb 0 (ours % 4)))

abbrev pairing : ℕ → ℕ → Bool
pairing theirs ours = both (both (pairs theirs ours true) (pairs theirs ours false)) (from_both theirs ours)

module _ (theirs ours : ℕ) (theirs_small : theirs < 8) (ours_small : ours < 8) where
  computed : T (pairing theirs ours)
  unfolding paired when both all_below
  computed = below (pairing theirs) 8 (below (λ (a : ℕ). all_below (pairing a) 8) 8 tt theirs theirs_small) ours ours_small

  pairs_again : (t : Bool) → paired theirs (with_item_1 t (paired theirs ours)) ≡ with_item_1 t (paired theirs ours)
  pairs_again true = eqb→eq _ _ (both_left (pairs theirs ours true) (pairs theirs ours false) (both_left _ (from_both theirs ours) computed))
  pairs_again false = eqb→eq _ _ (both_right (pairs theirs ours true) (pairs theirs ours false) (both_left _ (from_both theirs ours) computed))

  both_have : (paired theirs ours % 4 ≡ 0 → ⊥) → (0 < theirs % 4) × (0 < ours % 4)
  both_have some =
      either_way (λ (b : Bool). T b → (0 < theirs % 4) × (0 < ours % 4)) (eqb (paired theirs ours % 4) 0) _ _
      (λ t _. absurd (some (eqb-true _ _ t)))
      (λ _ t. (ltb→lt 0 (theirs % 4) (both_left _ (ltb 0 (ours % 4)) t), ltb→lt 0 (ours % 4) (both_right (ltb 0 (theirs % 4)) _ t)))
      (both_right (both (pairs theirs ours true) (pairs theirs ours false)) _ computed)

-- an end without PCM pairs with nothing
no_pcm_lem : (t : Bool) (theirs : ℕ) → with_item_1 t (paired theirs 0) ≡ 0
unfolding paired when
no_pcm_lem true theirs = omega arith
no_pcm_lem false theirs = omega arith

no_item_1 : (t : Bool) (n : ℕ) → t ≡ false → bit t * n ≡ 0
unfolding when
no_item_1 true n e = clash e
no_item_1 false n e = omega arith

-- what kind of choice it is
abbrev pub kind_of : Chosen → ℕ
kind_of none = 0
kind_of (item i) = 1
kind_of (pcm options) = 2
kind_of (refusal n) = 3

-- options of a menu are below 8
options_small : (menu : List ℕ) → (offer_of menu).pcm < 8
options_small menu = either_way (λ (n : ℕ). n < 8) _ _ _ (λ _. omega arith) (λ _. lit< tt)

pcm_small : (own : Record) → AcceptedRecord own → (function : ℕ) → pcm_for own function < 8
pcm_small own good function = subst (λ (n : ℕ). n < 8) (sym (pcm_used own function)) (good_modes own good.good function).pcm

-- whatever CM is heard, as far as it can be read
module _ (own : Record) (good : AcceptedRecord own) (heard : List ℕ) (readable : list_fault Reading heard ≡ 0) (fits : length (jm_of own heard) ≤ 64) where
  abbrev function : ℕ
  function = (offer_of heard).function

  abbrev jm : List ℕ
  jm = jm_of own heard

  holds : HoldsWhatBothHave own heard
  holds = jm_holds_what_both_have own good heard

  same_by : (t : Bool) → flag (in_use own function).available ≡ t → (t ≡ false → ⊥) → (offer_of heard).function ≡ (jm_offer own (offer_of heard)).function
  unfolding when
  same_by true e n = simp e
  same_by false e n = absurd (n refl)

  -- where the function is available JM has the same
  same_function : (flag (in_use own function).available ≡ false → ⊥) → (offer_of heard).function ≡ (offer_of jm).function
  same_function some = same_by (flag (in_use own function).available) refl some ∙ sym (ap (λ (o : Offer). o.function) (jm_back own heard good))

  -- an item of JM is in both, and its function is available
  item_in_both : (i : ℕ) → 0 < i → i < 13 → has jm i ≡ true → (has_for own function i ≡ true) × (has heard i ≡ true)
  item_in_both i low high there = both_true _ _ (sym (holds.items i low high) ∙ there)

  item_available : (i : ℕ) → has_for own function i ≡ true → flag (in_use own function).available ≡ false → ⊥
  item_available i there missing = clash (sym (both_true _ _ there).0 ∙ available_used own function ∙ missing)

  -- so is a PCM option
  pcm_available : 0 < (offer_of jm).pcm → flag (in_use own function).available ≡ false → ⊥
  pcm_available counted missing =
      let none : pcm_for own function ≡ 0 = pcm_used own function ∙ ap (λ (m : Modes). m.pcm) (none_used own.functions function missing) in
      omega (arith, counted, pcm_made own good heard ∙ ap (λ (n : ℕ). with_item_1 (has jm 1) (paired (offer_of heard).pcm n)) none ∙ no_pcm_lem (has jm 1) (offer_of heard).pcm)

  -- and it pairs again
  jm_pairs : paired (offer_of heard).pcm (offer_of jm).pcm ≡ (offer_of jm).pcm
  jm_pairs =
      subst (λ (n : ℕ). paired (offer_of heard).pcm n ≡ n) (sym (pcm_made own good heard))
      (pairs_again (offer_of heard).pcm (pcm_for own function) (options_small heard) (pcm_small own good function) (has jm 1))

  jm_read : list_fault Reading jm ≡ 0
  jm_read = menu_readable (modulation_count (jm_offer own (offer_of heard)) heard) (jm_offer own (offer_of heard)) fits

  -- so the choice is not refused
  not_refused : (n : ℕ) → NotShared heard jm n → ⊥
  not_refused n (cm_unread bad) = bad readable
  not_refused n (jm_unread _ bad) = bad jm_read
  not_refused n (item_missing i _ here why) =
      let shared = item_in_both i here.low here.high here.answered in
      ⊎_elim (λ differ. differ (same_function (item_available i shared.0))) (λ missing. clash (sym shared.1 ∙ missing)) why
  not_refused n (none_pairs _ counted why) = ⊎_elim (λ differ. differ (same_function (pcm_available counted))) (λ unpaired. omega (arith, counted, jm_pairs, unpaired)) why

  -- the choice is none, an item from 1 to 12, or PCM options from 1 to 7
  of_shared : (P : Chosen → Type 0) → P none → ((i : ℕ) → 0 < i → i < 13 → P (item i)) → ((options : ℕ) → 0 < options → options < 8 → P (pcm options)) → (c : Chosen) → Shared heard jm c → P c
  of_shared P no_mode an_item some-options none s = no_mode
  of_shared P no_mode an_item some-options (item i) s = an_item i s.item.low s.item.high
  of_shared P no_mode an_item some-options (pcm options) s = some-options options s.some s.high
  of_shared P no_mode an_item some-options (refusal n) s = absurd (not_refused n s)

  pub choice_case : (P : Chosen → Type 0) → P none → ((i : ℕ) → 0 < i → i < 13 → P (item i)) → ((options : ℕ) → 0 < options → options < 8 → P (pcm options)) → P (choice_of heard (jm_of own heard))
  choice_case P no_mode an_item some-options = of_shared P no_mode an_item some-options (choice_of heard jm) (choice_is_shared heard jm).shared

  -- without an item only V.91 could be in JM
  no_pcm_left : NothingInBoth own heard → (offer_of jm).pcm ≡ 0
  no_pcm_left nothing =
      let alone : has jm 1 ≡ false = holds.items 1 (lit< tt) (lit< tt) ∙ nothing.items 1 (lit< tt) (lit< tt) in
      by_bits (offer_of jm).pcm 0 (options_small jm) (lit< tt)
      (holds.b5 ∙ no_item_1 (has jm 1) _ alone) (holds.b6 ∙ no_item_1 (has jm 1) _ alone) (holds.b7 ∙ nothing.b7)

  pub answers_any_cm : AnswersAnyCm own heard
  answers_any_cm = record {
    offered = λ n e. not_refused n (subst (Shared heard jm) e (choice_is_shared heard jm).shared);
    clears = λ e.
        let offered = subst (Shared heard jm) e (choice_is_shared heard jm).shared in
        record { items = λ i low high. sym (holds.items i low high) ∙ offered.items i low high; b7 = sym holds.b7 ∙ ap v91 offered.uncounted };
    cleared = λ nothing.
        (choice_is_shared heard jm).alone none
        (record {
          readable = record { asked = readable; answered = jm_read };
          uncounted = no_pcm_left nothing;
          items = λ i low high. holds.items i low high ∙ nothing.items i low high;
        });
  }

-- between two records
module _ (caller answerer : Record) (function : ℕ) (blocks : List ℕ) (call : Call caller answerer function blocks) where
  abbrev asks : ℕ
  asks = pcm_for caller function

  abbrev answers : ℕ
  answers = pcm_for answerer function

  abbrev sent : List ℕ
  sent = cm_of caller function blocks

  abbrev answered : List ℕ
  answered = jm_of answerer sent

  from_both_lem : HoldsWhatBothRecordsHave caller answerer function answered
  from_both_lem = jm_holds_what_both_records_have caller answerer function blocks call

  sent_readable : list_fault Reading sent ≡ 0
  sent_readable = with_readable (cm_offer caller function) blocks (size_fits sent call.fits)

  -- as JM has three octets it is short
  pub answered_fits : length (jm_of answerer (cm_of caller function blocks)) ≤ 64
  answered_fits = rw (answered_house caller answerer function blocks call) (house_fits (jm_offer answerer (offer_of sent)))

  -- b5 and b6 that pair need no test of item 1: both ends have it
  item_1 : (own : Record) → AcceptedRecord own → 0 < pcm_for own function % 4 → has_for own function 1 ≡ true
  unfolding in_set
  item_1 own good some = has_used own function 1 ∙ eq-eqb ((in_use own function).items / 2 ^ 1 % 2) 1 ((good_modes own good.good function).item_1 (λ z. omega (arith, z, some, pcm_used own function)))

  crossed_item_1 : (paired asks answers % 4 ≡ 0 → ⊥) → both (has_for caller function 1) (has_for answerer function 1) ≡ true
  unfolding both
  crossed_item_1 some =
      let ends = both_have asks answers (pcm_small caller call.calling function) (pcm_small answerer call.answering function) some in
      simp (item_1 caller call.calling ends.0, item_1 answerer call.answering ends.1)

  exact_by : (t low : Bool) → both (has_for caller function 1) (has_for answerer function 1) ≡ t → eqb (paired asks answers % 4) 0 ≡ low → with_item_1 t (paired asks answers) ≡ paired asks answers
  unfolding when
  exact_by true low item-1-is crossed-is = refl
  exact_by false true item-1-is crossed-is = omega (arith, eqb-true (paired asks answers % 4) 0 crossed-is)
  exact_by false false item-1-is crossed-is = clash (sym (crossed_item_1 (eqb-false _ _ crossed-is)) ∙ item-1-is)

  -- the PCM options of the JM are those that pair
  pcm_exact : (offer_of answered).pcm ≡ paired asks answers
  pcm_exact = pcm_from_records caller answerer function blocks call ∙ exact_by (both (has_for caller function 1) (has_for answerer function 1)) (eqb (paired asks answers % 4) 0) refl refl

  -- PCM options that are chosen are those of the JM
  pcm_named : (options : ℕ) → SharedPcm sent answered options → options ≡ paired asks answers
  pcm_named options s =
      let bits = crosswise (offer_of sent).pcm (offer_of answered).pcm in
      by_bits options (paired (offer_of sent).pcm (offer_of answered).pcm) s.high (paired_small (offer_of sent).pcm (offer_of answered).pcm) (s.b5 ∙ sym bits.0) (s.b6 ∙ sym bits.1) (s.b7 ∙ sym bits.2)
      ∙ jm_pairs answerer call.answering sent sent_readable answered_fits ∙ pcm_exact

  nothing_offered : NothingShared caller answerer function → NothingOffered sent answered
  nothing_offered nothing = record {
    readable = record { asked = sent_readable; answered = jm_read answerer call.answering sent sent_readable answered_fits };
    uncounted = pcm_exact ∙ nothing.pcm;
    items = λ i low high. from_both_lem.items i low high ∙ nothing.items i low high;
  }

  pub both_ends_name_one_choice : (heard_cm heard_jm : List ℕ) → heard_cm ≡ cm_of caller function blocks → heard_jm ≡ jm_of answerer heard_cm → BothNameOneChoice caller answerer function blocks heard_cm heard_jm
  both_ends_name_one_choice heard_cm heard_jm asSent asAnswered =
      let named : caller_names caller function blocks heard_jm ≡ answerer_names answerer sent = ap (choice_of sent) (asAnswered ∙ ap (jm_of answerer) asSent) in
      let says : (c : Chosen) → caller_names caller function blocks heard_jm ≡ c → Shared sent answered c = λ c e. subst (Shared sent answered) (sym named ∙ e) (choice_is_shared sent answered).shared in
      record {
        same = ap₂ choice_of (sym asSent) asAnswered;
        offered = λ n e. not_refused answerer call.answering sent sent_readable answered_fits n (says (refusal n) e);
        clears = λ e.
            let offered = says none e in
            record { items = λ i low high. sym (from_both_lem.items i low high) ∙ offered.items i low high; pcm = sym pcm_exact ∙ offered.uncounted };
        cleared = λ nothing. named ∙ (choice_is_shared sent answered).alone none (nothing_offered nothing);
        as_item = λ i e.
            let here = (says (item i) e).item in
            record {
              unpaired = sym pcm_exact ∙ here.uncounted;
              low = here.low;
              high = here.high;
              shared = sym (from_both_lem.items i here.low here.high) ∙ here.answered;
              lowest = λ lower low below. sym (from_both_lem.items lower low (omega (arith, below, here.high))) ∙ here.lowest lower low below;
            };
        as_pcm = λ options e. pcm_named options (says (pcm options) e);
      }
