-- How many modulation octets a JM has: whether it has an item from 1 on is whether a mode is in common; and where it has none, item 0 is all that
-- its group could say, so what is read of it, and chosen, stays.
-- Assumes nothing.
use Prim.Native.Nat.{ℕ, zero, suc, ◌<◌, ◌≤◌, ◌+◌}
use native.Mathlib.Nat.{lt_of_le_of_lt}
use native.Mathlib.Omega.{arith}
use mathlib.Core.Path.{◌≡◌, refl, sym, ap, ap₂, ◌∙◌}
use mathlib.Core.Bool.{Bool, true, false}
use mathlib.Core.List.{List, [], ◌∷◌}
use borrow.Author.Tests.{le-ltb, ltb-true, ltb-false}
use lib.Bits.{and_le_r}
use lib.Dec.{ltb}
use lib.ListN.{length, drop, replicate}
use Rattle.laws.specs.Logic.{when, both}
use Rattle.laws.specs.Joined.{joined}
use Rattle.laws.proofs.Logic.{clash}
use Rattle.octets.specs.Octets.{call_function_tag, category_octet}
use Rattle.items.specs.Items.{places, place_of, has_item, in_set, item_bits, modulation, no_items, modulation_octet}
use Rattle.items.proofs.Bits.{set_within}
use Rattle.items.proofs.Sets.{set_small, past_set}
use Rattle.items.proofs.Places.{octet_past}
use Rattle.menus.specs.declared.Offer.{Offer}
use Rattle.menus.specs.Groups.{group_of}
use Rattle.menus.specs.Offer.{Read, offers, refusal, offer_of, menu_read}
use Rattle.menus.proofs.Reading.{menu_read_lem}
use Rattle.records.specs.declared.Record.{Record}
use Rattle.records.specs.Record.{flag, in_use}
use Rattle.offers.specs.Offering.{bit, shared_items, jm_pcm}
use Rattle.offers.specs.Making.{modulation_from, modulation_group, house_count, groups_of, menu_of}
use Rattle.offers.proofs.Making.{bit_small}
use Rattle.offers.proofs.Meaning.{menu_readable, house_fits, read_back}
use Rattle.offers.proofs.Saying.{with_item_0_small}
use Rattle.choices.specs.Choosing.{lowest_from, chosen_from, on_read, choice_of}
use Rattle.demands.specs.Joint.{AcceptedRecord, jm_of, jm_says, has, is_available, has_for, NoModeInCommon}
use Rattle.demands.specs.HeardCount.{jm_of_three, no_mode_group, CountsAsHeard, ChoosesAsBefore}
use Rattle.demands.proofs.Shared.{has_read}
use Rattle.demands.proofs.Joint.{offered, counted, group_counted, sayable, jm_back, item_said, available_used, offered_item}

-- whether JM has a mode
module _ (own : Record) (heard : List ℕ) where
  offered_small : (offered own heard).items < 8192
  offered_small =
      let ours = in_use own (offer_of heard).function in
      with_item_0_small (ltb 0 (jm_pcm ours (offer_of heard))) (shared_items ours (offer_of heard)) (lt_of_le_of_lt (and_le_r ours.items (offer_of heard).items) (set_small (has_item (group_of heard modulation)) 13))

  pub mode_there : (i : ℕ) → 0 < i → i < 13 → both (has_for own (offer_of heard).function i) (has heard i) ≡ true → ltb 1 (offered own heard).items ≡ true
  mode_there i low high shared = go (ltb 1 (offered own heard).items) refl
    where
      go : (t : Bool) → ltb 1 (offered own heard).items ≡ t → t ≡ true
      go true there = refl
      go false few =
          let missing = past_set 1 (offered own heard).items i (omega (arith, ltb-false 1 (offered own heard).items few)) low in
          clash (sym shared ∙ sym (offered_item own heard i low high) ∙ missing)

  module _ (none : NoModeInCommon own heard) where
    no_items_lem : (offered own heard).items < 2
    no_items_lem = set_within 1 (offered own heard).items (λ i low. go i low (ltb i 13) refl)
      where
        go : (i : ℕ) → 0 < i → (t : Bool) → ltb i 13 ≡ t → in_set (offered own heard).items i ≡ false
        go i low true high = offered_item own heard i low (ltb-true i 13 high) ∙ none i low (ltb-true i 13 high)
        go i low false past = past_set 13 (offered own heard).items i offered_small (ltb-false i 13 past)

    pub no_mode : ltb 1 (offered own heard).items ≡ false
    no_mode = le-ltb 1 (offered own heard).items (omega (arith, no_items_lem))

    -- and then its count is the heard one
    pub heard_count : counted own heard ≡ length (group_of heard modulation)
    unfolding when
    heard_count = simp no_mode

    item_0_alone : (offered own heard).items ≡ bit (ltb 0 (offered own heard).pcm)
    item_0_alone = omega (arith, no_items_lem, bit_small (ltb 0 (offered own heard).pcm))

-- a group that says item 0 or nothing
bare_octet : (t : Bool) (octet : ℕ) → modulation_octet (bit t) (suc octet) ≡ no_items
unfolding modulation_octet item_bits places place_of when
bare_octet true zero = refl
bare_octet true (suc zero) = refl
bare_octet false zero = refl
bare_octet false (suc zero) = refl
bare_octet t (suc (suc octet)) = octet_past (bit t) (suc (suc (suc octet))) (omega arith)

bare_from : (t : Bool) (octet more : ℕ) → modulation_from (bit t) (suc octet) more ≡ replicate more 0x10
unfolding modulation_from
bare_from t octet zero = refl
bare_from t octet (suc more) = ap₂ (λ (b : ℕ) (l : List ℕ). b ∷ l) (bare_octet t octet) (bare_from t (suc octet) more)

bare_first : (t : Bool) → modulation_octet (bit t) 0 ≡ when t 0x25 0x05
unfolding modulation_octet item_bits places place_of when
bare_first true = refl
bare_first false = refl

bare_group : (t : Bool) (count : ℕ) → modulation_group count (bit t) ≡ no_mode_group count t
unfolding modulation_from
bare_group t zero = refl
bare_group t (suc more) = ap₂ (λ (b : ℕ) (l : List ℕ). b ∷ l) (bare_first t) (bare_from t 0 more)

module _ (own : Record) (good : AcceptedRecord own) (heard : List ℕ) where
  -- with another function nothing is in common
  another_function : ((offer_of (jm_of own heard)).function ≡ (offer_of heard).function → ⊥) → NoModeInCommon own heard
  unfolding both when
  another_function differs i low high = go (is_available own (offer_of heard).function) refl
    where
      go : (t : Bool) → is_available own (offer_of heard).function ≡ t → both (has_for own (offer_of heard).function i) (has heard i) ≡ false
      go true there =
          let same : flag (in_use own (offer_of heard).function).available ≡ true = sym (available_used own (offer_of heard).function) ∙ there in
          absurd (differs (ap (λ (o : Offer). o.function) (jm_back own heard good) ∙ simp same))
      go false missing = simp missing

  pub counts_as_heard : CountsAsHeard own heard
  unfolding when joined modulation_from
  counts_as_heard =
      let jm = offered own heard in
      let same_count : NoModeInCommon own heard → length (group_of (jm_of own heard) modulation) ≡ length (group_of heard modulation) = λ none. group_counted own heard ∙ heard_count own heard none in
      record {
        common = λ i low high shared. ap (λ (t : Bool). menu_of (when t house_count (length (group_of heard modulation))) jm) (mode_there own heard i low high shared);
        three = λ i low high shared. group_counted own heard ∙ ap (λ (t : Bool). when t house_count (length (group_of heard modulation))) (mode_there own heard i low high shared);
        alone = same_count;
        another = λ differs. same_count (another_function differs);
        octets = λ none.
            let pcm : (offer_of (jm_of own heard)).pcm ≡ jm.pcm = ap (λ (o : Offer). o.pcm) (jm_back own heard good) in
            let group : modulation_group (counted own heard) jm.items ≡ no_mode_group (length (group_of heard modulation)) (ltb 0 (offer_of (jm_of own heard)).pcm) =
            ap₂ modulation_group (heard_count own heard none) (item_0_alone own heard none)
            ∙ bare_group (ltb 0 jm.pcm) (length (group_of heard modulation))
            ∙ ap (λ (n : ℕ). no_mode_group (length (group_of heard modulation)) (ltb 0 n)) (sym pcm) in
            ap (λ (g : List ℕ). joined ((category_octet call_function_tag jm.function ∷ []) ∷ g ∷ drop 2 (groups_of house_count jm))) group;
      }

  -- what is read of it
  read_three : offer_of (jm_of_three own heard) ≡ offered own heard
  read_three = read_back (offered own heard) (sayable own heard good)

  -- the lowest item from 1 on goes by the items from 1 on
  lowest_from_lem : (i n : ℕ) → 0 < i → lowest_from (jm_says own heard).items i n ≡ lowest_from (offered own heard).items i n
  unfolding lowest_from
  lowest_from_lem i zero low = refl
  lowest_from_lem i (suc n) low = rw (item_said own heard i low, lowest_from_lem (i + 1) n (omega arith))

  same_chosen : (cm : Offer) → chosen_from cm (jm_says own heard) ≡ chosen_from cm (offered own heard)
  unfolding chosen_from
  same_chosen cm = rw (lowest_from_lem 1 12 (omega arith))

  on_read_lem : (cm : Read) → on_read cm (λ offer. chosen_from offer (jm_says own heard)) ≡ on_read cm (λ offer. chosen_from offer (offered own heard))
  on_read_lem (offers cm) = same_chosen cm
  on_read_lem (refusal n) = refl

  pub chooses_as_before : length (jm_of own heard) ≤ 64 → ChoosesAsBefore own heard
  chooses_as_before fits =
      let jm = offered own heard in
      let back = jm_back own heard good in
      let chooses : (menu : List ℕ) (meant : Offer) → menu_read menu ≡ offers meant → (cm : List ℕ) → choice_of cm menu ≡ on_read (menu_read cm) (λ offer. chosen_from offer meant) =
      λ menu meant is cm. ap (λ (r : Read). on_read (menu_read cm) (λ offer. on_read r (λ answer. chosen_from offer answer))) is in
      let read-jm = menu_read_lem (jm_of own heard) (menu_readable (counted own heard) jm fits) ∙ ap offers back in
      let read-other = menu_read_lem (jm_of_three own heard) (menu_readable house_count jm (house_fits jm)) ∙ ap offers read_three in
      record {
        function = ap (λ (o : Offer). o.function) back ∙ ap (λ (o : Offer). o.function) (sym read_three);
        items = λ i low high. has_read (jm_of own heard) i high ∙ ap (λ (o : Offer). in_set o.items i) back ∙ item_said own heard i low ∙ ap (λ (o : Offer). in_set o.items i) (sym read_three) ∙ sym (has_read (jm_of_three own heard) i high);
        pcm = ap (λ (o : Offer). o.pcm) back ∙ ap (λ (o : Offer). o.pcm) (sym read_three);
        choice = λ cm. chooses (jm_of own heard) (jm_says own heard) read-jm cm ∙ on_read_lem (menu_read cm) ∙ sym (chooses (jm_of_three own heard) jm read-other cm);
      }
