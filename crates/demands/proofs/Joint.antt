-- The JM that is made holds exactly what is shared, and what is made reads back as it was meant. What is read back is the draft, and the
-- draft's set of items and its PCM options hold a bit exactly where both ends do; item 0 is apart from the others.
-- Assumes nothing.
use Prim.Native.Nat.{ℕ, zero, suc, ◌<◌, ◌+◌, ◌*◌, ◌/◌, ◌%◌, ◌^◌}
use native.Mathlib.Nat.{one-mul}
use native.Mathlib.Omega.{arith}
use mathlib.Core.Path.{◌≡◌, refl, sym, ap, ap₂, ◌∙◌}
use mathlib.Core.Bool.{Bool, true, false}
use mathlib.Core.List.{List, append_assoc, append-nil}
use borrow.Author.Tests.{eq-eqb, ne_eqb, eqb-true, ltb-false}
use lib.Dec.{ltb, eqb, lit<}
use lib.ListN.{length}
use Rattle.laws.specs.Logic.{when, both, either}
use Rattle.laws.specs.Joined.{joined}
use Rattle.laws.proofs.Logic.{either_way, both_neither, bit_of_test}
use Rattle.menus.specs.declared.Offer.{Offer}
use Rattle.items.specs.Items.{in_set, modulation}
use Rattle.menus.specs.Groups.{group_of}
use Rattle.menus.specs.Offer.{pcm_tag, protocol, access, offer_of}
use Rattle.items.proofs.Bits.{in_both, same_half}
use Rattle.items.proofs.Sets.{none_in, past_set}
use Rattle.records.specs.declared.Modes.{Modes}
use Rattle.records.specs.declared.Record.{Record}
use Rattle.records.specs.Record.{flag, no_modes, modes_at, in_use}
use Rattle.offers.specs.Offering.{bit, with_item_0, access_options, cm_access, cm_offer, with_item_1, shared_items, jm_pcm, jm_offer, with_items}
use Rattle.menus.specs.Pcm.{analogue, digital, v91, paired}
use Rattle.offers.specs.Making.{house_count, menu_of, modulation_count}
use Rattle.offers.proofs.Making.{modulation_length, bit_small}
use Rattle.offers.proofs.Meaning.{Sayable, modulation_found, pcm_found, protocol_found, access_found, read_with, read_back, jm_items}
use Rattle.offers.proofs.Fields.{no_field, own_field, other_group, offer_kept}
use Rattle.offers.proofs.Saying.{cm_sayable, jm_sayable}
use Rattle.demands.specs.Joint.{AcceptedRecord, cm_of, jm_of, jm_says, has, StandsInOrder, MenusAreOfTheHouse, filled_in, is_available, has_for, pcm_for, says_cellular, SaysWhatTheRecordHas, HoldsWhatBothHave, HoldsWhatBothRecordsHave}
use Rattle.demands.specs.OneChoice.{Call}
use Rattle.demands.proofs.Shared.{has_read, crosswise}

-- what was meant is read
pub cm_back : (own : Record) → AcceptedRecord own → (function : ℕ) (blocks : List ℕ) → (in_use own function).available ≡ 1 → offer_of (cm_of own function blocks) ≡ cm_offer own function
cm_back own good function blocks there = offer_kept (cm_offer own function) blocks ∙ read_back (cm_offer own function) (cm_sayable own good.six good.good function there)

module _ (own : Record) (heard : List ℕ) where
  abbrev pub offered : Offer
  offered = jm_offer own (offer_of heard)

  abbrev pub counted : ℕ
  counted = modulation_count offered heard

  pub group_counted : length (group_of (jm_of own heard) modulation) ≡ counted
  group_counted = ap length (modulation_found counted offered) ∙ modulation_length offered.items counted

  module _ (good : AcceptedRecord own) where
    pub sayable : Sayable offered
    sayable = jm_sayable own good.six good.good (offer_of heard) (omega arith)

    pub jm_back : offer_of (jm_of own heard) ≡ jm_says own heard
    jm_back =
        read_with counted offered sayable
        ∙ ap (with_items offered) (jm_items offered heard sayable.items ∙ ap (λ (n : ℕ). when (ltb 0 n) offered.items 0) (sym group_counted))

  -- item 0 may be missing where it stands alone, and no other
  pub item_said : (i : ℕ) → 0 < i → in_set (jm_says own heard).items i ≡ in_set offered.items i
  unfolding when
  item_said i low = rw group_counted
      (either_way (λ (count : ℕ). in_set (when (ltb 0 count) offered.items 0) i ≡ in_set offered.items i) (ltb 1 offered.items) house_count (length (group_of heard modulation))
      (λ _. refl)
      (λ few. either_way (λ (items : ℕ). in_set items i ≡ in_set offered.items i) (ltb 0 (length (group_of heard modulation))) offered.items 0 (λ _. refl)
      (λ _. none_in i ∙ sym (past_set 1 offered.items i (omega (arith, ltb-false 1 offered.items few)) low))))

-- how a menu is put together: three octets, and each group behind the last
cm_count : (own : Record) (function : ℕ) (blocks : List ℕ) → length (group_of (cm_of own function blocks) modulation) ≡ 3
cm_count own function blocks =
    let offer = cm_offer own function in
    ap length (other_group offer blocks modulation refl ∙ modulation_found house_count offer) ∙ modulation_length offer.items house_count

in_order : (count : ℕ) (offer : Offer) → StandsInOrder (menu_of count offer)
unfolding joined
in_order count offer = rw (modulation_found count offer, pcm_found count offer, protocol_found count offer, access_found count offer, no_field count offer) refl

field_in_order : (own : Record) (function : ℕ) (blocks : List ℕ) → StandsInOrder (cm_of own function blocks)
unfolding joined
field_in_order own function blocks =
    let offer = cm_offer own function in
    let other = other_group offer blocks in
    rw (other modulation refl ∙ modulation_found house_count offer, other pcm_tag refl ∙ pcm_found house_count offer, other protocol refl ∙ protocol_found house_count offer, other access refl ∙ access_found house_count offer, own_field offer blocks)
    (simp (append_assoc, append-nil))

pub menus_are_of_the_house : MenusAreOfTheHouse
menus_are_of_the_house = record { three = cm_count; cm = field_in_order; jm = λ own heard. in_order (counted own heard) (offered own heard) }

-- item 0 is apart from the others
beside_item_0 : (there : Bool) (items i : ℕ) → 0 < i → in_set (with_item_0 there items) i ≡ in_set items i
beside_item_0 there items i h = same_half (with_item_0 there items) items i (omega (arith, bit_small there)) h

-- what is filled in counts where the function is available
used : (own : Record) (function : ℕ) → in_use own function ≡ when (is_available own function) (filled_in own function) no_modes
unfolding modes_at when
used own zero = refl
used own (suc n) = refl

items_by : (t : Bool) (modes : Modes) (i : ℕ) → both t (in_set modes.items i) ≡ in_set (when t modes no_modes).items i
unfolding both when
items_by true modes i = refl
items_by false modes i = sym (none_in i)

pcm_by : (t : Bool) (modes : Modes) → when t modes.pcm 0 ≡ (when t modes no_modes).pcm
unfolding when
pcm_by true modes = refl
pcm_by false modes = refl

available_by : (t : Bool) (modes : Modes) → flag modes.available ≡ t → t ≡ flag (when t modes no_modes).available
unfolding when
available_by true modes e = sym e
available_by false modes e = refl

module _ (own : Record) (function : ℕ) where
  pub has_used : (i : ℕ) → has_for own function i ≡ in_set (in_use own function).items i
  has_used i = items_by (is_available own function) (filled_in own function) i ∙ sym (ap (λ (m : Modes). in_set m.items i) (used own function))

  pub pcm_used : pcm_for own function ≡ (in_use own function).pcm
  pcm_used = pcm_by (is_available own function) (filled_in own function) ∙ sym (ap (λ (m : Modes). m.pcm) (used own function))

  pub available_used : is_available own function ≡ flag (in_use own function).available
  available_used = available_by (is_available own function) (filled_in own function) refl ∙ sym (ap (λ (m : Modes). flag m.available) (used own function))

-- item 0 as it is told
item_0_told : (there : Bool) (items : ℕ) → in_set (with_item_0 there items) 0 ≡ there
unfolding in_set when
item_0_told true items = eq-eqb ((items / 2 * 2 + 1) / 2 ^ 0 % 2) 1 (omega arith)
item_0_told false items = ne_eqb ((items / 2 * 2 + 0) / 2 ^ 0 % 2) 1 (λ e. omega (arith, e))

-- b5 of an access group that may be missing
b5_told : (there cellular digital : Bool) → access_options there (bit cellular) 0 (bit digital) % 2 ≡ bit (both there cellular)
unfolding when both
b5_told true true true = refl
b5_told true true false = refl
b5_told true false true = refl
b5_told true false false = refl
b5_told false cellular digital = refl

-- and each of its options: 1 where the group is there and its test holds
where_there : (there b : Bool) (told k : ℕ) → in_set told k ≡ b → in_set (when there told 0) k ≡ both there b
unfolding when both
where_there true b told k e = e
where_there false b told k e = none_in k

module _ (there b5 b6 b7 : Bool) where
  abbrev told : ℕ
  told = bit b5 + 2 * bit b6 + 4 * bit b7

  as_told : (k : ℕ) (b : Bool) → told / 2 ^ k % 2 ≡ bit b → in_set (access_options there (bit b5) (bit b6) (bit b7)) k ≡ both there b
  unfolding in_set
  as_told k b e = where_there there b told k (ap (λ (n : ℕ). eqb n 1) e ∙ (bit_of_test b).1)

  b5_there : in_set (access_options there (bit b5) (bit b6) (bit b7)) 0 ≡ both there b5
  b5_there = as_told 0 b5 (omega (arith, bit_small b5, bit_small b6, bit_small b7))

  b6_there : in_set (access_options there (bit b5) (bit b6) (bit b7)) 1 ≡ both there b6
  b6_there = as_told 1 b6 (omega (arith, bit_small b5, bit_small b6, bit_small b7))

  b7_there : in_set (access_options there (bit b5) (bit b6) (bit b7)) 2 ≡ both there b7
  b7_there = as_told 2 b7 (omega (arith, bit_small b5, bit_small b6, bit_small b7))

-- b5 and b6 go with item 1, b7 without
crossed : (t : Bool) (theirs ours : ℕ) →
    (analogue (with_item_1 t (paired theirs ours)) ≡ bit t * (analogue ours * digital theirs))
    × (digital (with_item_1 t (paired theirs ours)) ≡ bit t * (digital ours * analogue theirs))
    × (v91 (with_item_1 t (paired theirs ours)) ≡ v91 ours * v91 theirs)
unfolding when
crossed true theirs ours = let bits = crosswise theirs ours in (bits.0 ∙ sym (one-mul _), bits.1 ∙ sym (one-mul _), bits.2)
crossed false theirs ours = let bits = crosswise theirs ours in (omega arith, omega arith, omega (arith, bits.2))

-- the items of a JM from 1 on are those that are in both
module _ (own : Record) (heard : List ℕ) where
  abbrev modes : Modes
  modes = in_use own (offer_of heard).function

  in_common : (i : ℕ) → i < 13 → in_set (shared_items modes (offer_of heard)) i ≡ both (has_for own (offer_of heard).function i) (has heard i)
  in_common i high = in_both modes.items (offer_of heard).items i ∙ ap₂ both (sym (has_used own (offer_of heard).function i)) (sym (has_read heard i high))

  pub offered_item : (i : ℕ) → 0 < i → i < 13 → in_set (offered own heard).items i ≡ both (has_for own (offer_of heard).function i) (has heard i)
  offered_item i low high = beside_item_0 (ltb 0 (jm_pcm modes (offer_of heard))) (shared_items modes (offer_of heard)) i low ∙ in_common i high

module _ (own : Record) (good : AcceptedRecord own) (heard : List ℕ) where
  -- an item of the JM, as one that is in both
  item_shared : (i : ℕ) → 0 < i → i < 13 → has (jm_of own heard) i ≡ in_set (shared_items (modes own heard) (offer_of heard)) i
  item_shared i low high =
      has_read (jm_of own heard) i high ∙ ap (λ (o : Offer). in_set o.items i) (jm_back own heard good) ∙ item_said own heard i low
      ∙ beside_item_0 (ltb 0 (jm_pcm (modes own heard) (offer_of heard))) (shared_items (modes own heard) (offer_of heard)) i low

  pub pcm_made : (offer_of (jm_of own heard)).pcm ≡ with_item_1 (has (jm_of own heard) 1) (paired (offer_of heard).pcm (pcm_for own (offer_of heard).function))
  pcm_made =
      ap (λ (o : Offer). o.pcm) (jm_back own heard good)
      ∙ ap₂ (λ (t : Bool) (n : ℕ). with_item_1 t (paired (offer_of heard).pcm n)) (sym (item_shared 1 (lit< tt) (lit< tt))) (sym (pcm_used own (offer_of heard).function))

  pub jm_holds_what_both_have : HoldsWhatBothHave own heard
  jm_holds_what_both_have =
      let bits = crossed (has (jm_of own heard) 1) (offer_of heard).pcm (pcm_for own (offer_of heard).function) in
      record {
        items = λ i low high. item_shared i low high ∙ in_common own heard i high;
        b5 = ap analogue pcm_made ∙ bits.0;
        b6 = ap digital pcm_made ∙ bits.1;
        b7 = ap v91 pcm_made ∙ bits.2;
      }

both_swap : (a b : Bool) → both a b ≡ both b a
unfolding both
both_swap true true = refl
both_swap true false = refl
both_swap false true = refl
both_swap false false = refl

-- what the CM says is the record, read back
module _ (own : Record) (good : AcceptedRecord own) (function : ℕ) (blocks : List ℕ) (available : is_available own function ≡ true) where
  pub says : offer_of (cm_of own function blocks) ≡ cm_offer own function
  says = cm_back own good function blocks (eqb-true _ 1 (sym (available_used own function) ∙ available))

  said : {A : Type 0} (part : Offer → A) → part (offer_of (cm_of own function blocks)) ≡ part (cm_offer own function)
  said part = ap part says

  pub cm_says_what_the_record_has : SaysWhatTheRecordHas own function (cm_of own function blocks)
  unfolding when
  cm_says_what_the_record_has =
      let pcm = (in_use own function).pcm in
      let used = pcm_used own function in
      let options_are : (k : ℕ) → in_set (offer_of (cm_of own function blocks)).access_options k ≡ in_set (access_options (offer_of (cm_of own function blocks)).access (bit (flag own.cellular)) (bit false) (bit (flag own.digital))) k =
      λ k. said (λ o. in_set o.access_options k) ∙ ap (λ (t : Bool). in_set (access_options t (bit (flag own.cellular)) 0 (bit (flag own.digital))) k) (sym (said (λ o. o.access))) in
      let b6-none : both (offer_of (cm_of own function blocks)).access false ≡ false = both_neither (offer_of (cm_of own function blocks)).access in
      record {
        named = said (λ o. o.function);
        items = λ i low high. has_read (cm_of own function blocks) i high ∙ said (λ o. in_set o.items i) ∙ beside_item_0 (ltb 0 pcm) (in_use own function).items i low ∙ sym (has_used own function i);
        pcm = said (λ o. o.pcm) ∙ sym used;
        item0 = has_read (cm_of own function blocks) 0 (lit< tt) ∙ said (λ o. in_set o.items 0) ∙ item_0_told (ltb 0 pcm) (in_use own function).items ∙ ap (λ (n : ℕ). ltb 0 n) (sym used);
        lapm = said (λ o. o.lapm);
        access = said (λ o. o.access) ∙ ap (λ (n : ℕ). either (flag own.access) (ltb 0 n)) (sym used);
        access_b5 = options_are 0 ∙ b5_there _ (flag own.cellular) false (flag own.digital);
        access_b6 = options_are 1 ∙ b6_there _ (flag own.cellular) false (flag own.digital) ∙ b6-none;
        access_b7 = options_are 2 ∙ b7_there _ (flag own.cellular) false (flag own.digital);
      }

-- from both records
module _ (caller answerer : Record) (function : ℕ) (blocks : List ℕ) (call : Call caller answerer function blocks) where
  abbrev cm : Offer
  cm = cm_offer caller function

  abbrev sent : List ℕ
  sent = cm_of caller function blocks

  abbrev answered : List ℕ
  answered = jm_of answerer sent

  asked_for : offer_of sent ≡ cm
  asked_for = says caller call.calling function blocks call.available

  -- our own CM has three octets, and so has every JM for it
  pub answered_house : answered ≡ menu_of house_count (jm_offer answerer (offer_of sent))
  unfolding when
  answered_house =
      ap (λ (count : ℕ). menu_of count (jm_offer answerer (offer_of sent)))
      (either_way (λ (count : ℕ). count ≡ house_count) (ltb 1 (jm_offer answerer (offer_of sent)).items) house_count (length (group_of sent modulation)) (λ _. refl) (λ _. cm_count caller function blocks))

  answered_with : offer_of answered ≡ jm_offer answerer cm
  answered_with = ap offer_of answered_house ∙ read_back (jm_offer answerer (offer_of sent)) (sayable answerer sent call.answering) ∙ ap (jm_offer answerer) asked_for

  from_records : (i : ℕ) → 0 < i → i < 13 → has answered i ≡ both (has_for caller function i) (has_for answerer function i)
  from_records i low high =
      (jm_holds_what_both_have answerer call.answering sent).items i low high
      ∙ ap₂ both (ap (λ (o : Offer). has_for answerer o.function i) asked_for) ((cm_says_what_the_record_has caller call.calling function blocks call.available).items i low high)
      ∙ both_swap (has_for answerer function i) (has_for caller function i)

  -- the PCM options, with what the CM says put in
  pub pcm_from_records : (offer_of answered).pcm ≡ with_item_1 (both (has_for caller function 1) (has_for answerer function 1)) (paired (pcm_for caller function) (pcm_for answerer function))
  pcm_from_records =
      pcm_made answerer call.answering sent
      ∙ ap₂ (λ (t : Bool) (o : Offer). with_item_1 t (paired o.pcm (pcm_for answerer o.function))) (from_records 1 (lit< tt) (lit< tt)) asked_for
      ∙ ap (λ (n : ℕ). with_item_1 (both (has_for caller function 1) (has_for answerer function 1)) (paired n (pcm_for answerer function))) (sym (pcm_used caller function))

  pcm_there : ltb 0 (offer_of answered).pcm ≡ ltb 0 (jm_pcm (in_use answerer function) cm)
  pcm_there = ap (λ (o : Offer). ltb 0 o.pcm) answered_with

  b5_theirs : cm.access_options % 2 ≡ bit (says_cellular caller function)
  b5_theirs =
      b5_told (cm_access caller (in_use caller function).pcm) (flag caller.cellular) (flag caller.digital)
      ∙ ap (λ (n : ℕ). bit (both (cm_access caller n) (flag caller.cellular))) (sym (pcm_used caller function))

  cellular_said : eqb (cm.access_options % 2) 1 ≡ says_cellular caller function
  cellular_said = ap (λ (n : ℕ). eqb n 1) b5_theirs ∙ (bit_of_test (says_cellular caller function)).1

  access_there : (offer_of answered).access ≡ either (flag answerer.access) (either (says_cellular caller function) (ltb 0 (offer_of answered).pcm))
  access_there =
      ap (λ (o : Offer). o.access) answered_with
      ∙ ap₂ (λ (said there : Bool). either (flag answerer.access) (either said there)) cellular_said (sym pcm_there)

  abbrev there : Bool
  there = (offer_of answered).access

  options_are : (k : ℕ) → in_set (offer_of answered).access_options k ≡ in_set (access_options there (bit (says_cellular caller function)) (bit (flag answerer.cellular)) (bit (flag answerer.digital))) k
  options_are k =
      ap (λ (n : ℕ). in_set n k)
      (ap (λ (o : Offer). o.access_options) answered_with
      ∙ ap₂ (λ (t : Bool) (b5 : ℕ). access_options t b5 (bit (flag answerer.cellular)) (bit (flag answerer.digital))) (sym (ap (λ (o : Offer). o.access) answered_with)) b5_theirs)

  pub jm_holds_what_both_records_have : HoldsWhatBothRecordsHave caller answerer function (jm_of answerer (cm_of caller function blocks))
  jm_holds_what_both_records_have =
      let bits = crossed (both (has_for caller function 1) (has_for answerer function 1)) (pcm_for caller function) (pcm_for answerer function) in
      record {
        named = ap (λ (o : Offer). o.function) answered_with ∙ ap (λ (t : Bool). when t function answerer.home) (sym (available_used answerer function));
        items = from_records;
        b5 = ap analogue pcm_from_records ∙ bits.0;
        b6 = ap digital pcm_from_records ∙ bits.1;
        b7 = ap v91 pcm_from_records ∙ bits.2;
        item0 = has_read answered 0 (lit< tt) ∙ ap (λ (o : Offer). in_set o.items 0) answered_with ∙ item_0_told (ltb 0 (jm_pcm (in_use answerer function) cm)) (shared_items (in_use answerer function) cm) ∙ sym pcm_there;
        lapm = ap (λ (o : Offer). o.lapm) answered_with;
        access = access_there;
        access_b5 = options_are 0 ∙ b5_there there (says_cellular caller function) (flag answerer.cellular) (flag answerer.digital);
        access_b6 = options_are 1 ∙ b6_there there (says_cellular caller function) (flag answerer.cellular) (flag answerer.digital);
        access_b7 = options_are 2 ∙ b7_there there (says_cellular caller function) (flag answerer.cellular) (flag answerer.digital);
      }
