-- What V.8 does not define, put into a menu at a group's end, changes nothing that the reader says: the first group of each tag of the table
-- stays the same, or gets longer past what anyone looks at but who counts. What is chosen goes by what is read, and a JM by that and the count.
-- Assumes nothing.
use Prim.Native.Nat.{ℕ, ◌+◌, ◌<◌, ◌≤◌}
use native.Mathlib.Nat.{not-suc-le-zero}
use native.Mathlib.Omega.{arith}
use mathlib.Core.Path.{◌≡◌, refl, sym, ap, ap₂, subst, ◌∙◌}
use mathlib.Core.Bool.{Bool, true, false, not}
use mathlib.Core.List.{List, [], ◌∷◌, ◌++◌, append_assoc}
use mathlib.Core.Logic.{◌⊎◌, inl, inr}
use borrow.Author.Tests.{not-true, lt-ltb, eqb-true}
use lib.Dec.{ltb, eqb}
use lib.ListN.{length, take, drop, get_or, replicate, length-append, get_or-append}
use Rattle.laws.specs.Logic.{when, both}
use Rattle.laws.specs.Joined.{joined}
use Rattle.laws.specs.Tests.{every}
use Rattle.laws.proofs.Computed.{every_joined}
use Rattle.laws.proofs.Logic.{both_true, both_neither}
use Rattle.octets.specs.declared.Purpose.TheVariants.{Reading}
use Rattle.octets.specs.Octets.{category, tag, options, extension, call_function_tag, category_octet}
use Rattle.refusals.specs.Refusals.{before}
use Rattle.octets.specs.Lists.{first_fault, list_fault, group_ends}
use Rattle.octets.proofs.Lists.{accepted_opens, accepted_rest, faultless, faultless_parts, group_starts}
use Rattle.octets.proofs.Fine.{extensions_fine, group_fine, accepted_by}
use Rattle.menus.specs.declared.Offer.{Offer}
use Rattle.items.specs.Items.{place_of, bit_of, has_item, items_of, no_items}
use Rattle.menus.specs.Groups.{opens_group, group_of, options_in}
use Rattle.menus.specs.Offer.{Read, pcm_tag, protocol, access, stands, offer_of, menu_read, offers}
use Rattle.items.specs.Items.{modulation}
use Rattle.menus.proofs.Joined.{group_from, or_else, group_from_lem, group_joined, lone_group}
use Rattle.items.proofs.Sets.{set_same}
use Rattle.menus.proofs.Reading.{menu_read_lem}
use Rattle.items.proofs.Places.{place_octet}
use Rattle.records.specs.declared.Record.{Record}
use Rattle.refusals.specs.Lent.{WriteOutcome, room_fault, put}
use Rattle.offers.specs.Offering.{jm_offer}
use Rattle.offers.specs.Making.{modulation_group, house_count, groups_of, menu_of, record_fault, size_fault, modulation_count, made_jm}
use Rattle.offers.proofs.Making.{modulation_longer}
use Rattle.choices.specs.Choosing.{on_read, choice_for, chosen_from}
use Rattle.offers.proofs.Meaning.{same_offer, modulation_found}
use Rattle.demands.specs.Joint.{jm_of, has, has_for, NoModeInCommon}
use Rattle.demands.specs.Undefined.{unknown_tag, IsGroup, UnknownGroup, Surplus, ChangesNoReading, ChangesNothing, LongerBy, ChangesOnlyTheCount}
use Rattle.demands.proofs.HeardCount.{mode_there, no_mode, heard_count}

-- what a reader takes of the first group of a tag, where one group stands between others
module _ {A : Type 0} (say : List ℕ → A) (sought : ℕ) (front rest : List ℕ) (ends : group_ends rest 0 ≡ true) where
  between : (octet : ℕ) (extensions : List ℕ) → IsGroup octet extensions
      → group_from sought (front ++ ((octet ∷ extensions) ++ rest)) ≡ or_else (group_from sought front) (or_else (when (opens_group sought octet) (octet ∷ extensions) []) (group_from sought rest))
  between octet extensions is-group =
      group_joined sought front ((octet ∷ extensions) ++ rest) (group_starts octet (extensions ++ rest) is-group.opens)
      ∙ ap (or_else (group_from sought front))
      (group_joined sought (octet ∷ extensions) rest ends ∙ ap (λ (l : List ℕ). or_else l (group_from sought rest)) (lone_group sought octet extensions is-group.opens is-group.extends))

  -- a group of another tag is passed over
  passed : (octet : ℕ) (extensions : List ℕ) → IsGroup octet extensions → opens_group sought octet ≡ false → group_from sought (front ++ ((octet ∷ extensions) ++ rest)) ≡ group_from sought (front ++ rest)
  unfolding when
  passed octet extensions is-group other = between octet extensions is-group ∙ simp other (sym (group_joined sought front rest ends))

  -- and longer groups are told apart from shorter ones only by who looks at their end
  longer_by : (octet : ℕ) (short long first later : List ℕ) (test : Bool) → (test ≡ true → say (octet ∷ long) ≡ say (octet ∷ short))
      → say (or_else first (or_else (when test (octet ∷ long) []) later)) ≡ say (or_else first (or_else (when test (octet ∷ short) []) later))
  unfolding when
  longer_by octet short long [] later true alike-there = alike-there refl
  longer_by octet short long [] later false alike-there = refl
  longer_by octet short long (b ∷ first) later true alike-there = refl
  longer_by octet short long (b ∷ first) later false alike-there = refl

  stretched : (octet : ℕ) (short long : List ℕ) → IsGroup octet short → IsGroup octet long → (opens_group sought octet ≡ true → say (octet ∷ long) ≡ say (octet ∷ short))
      → say (group_from sought (front ++ ((octet ∷ long) ++ rest))) ≡ say (group_from sought (front ++ ((octet ∷ short) ++ rest)))
  stretched octet short long is-short is-long alike-there =
      ap say (between octet long is-long) ∙ longer_by octet short long (group_from sought front) (group_from sought rest) (opens_group sought octet) alike-there ∙ sym (ap say (between octet short is-short))

-- offers that are read alike are the same
module _ (a b : List ℕ) where
  abbrev Alike : {A : Type 0} → (List ℕ → A) → ℕ → Type 0
  Alike say t = say (group_of a t) ≡ say (group_of b t)

  offer_same : options_in a ≡ options_in b → Alike items_of modulation → Alike options_in pcm_tag → Alike options_in protocol → Alike options_in access → Alike stands access → offer_of a ≡ offer_of b
  offer_same function items pcm lapm options standing =
      same_offer _ _ _ _ _ _ _ _ _ _ _ _ function items (ap₂ (λ (t : Bool) (n : ℕ). when t n 0) standing pcm) (ap (λ (n : ℕ). eqb n 1) lapm) standing options

-- reading the same goes on to the same
module _ (menu longer : List ℕ) (read : list_fault Reading menu ≡ 0) (longer-read : list_fault Reading longer ≡ 0) (same : offer_of longer ≡ offer_of menu) where
  reads : menu_read longer ≡ menu_read menu
  reads = menu_read_lem longer longer-read ∙ ap offers same ∙ sym (menu_read_lem menu read)

  changes_no_reading : ChangesNoReading menu longer
  changes_no_reading = record {
    read = reads;
    asked = λ jm. ap (λ (r : Read). on_read r (λ offer. choice_for jm offer)) reads;
    answered = λ cm. ap (λ (r : Read). on_read (menu_read cm) (λ offer. on_read r (λ answer. chosen_from offer answer))) reads;
  }

  -- and the same JM, where its count is the same
  abbrev jm_by : Record → List ℕ → ℕ → Offer → ℕ → WriteOutcome
  jm_by own out fault offer count =
      let jm = menu_of count (jm_offer own offer) in
      put (before (record_fault own) (before fault (before (size_fault jm) (room_fault jm out)))) jm out

  jm_same : (own : Record) (out : List ℕ) → modulation_count (jm_offer own (offer_of longer)) longer ≡ modulation_count (jm_offer own (offer_of menu)) menu → made_jm own longer out ≡ made_jm own menu out
  jm_same own out count =
      ap₂ (λ (fault : ℕ) (offer : Offer). jm_by own out fault offer (modulation_count (jm_offer own (offer_of longer)) longer)) (longer-read ∙ sym read) same
      ∙ ap (jm_by own out (list_fault Reading menu) (offer_of menu)) count

  as_many : (own : Record) → length (group_of longer modulation) ≡ length (group_of menu modulation) → modulation_count (jm_offer own (offer_of longer)) longer ≡ modulation_count (jm_offer own (offer_of menu)) menu
  as_many own = ap₂ (λ (offer : Offer) (n : ℕ). when (ltb 1 (jm_offer own offer).items) house_count n) same

  pub changes_nothing_by : length (group_of longer modulation) ≡ length (group_of menu modulation) → ChangesNothing menu longer
  changes_nothing_by heard = record { reading = changes_no_reading; jm = λ own out. jm_same own out (as_many own heard) }

  -- with a mode in common no count is heard
  common_count : (own : Record) (i : ℕ) → 0 < i → i < 13 → both (has_for own (offer_of menu).function i) (has menu i) ≡ true → modulation_count (jm_offer own (offer_of longer)) longer ≡ modulation_count (jm_offer own (offer_of menu)) menu
  unfolding when
  common_count own i low high shared =
      let there : ltb 1 (jm_offer own (offer_of menu)).items ≡ true = mode_there own menu i low high shared in
      ap (λ (offer : Offer). when (ltb 1 (jm_offer own offer).items) house_count (length (group_of longer modulation))) same ∙ simp there

  -- without one JM gets longer by as many as were heard
  module _ (own : Record) (none : NoModeInCommon own menu) (more : ℕ) (heard : length (group_of longer modulation) ≡ length (group_of menu modulation) + more) (past : 0 < more → 2 < length (group_of menu modulation)) where
    abbrev offer : Offer
    offer = jm_offer own (offer_of menu)

    longer_jm : jm_of own longer ≡ menu_of (length (group_of menu modulation) + more) offer
    unfolding when
    longer_jm =
        ap (λ (o : Offer). menu_of (when (ltb 1 (jm_offer own o).items) house_count (length (group_of longer modulation))) (jm_offer own o)) same
        ∙ ap (λ (t : Bool). menu_of (when t house_count (length (group_of longer modulation))) offer) (no_mode own menu none)
        ∙ ap (λ (count : ℕ). menu_of count offer) heard

    jm_longer : LongerBy more (jm_of own menu) (jm_of own longer)
    unfolding joined
    jm_longer =
        let count = length (group_of menu modulation) in
        let behind = joined (drop 2 (groups_of house_count offer)) in
        let call = category_octet call_function_tag offer.function in
        let group = modulation_group count offer.items in
        let is : jm_of own menu ≡ call ∷ (group ++ behind) = ap (λ (n : ℕ). menu_of n offer) (heard_count own menu none) in
        let front : take 1 (jm_of own menu) ++ group_of (jm_of own menu) modulation ≡ call ∷ group =
        ap₂ (λ (a b : List ℕ). a ++ b) (ap (take 1) is) (modulation_found (modulation_count offer menu) offer ∙ ap (λ (n : ℕ). modulation_group n offer.items) (heard_count own menu none)) in
        record {
          behind = behind;
          was = is ∙ ap (λ (l : List ℕ). l ++ behind) (sym front);
          becomes =
              longer_jm ∙ ap (λ (l : List ℕ). call ∷ (l ++ behind)) (modulation_longer offer.items count more past)
              ∙ ap (λ (l : List ℕ). call ∷ l) (append_assoc group (replicate more no_items) behind) ∙ ap (λ (l : List ℕ). l ++ (replicate more no_items ++ behind)) (sym front);
        }

-- what is put in is no fault
module _ (c : ℕ) (a x b : List ℕ) (read : list_fault Reading (c ∷ (a ++ b)) ≡ 0) (fine : first_fault Reading x ≡ 0) (short : length (c ∷ (a ++ (x ++ b))) ≤ 64) where
  still_read : list_fault Reading (c ∷ (a ++ (x ++ b))) ≡ 0
  still_read =
      let first = both_true _ _ (accepted_opens Reading (c ∷ (a ++ b)) read) in
      let parts = faultless_parts Reading a b (accepted_rest Reading (c ∷ (a ++ b)) read) in
      accepted_by Reading c (a ++ (x ++ b)) short first.0 (eqb-true (tag c) 1 first.1) (faultless Reading a (x ++ b) parts.0 (faultless Reading x b fine parts.1))

-- items past the third octet are none
items_same : (octet : ℕ) (extensions more : List ℕ) → 2 ≤ length extensions → items_of (octet ∷ (extensions ++ more)) ≡ items_of (octet ∷ extensions)
unfolding has_item
items_same octet extensions more both-octets =
    set_same (has_item (octet ∷ (extensions ++ more))) (has_item (octet ∷ extensions)) 13
    (λ i below-13. ap (λ (n : ℕ). eqb (bit_of (place_of i).bit.0 n) 1) (get_or-append (octet ∷ extensions) more 0 (place_of i).octet (omega (arith, place_octet i below-13, both-octets))))

-- a group with a tag outside the table
other_tag : (octet t : ℕ) → not (eqb (tag octet) t) ≡ true → opens_group t octet ≡ false
unfolding both
other_tag octet t n = ap (both (category octet)) (not-true _ n) ∙ both_neither (category octet)

module _ (front rest : List ℕ) (octet : ℕ) (extensions : List ℕ) (ends : group_ends rest 0 ≡ true) (is-group : IsGroup octet extensions) (unknown : unknown_tag (tag octet) ≡ true) where
  -- no group of the table is another
  group_kept : (t : ℕ) → not (eqb (tag octet) t) ≡ true → group_of (front ++ ((octet ∷ extensions) ++ rest)) t ≡ group_of (front ++ rest) t
  group_kept t other =
      group_from_lem (front ++ ((octet ∷ extensions) ++ rest)) t ∙ passed (λ (l : List ℕ). l) t front rest ends octet extensions is-group (other_tag octet t other) ∙ sym (group_from_lem (front ++ rest) t)

  unknown_offer : 0 < length front → offer_of (front ++ ((octet ∷ extensions) ++ rest)) ≡ offer_of (front ++ rest)
  unfolding every
  unknown_offer some =
      let not-1 = both_true _ _ unknown in
      let not-5 = both_true _ _ not-1.1 in
      let not-7 = both_true _ _ not-5.1 in
      let not-10 = both_true _ _ not-7.1 in
      let not-13 = both_true _ _ not-10.1 in
      let access-kept = group_kept access not-13.0 in
      offer_same (front ++ ((octet ∷ extensions) ++ rest)) (front ++ rest)
      (ap options (get_or-append front ((octet ∷ extensions) ++ rest) 0 0 some ∙ sym (get_or-append front rest 0 0 some)))
      (ap items_of (group_kept modulation not-5.0)) (ap options_in (group_kept pcm_tag not-7.0)) (ap options_in (group_kept protocol not-10.0))
      (ap options_in access-kept) (ap stands access-kept)

-- a modulation group that grew by surplus octets behind its third, or did not
record Grown (octet : ℕ) (surplus short long : List ℕ) : Type 0 where
  more : ℕ
  counted : length long ≡ length short + more
  all : (more ≡ length surplus) ⊎ (more ≡ 0)
  elsewhere : (tag octet ≡ modulation → ⊥) → more ≡ 0
  past : 0 < more → 2 < length short

not_grown : (octet : ℕ) (surplus group : List ℕ) → Grown octet surplus group group
not_grown octet surplus group = record { more = 0; counted = omega arith; all = inr refl; elsewhere = λ _. refl; past = λ some. absurd (not-suc-le-zero some) }

-- extension octets past those defined
module _ (front rest : List ℕ) (octet : ℕ) (extensions more : List ℕ) (ends : group_ends rest 0 ≡ true) (is-group : IsGroup octet extensions) (extends : every extension more ≡ true) (past : tag octet ≡ modulation → 2 ≤ length extensions) where
  longer : IsGroup octet (extensions ++ more)
  longer = record { opens = is-group.opens; extends = every_joined extension extensions more is-group.extends extends }

  said_same : {A : Type 0} (say : List ℕ → A) (t : ℕ) → (opens_group t octet ≡ true → say (octet ∷ (extensions ++ more)) ≡ say (octet ∷ extensions))
      → say (group_of (front ++ ((octet ∷ (extensions ++ more)) ++ rest)) t) ≡ say (group_of (front ++ ((octet ∷ extensions) ++ rest)) t)
  said_same say t same =
      ap say (group_from_lem (front ++ ((octet ∷ (extensions ++ more)) ++ rest)) t) ∙ stretched say t front rest ends octet extensions (extensions ++ more) is-group longer same ∙ ap say (sym (group_from_lem (front ++ ((octet ∷ extensions) ++ rest)) t))

  first_same : (l : List ℕ) → get_or (l ++ ((octet ∷ (extensions ++ more)) ++ rest)) 0 0 ≡ get_or (l ++ ((octet ∷ extensions) ++ rest)) 0 0
  first_same [] = refl
  first_same (c ∷ l) = refl

  surplus_offer : offer_of (front ++ ((octet ∷ (extensions ++ more)) ++ rest)) ≡ offer_of (front ++ ((octet ∷ extensions) ++ rest))
  surplus_offer =
      offer_same (front ++ ((octet ∷ (extensions ++ more)) ++ rest)) (front ++ ((octet ∷ extensions) ++ rest)) (ap options (first_same front))
      (said_same items_of modulation (λ t. items_same octet extensions more (past (eqb-true _ _ (both_true _ _ t).1))))
      (said_same options_in pcm_tag (λ _. refl)) (said_same options_in protocol (λ _. refl)) (said_same options_in access (λ _. refl)) (said_same stands access (λ _. lt-ltb 0 (length (octet ∷ (extensions ++ more))) (omega arith) ∙ sym (lt-ltb 0 (length (octet ∷ extensions)) (omega arith))))

  surplus_read : (l : List ℕ) → list_fault Reading (l ++ ((octet ∷ extensions) ++ rest)) ≡ 0 → length (l ++ ((octet ∷ (extensions ++ more)) ++ rest)) ≤ 64 → list_fault Reading (l ++ ((octet ∷ (extensions ++ more)) ++ rest)) ≡ 0
  surplus_read [] read short =
      let apart : octet ∷ ((extensions ++ more) ++ rest) ≡ octet ∷ (extensions ++ (more ++ rest)) = ap (λ (t : List ℕ). octet ∷ t) (append_assoc extensions more rest) in
      ap (list_fault Reading) apart ∙ still_read octet extensions more rest read (extensions_fine Reading more extends) (subst (λ (t : List ℕ). length t ≤ 64) apart short)
  surplus_read (c ∷ l) read short =
      let apart : c ∷ (l ++ (octet ∷ ((extensions ++ more) ++ rest))) ≡ c ∷ ((l ++ (octet ∷ extensions)) ++ (more ++ rest)) = ap (λ (t : List ℕ). c ∷ (l ++ (octet ∷ t))) (append_assoc extensions more rest) ∙ ap (λ (t : List ℕ). c ∷ t) (sym (append_assoc l (octet ∷ extensions) (more ++ rest))) in
      let whole : c ∷ ((l ++ (octet ∷ extensions)) ++ rest) ≡ c ∷ (l ++ ((octet ∷ extensions) ++ rest)) = ap (λ (t : List ℕ). c ∷ t) (append_assoc l (octet ∷ extensions) rest) in
      ap (list_fault Reading) apart ∙ still_read c (l ++ (octet ∷ extensions)) more rest (ap (list_fault Reading) whole ∙ read) (extensions_fine Reading more extends) (subst (λ (t : List ℕ). length t ≤ 64) apart short)

  -- the first modulation group is the same, or longer behind its third octet
  surplus_grown : Grown octet more (group_of (front ++ ((octet ∷ extensions) ++ rest)) modulation) (group_of (front ++ ((octet ∷ (extensions ++ more)) ++ rest)) modulation)
  unfolding when
  surplus_grown =
      let short = group_from_lem (front ++ ((octet ∷ extensions) ++ rest)) modulation ∙ between (λ (l : List ℕ). l) modulation front rest ends octet extensions is-group in
      let long = group_from_lem (front ++ ((octet ∷ (extensions ++ more)) ++ rest)) modulation ∙ between (λ (l : List ℕ). l) modulation front rest ends octet (extensions ++ more) longer in
      rw (short, long) (go (group_from modulation front) (opens_group modulation octet) refl)
    where
      go : (first : List ℕ) (test : Bool) → opens_group modulation octet ≡ test
          → Grown octet more (or_else first (or_else (when test (octet ∷ extensions) []) (group_from modulation rest))) (or_else first (or_else (when test (octet ∷ (extensions ++ more)) []) (group_from modulation rest)))
      go [] true opened =
          let here : tag octet ≡ modulation = eqb-true _ _ (both_true _ _ opened).1 in
          record { more = length more; counted = omega (arith, length-append extensions more); all = inl refl; elsewhere = λ other. absurd (other here); past = λ _. omega (arith, past here) }
      go [] false opened = not_grown octet more (group_from modulation rest)
      go (b ∷ first) test opened = not_grown octet more (b ∷ first)

-- by what was put in
unknown_read : (front rest x : List ℕ) → 0 < length front → list_fault Reading (front ++ rest) ≡ 0 → first_fault Reading x ≡ 0 → length (front ++ (x ++ rest)) ≤ 64 → list_fault Reading (front ++ (x ++ rest)) ≡ 0
unknown_read [] rest x some read fine short = absurd (omega (arith, some))
unknown_read (c ∷ a) rest x some read fine short = still_read c a x rest read fine short

module _ (menu longer : List ℕ) (read : list_fault Reading menu ≡ 0) (short : length longer ≤ 64) where
  pub unknown_groups_change_nothing : UnknownGroup menu longer → ChangesNothing menu longer
  unfolding every
  unknown_groups_change_nothing g =
      let not-5 = (both_true _ _ (both_true _ _ g.unknown).1).0 in
      changes_nothing_by menu longer read
      (ap (list_fault Reading) g.becomes ∙ unknown_read g.front g.rest (g.octet ∷ g.extensions) g.behind (ap (list_fault Reading) (sym g.was) ∙ read) (group_fine Reading g.octet g.extensions g.is.opens g.is.extends) (subst (λ (t : List ℕ). length t ≤ 64) g.becomes short))
      (ap offer_of g.becomes ∙ unknown_offer g.front g.rest g.octet g.extensions g.ends g.is g.unknown g.behind ∙ ap offer_of (sym g.was))
      (ap (λ (m : List ℕ). length (group_of m modulation)) g.becomes ∙ ap length (group_kept g.front g.rest g.octet g.extensions g.ends g.is g.unknown modulation not-5) ∙ ap (λ (m : List ℕ). length (group_of m modulation)) (sym g.was))

  pub surplus_octets_change_only_the_count : (surplus : Surplus menu longer) → ChangesOnlyTheCount menu longer surplus
  surplus_octets_change_only_the_count s =
      let longer-read = ap (list_fault Reading) s.becomes ∙ surplus_read s.front s.rest s.octet s.extensions s.more s.ends s.is s.extend s.past s.front (ap (list_fault Reading) (sym s.was) ∙ read) (subst (λ (t : List ℕ). length t ≤ 64) s.becomes short) in
      let same = ap offer_of s.becomes ∙ surplus_offer s.front s.rest s.octet s.extensions s.more s.ends s.is s.extend s.past ∙ ap offer_of (sym s.was) in
      let grown : Grown s.octet s.more (group_of menu modulation) (group_of longer modulation) =
      rw (s.was, s.becomes) (surplus_grown s.front s.rest s.octet s.extensions s.more s.ends s.is s.extend s.past) in
      record {
        reading = changes_no_reading menu longer read longer-read same;
        more = grown.more;
        counted = grown.counted;
        all = grown.all;
        elsewhere = grown.elsewhere;
        same = λ own out none. jm_same menu longer read longer-read same own out (as_many menu longer read longer-read same own (omega (arith, grown.counted, none)));
        common = λ own out i low high shared. jm_same menu longer read longer-read same own out (common_count menu longer read longer-read same own i low high shared);
        alone = λ own none. jm_longer menu longer read longer-read same own none grown.more grown.counted grown.past;
      }
