-- Makers' own fields: the reader finds the field of a CM by its tag, and unpacks what was packed; all else goes by the offer, which a field does not
-- change.
-- Assumes nothing.
use Prim.Native.Nat.{ℕ, suc, ◌+◌, ◌*◌, ◌/◌, ◌<◌, ◌≤◌}
use native.Mathlib.Omega.{arith}
use mathlib.Core.Path.{◌≡◌, refl, sym, ap, ap₂, ◌∙◌}
use mathlib.Core.Bool.{Bool, true, false}
use mathlib.Core.List.{List, [], ◌∷◌, ◌++◌, append-nil}
use borrow.Author.Tests.{eqb-true, ltb-true, lt-ltb}
use lib.Dec.{ltb, eqb}
use lib.ListN.{length, take, drop}
use Rattle.laws.specs.Logic.{when, both, either}
use Rattle.laws.specs.Tests.{all_below, every}
use Rattle.laws.specs.Front.{front}
use Rattle.laws.proofs.Logic.{either_way, both_true}
use Rattle.laws.proofs.Computed.{below}
use Rattle.octets.specs.declared.Kind.TheVariants.{Menu}
use Rattle.octets.specs.declared.Purpose.TheVariants.{Reading}
use Rattle.octets.specs.Octets.{category, tag, options, category_octet, extension, bad}
use Rattle.octets.specs.Lists.{octet_fault, first_fault, until_category, list_fault}
use Rattle.octets.proofs.Lists.{before_none, accepted_rest}
use Rattle.octets.proofs.Made.{made_again}
use Rattle.refusals.specs.Refusals.{before}
use Rattle.refusals.specs.Lent.{count, room_fault, put}
use Rattle.refusals.proofs.Outcomes.{counted}
use Rattle.stretches.proofs.Copies.{copies_read}
use Rattle.items.specs.Items.{modulation}
use Rattle.menus.specs.declared.Offer.{Offer}
use Rattle.menus.specs.Groups.{place, nowhere, opens_group, looked, front_part, part_at, group_of}
use Rattle.menus.specs.Offer.{offer_of}
use Rattle.menus.proofs.Joined.{group_from, group_from_lem}
use Rattle.fields.specs.Packing.{joined_bits, groups_of, unpacked, packed}
use Rattle.fields.specs.Blocks.{blocks_behind, blocks_fault}
use Rattle.fields.specs.Field.{field_tag, field_octets, is_packed, packing_fault, field_read, field_of}
use Rattle.fields.proofs.Packing.{packed_fills, unpacks_again, packs_again}
use Rattle.fields.proofs.Field.{field_none, field_some, field_length, packed_well, packed_if}
use Rattle.fields.proofs.Finding.{place_tells, nowhere_tells, nowhere_found}
use Rattle.records.specs.declared.Record.{Record}
use Rattle.offers.specs.Offering.{cm_offer, jm_offer}
use Rattle.offers.specs.Making.{house_count, menu_of, record_fault, function_fault, size_fault, made_cm, modulation_count}
use Rattle.offers.proofs.Making.{menu_short, size_fits, with_length}
use Rattle.offers.proofs.Meaning.{menu_readable}
use Rattle.offers.proofs.Fields.{no_field, own_field, other_group, offer_kept, with_readable, with_writable}
use Rattle.steps.proofs.Known.{is_so}
use Rattle.demands.specs.RefusalOrder.{first_of, bad_fault, unavailable, too_short}
use Rattle.demands.specs.Joint.{cm_of, jm_of}
use Rattle.demands.specs.FieldBits.{Octets}
use Rattle.demands.specs.FromBits.{Makes}
use Rattle.demands.specs.OwnFields.{IsReadAsWritten, IsWrittenAsRead, group_says, OwnFieldsAreKept}
use Rattle.demands.specs.Undefined.{ChangesNothing}
use Rattle.demands.proofs.Refusals.{behind, behind_first}
use Rattle.demands.proofs.RefusalOrder.{first_behind}
use Rattle.demands.proofs.Undefined.{changes_nothing_by}
use Rattle.demands.proofs.FromBits.{with_small, made_as, put_fine, room_fits}

no_octets : (octets : List ℕ) → length octets ≡ 0 → [] ≡ octets
no_octets [] h = refl
no_octets (b ∷ octets) h = absurd (let z : ⊥ = omega (arith, h) in z)

-- the field of octets is packed well, and unpacks to them
module _ (blocks : List ℕ) (are : Octets blocks) where
  field_packed : is_packed (field_of blocks) ≡ true
  unfolding field_of both joined_bits groups_of
  field_packed = either_way (λ (l : List ℕ). is_packed l ≡ true) (eqb (length blocks) 0) [] (category_octet field_tag 0 ∷ packed blocks) (λ _. refl) (λ _. packed_fills blocks are)

  unpacked_by : (none : Bool) → eqb (length blocks) 0 ≡ none → field_octets (when none [] (category_octet field_tag 0 ∷ packed blocks)) ≡ blocks
  unfolding when unpacked joined_bits groups_of
  unpacked_by true e = no_octets blocks (eqb-true (length blocks) 0 e)
  unpacked_by false e = unpacks_again blocks are

  field_unpacked : field_octets (field_of blocks) ≡ blocks
  unfolding field_of
  field_unpacked = unpacked_by (eqb (length blocks) 0) refl

-- a CM that was made: nothing was refused
module _ (own : Record) (function : ℕ) (blocks lent cm : List ℕ) (are : Octets blocks) (makes : Makes (made_cm own function blocks lent) cm) where
  abbrev offer : Offer
  offer = cm_offer own function

  abbrev laid : List ℕ
  laid = cm_of own function blocks

  is_cm : cm ≡ laid
  is_cm = made_as _ laid lent cm makes

  no_faults : behind (record_fault own ∷ function_fault own function ∷ []) (before (size_fault laid) (before (blocks_fault blocks) (room_fault laid lent))) ≡ 0
  no_faults = (counted _ laid lent makes.size makes.told).fine

  fits : size_fault laid ≡ 0
  fits = behind_first (record_fault own ∷ function_fault own function ∷ []) (size_fault laid) _ no_faults

  fine : blocks_fault blocks ≡ 0
  fine = behind_first (record_fault own ∷ function_fault own function ∷ size_fault laid ∷ []) (blocks_fault blocks) (room_fault laid lent) no_faults

  -- so its field is read
  read_it : (out : List ℕ) → length blocks ≤ length out → field_read laid out ≡ record { answer = count (length blocks); buffer = front blocks out }
  unfolding when
  read_it out room =
      rw (own_field offer blocks, field_unpacked blocks are)
      (put_fine _ blocks out (simp (with_readable offer blocks fits, packed_well (field_of blocks) (field_packed blocks are), fine, room_fits blocks out room)))

  read_as_written : IsReadAsWritten blocks cm
  read_as_written = rw is_cm (record {
    accepted = with_writable offer blocks fits;
    heard = copies_read Menu laid (record { octet = with_small offer blocks; taken = with_writable offer blocks fits });
    read = read_it;
  })

-- a group of a message that can be read: its category octet has the tag, and what holds of every extension octet holds of those behind it
abbrev only_extension : ℕ → Bool
only_extension b = either (category b) (either (bad b) (extension b))

extension_left : (b : ℕ) → b < 256 → category b ≡ false → bad b ≡ false → extension b ≡ true
unfolding both either all_below
extension_left b low no-category not-bad = is_so (extension b) (rw (no-category, not-bad) at (below only_extension 256 tt b low))

not_bad_if : (isBad isCategory : Bool) → ◌≡◌ {A = ℕ} (when isBad 3 (when isCategory 0 0)) 0 → isBad ≡ false
unfolding when
not_bad_if true isCategory e = absurd (let z : ⊥ = omega (arith, e) in z)
not_bad_if false isCategory e = refl

module _ (f : ℕ → Bool) (holds : (b : ℕ) → b < 256 → extension b ≡ true → f b ≡ true) where
  stretch_by : (b : ℕ) (octets : List ℕ) (isCategory : Bool) → category b ≡ isCategory → b < 256 → bad b ≡ false → every f (take (until_category octets) octets) ≡ true
      → every f (take (when isCategory 0 (suc (until_category octets))) (b ∷ octets)) ≡ true
  unfolding when every both
  stretch_by b octets true e low not-bad later = refl
  stretch_by b octets false e low not-bad later = simp (holds b low (extension_left b low e not-bad)) later

  stretch_all : (octets : List ℕ) → Octets octets → first_fault Reading octets ≡ 0 → every f (take (until_category octets) octets) ≡ true
  unfolding every first_fault until_category
  stretch_all [] are fine = refl
  stretch_all (b ∷ octets) are fine =
      let here = both_true _ _ are in
      let first = before_none (octet_fault Reading b) (first_fault Reading octets) fine in
      stretch_by b octets (category b) refl (ltb-true b 256 here.0) (not_bad_if (bad b) (category b) first.0) (stretch_all octets here.1 first.1)

  fault_behind : (octets : List ℕ) → first_fault Reading octets ≡ 0 → first_fault Reading (drop 1 octets) ≡ 0
  unfolding first_fault
  fault_behind [] fine = refl
  fault_behind (b ∷ octets) fine = (before_none (octet_fault Reading b) (first_fault Reading octets) fine).1

  group_all : (t : ℕ) (octets : List ℕ) → Octets octets → first_fault Reading (drop 1 octets) ≡ 0 → every f (drop 1 (group_from t octets)) ≡ true
  unfolding every group_from front_part
  group_all t [] are fine = refl
  group_all t (b ∷ octets) are fine =
      let here = both_true _ _ are in
      either_way (λ (l : List ℕ). every f (drop 1 l) ≡ true) (opens_group t b) _ (group_from t octets)
      (λ _. either_way (λ (l : List ℕ). every f (drop 1 l) ≡ true) (category b) (b ∷ take (until_category octets) octets) [] (λ _. stretch_all octets here.1 fine) (λ _. refl))
      (λ _. group_all t octets here.1 (fault_behind octets fine))

abbrev Headed : ℕ → List ℕ → Type 0
Headed t [] = Unit
Headed t (b ∷ rest) = (opens_group t b ≡ true) × (b < 256)

group_headed : (t : ℕ) (octets : List ℕ) → Octets octets → Headed t (group_from t octets)
unfolding group_from front_part every
group_headed t [] are = tt
group_headed t (b ∷ octets) are =
    let here = both_true _ _ are in
    either_way (Headed t) (opens_group t b) _ (group_from t octets)
    (λ opened. either_way (Headed t) (category b) (b ∷ take (until_category octets) octets) [] (λ _. (opened, ltb-true b 256 here.0)) (λ _. tt))
    (λ _. group_headed t octets here.1)

-- a group that says octets begins with 0F
group_begins : (group : List ℕ) → Headed field_tag group → is_packed group ≡ true → 0 < length (unpacked (drop 1 group)) → category_octet field_tag 0 ∷ drop 1 group ≡ group
unfolding unpacked groups_of
group_begins [] headed well some = absurd (let z : ⊥ = omega (arith, some) in z)
group_begins (b ∷ rest) headed well some =
    let opened = both_true _ _ headed.0 in
    let tag_is : tag b ≡ field_tag = eqb-true (tag b) field_tag opened.1 in
    let options_are : options b ≡ 0 = eqb-true (options b) 0 (both_true _ _ well).0 in
    ap (λ (n : ℕ). n ∷ rest) (sym (ap₂ category_octet tag_is options_are) ∙ made_again b headed.1 opened.0)

-- octets that were read
module _ (heard out octets : List ℕ) (are : Octets heard) (makes : Makes (field_read heard out) octets) where
  abbrev group : List ℕ
  group = group_of heard field_tag

  is_read : octets ≡ unpacked (drop 1 group)
  is_read = made_as _ (field_octets group) out octets makes

  none_refused : behind (list_fault Reading heard ∷ []) (before (packing_fault group) (before (blocks_fault (field_octets group)) (room_fault (field_octets group) out))) ≡ 0
  none_refused = (counted _ (field_octets group) out makes.size makes.told).fine

  well : is_packed group ≡ true
  well = packed_if group (behind_first (list_fault Reading heard ∷ []) (packing_fault group) _ none_refused)

  packing_is : packed octets ≡ drop 1 group
  packing_is =
      let readable : first_fault Reading (drop 1 heard) ≡ 0 = accepted_rest Reading heard (behind_first [] (list_fault Reading heard) _ none_refused) in
      let small = group_all (λ b. ltb b 256) (λ b low _. lt-ltb b 256 low) field_tag heard are readable in
      let extensions = group_all extension (λ b _ is. is) field_tag heard are readable in
      ap packed is_read ∙ packs_again (drop 1 group) (rw (group_from_lem heard field_tag) small) (rw (group_from_lem heard field_tag) extensions) (both_true _ _ well).1

  written_as_read : IsWrittenAsRead heard octets
  written_as_read = record {
    packing = packing_is;
    own = λ own function some short.
        own_field (cm_offer own function) octets
        ∙ field_some octets (λ z. let w : ⊥ = omega (arith, some, z) in w)
        ∙ ap (λ (l : List ℕ). category_octet field_tag 0 ∷ l) packing_is
        ∙ group_begins group (rw (group_from_lem heard field_tag) (group_headed field_tag heard are)) well (omega (arith, some, ap length is_read));
  }

-- by what looking finds
found_reads : (heard out : List ℕ) (p : ℕ) → looked heard 15 ≡ place p → field_read heard out ≡ group_says (part_at heard p) out
unfolding when
found_reads heard out p e =
    let told = place_tells heard p (sym e) in
    let octets = unpacked (drop 1 (part_at heard p)) in
    rw told.1 (simp told.0 (ap (λ (f : ℕ). put f octets out) (first_behind (packing_fault (part_at heard p) ∷ blocks_fault octets ∷ []) (room_fault octets out))))

nothing_reads : (heard out : List ℕ) → looked heard 15 ≡ nowhere → field_read heard out ≡ record { answer = count 0; buffer = out }
unfolding when unpacked joined_bits groups_of blocks_behind every both
nothing_reads heard out e =
    let told = nowhere_tells heard (sym e) in
    rw told.1 (put_fine _ [] out (simp (told.0, room_fits [] out (omega arith))))

-- the CM without blocks
module _ (own : Record) (function : ℕ) where
  alone : cm_of own function [] ≡ menu_of house_count (cm_offer own function)
  alone = ap (λ (l : List ℕ). menu_of house_count (cm_offer own function) ++ l) (field_none [] refl) ∙ append-nil (menu_of house_count (cm_offer own function))

  module _ (blocks : List ℕ) (some : 0 < length blocks) where
    field_last : cm_of own function blocks ≡ cm_of own function [] ++ 0x0F ∷ packed blocks
    field_last = ap (λ (l : List ℕ). menu_of house_count (cm_offer own function) ++ l) (field_some blocks (λ z. let w : ⊥ = omega (arith, some, z) in w)) ∙ ap (λ (l : List ℕ). l ++ 0x0F ∷ packed blocks) (sym alone)

    field_size_lem : length (cm_of own function blocks) ≡ length (cm_of own function []) + 1 + (8 * length blocks + 4) / 5
    field_size_lem = omega (arith, with_length (cm_offer own function) blocks, ap length alone, field_length blocks (λ z. let w : ⊥ = omega (arith, some, z) in w))

  as_before : (out : List ℕ) → let menu = menu_of house_count (cm_offer own function) in
      made_cm own function [] out ≡ put (first_of (bad_fault own ∷ unavailable own function ∷ too_short menu out ∷ [])) menu out
  unfolding when blocks_behind every
  as_before out =
      let menu = menu_of house_count (cm_offer own function) in
      rw alone
      (simp (size_fits menu (omega (arith, menu_short (cm_offer own function))))
      (ap (λ (f : ℕ). put f menu out) (first_behind (record_fault own ∷ function_fault own function ∷ []) (room_fault menu out))))

  changes_none : (blocks : List ℕ) → length (cm_of own function blocks) ≤ 64 → ChangesNothing (cm_of own function []) (cm_of own function blocks)
  changes_none blocks short =
      let offer = cm_offer own function in
      let alone-short : length (cm_of own function []) ≤ 64 = omega (arith, ap length alone, menu_short offer) in
      changes_nothing_by (cm_of own function []) (cm_of own function blocks)
      (with_readable offer [] (size_fits (cm_of own function []) alone-short))
      (with_readable offer blocks (size_fits (cm_of own function blocks) short))
      (offer_kept offer blocks ∙ sym (offer_kept offer []))
      (ap length (other_group offer blocks modulation refl ∙ sym (other_group offer [] modulation refl)))

pub own_fields_are_kept : OwnFieldsAreKept
own_fields_are_kept = record {
  written = read_as_written;
  read = written_as_read;
  found = found_reads;
  nothing = nothing_reads;
  last = field_last;
  size = field_size_lem;
  jm = λ own heard fits.
      let jm = jm_offer own (offer_of heard) in
      let count = modulation_count jm heard in
      nowhere_found (jm_of own heard) (menu_readable count jm fits) (no_field count jm);
  none = as_before;
  changes = changes_none;
}
