-- A menu with a field: the field is one more group behind the others, with a tag that no other has; so the reader finds every other group as
-- without it, and the field by its tag.
-- Assumes nothing.
use Prim.Native.Nat.{ℕ, ◌≤◌}
use mathlib.Core.Path.{◌≡◌, refl, sym, ap, ◌∙◌}
use mathlib.Core.Bool.{Bool, true, false}
use mathlib.Core.List.{List, [], ◌∷◌, ◌++◌}
use borrow.Author.Tests.{le-ltb}
use lib.Dec.{eqb}
use lib.ListN.{length}
use Rattle.laws.specs.Logic.{when, both}
use Rattle.laws.specs.Joined.{joined}
use Rattle.laws.proofs.Logic.{either_way, clash}
use Rattle.octets.specs.declared.Kind.TheVariants.{Menu}
use Rattle.octets.specs.declared.Purpose.{Purpose}
use Rattle.octets.specs.declared.Purpose.TheVariants.{Reading, Writing}
use Rattle.octets.specs.Octets.{category_octet}
use Rattle.octets.specs.Lists.{category_fault, first_fault, list_fault, group_ends}
use Rattle.octets.proofs.Lists.{accepted_opens, accepted_rest, faultless, group_starts}
use Rattle.octets.proofs.Fine.{group_fine}
use Rattle.octets.proofs.Made.{category_there}
use Rattle.items.specs.Items.{modulation}
use Rattle.menus.specs.declared.Offer.{Offer}
use Rattle.menus.specs.Groups.{opens_group, group_of}
use Rattle.menus.specs.Offer.{pcm_tag, protocol, access, offer_of}
use Rattle.menus.proofs.Joined.{group_from, or_else, group_from_lem, group_joined, lone_group}
use Rattle.fields.specs.Packing.{packed}
use Rattle.fields.specs.Field.{field_tag, field_of}
use Rattle.fields.proofs.Packing.{packed_extensions}
use Rattle.offers.specs.Making.{house_count, menu_of, with_field, size_fault}
use Rattle.offers.proofs.Making.{size_short}
use Rattle.offers.proofs.Groups.{none_chosen_lem, or_nothing}
use Rattle.offers.proofs.Meaning.{found, menu_readable, menu_writable, house_fits}

-- the field by its tag: all of it, or nothing for any other tag
field_opens : (t : ℕ) → opens_group t (category_octet field_tag 0) ≡ eqb field_tag t
unfolding both
field_opens t = refl

group_of_some : (t : ℕ) (octets : List ℕ) → group_from t (category_octet field_tag 0 ∷ packed octets) ≡ when (eqb field_tag t) (category_octet field_tag 0 ∷ packed octets) []
group_of_some t octets =
    lone_group t (category_octet field_tag 0) (packed octets) (category_there field_tag 0) (packed_extensions octets)
    ∙ ap (λ (b : Bool). when b (category_octet field_tag 0 ∷ packed octets) []) (field_opens t)

module _ (octets : List ℕ) where
  -- a field ends the group before it
  field_ends : group_ends (field_of octets) 0 ≡ true
  unfolding field_of when
  field_ends =
      either_way (λ (l : List ℕ). group_ends l 0 ≡ true) (eqb (length octets) 0) [] (category_octet field_tag 0 ∷ packed octets) (λ _. refl) (λ _. group_starts (category_octet field_tag 0) (packed octets) (category_there field_tag 0))

  group_of_field : (t : ℕ) → group_from t (field_of octets) ≡ when (eqb field_tag t) (field_of octets) []
  unfolding field_of group_from
  group_of_field t =
      either_way (λ (l : List ℕ). group_from t l ≡ when (eqb field_tag t) l []) (eqb (length octets) 0) [] (category_octet field_tag 0 ∷ packed octets)
      (λ _. none_chosen_lem (eqb field_tag t))
      (λ _. group_of_some t octets)

-- octets that are accepted, and behind them some without a fault
accepted_joined : (p : Purpose) (a b : List ℕ) → list_fault p a ≡ 0 → first_fault p b ≡ 0 → length (a ++ b) ≤ 64 → list_fault p (a ++ b) ≡ 0
unfolding when
accepted_joined p [] b fine later short = clash (sym (accepted_opens p [] fine))
accepted_joined p (x ∷ a) b fine later short = simp (le-ltb 64 (length (x ∷ (a ++ b))) short, accepted_opens p (x ∷ a) fine, faultless p a b (accepted_rest p (x ∷ a) fine) later)

field_fine : (p : Purpose) → category_fault p field_tag ≡ 0 → (octets : List ℕ) → first_fault p (field_of octets) ≡ 0
unfolding field_of first_fault
field_fine p later octets =
    either_way (λ (l : List ℕ). first_fault p l ≡ 0) (eqb (length octets) 0) [] (category_octet field_tag 0 ∷ packed octets) (λ _. refl)
    (λ _. group_fine p (category_octet field_tag 0) (packed octets) (category_there field_tag 0) (packed_extensions octets) ∙ later)

-- a menu without one has none
pub no_field : (count : ℕ) (offer : Offer) → group_of (menu_of count offer) field_tag ≡ []
unfolding when
no_field count offer = found count offer field_tag

module _ (offer : Offer) (blocks : List ℕ) where
  -- each group of a menu with a field: that of the menu, or the field
  pub group_with_field : (t : ℕ) → group_of (with_field offer blocks) t ≡ or_else (group_of (menu_of house_count offer) t) (when (eqb field_tag t) (field_of blocks) [])
  group_with_field t =
      group_from_lem (with_field offer blocks) t
      ∙ group_joined t (menu_of house_count offer) (field_of blocks) (field_ends blocks)
      ∙ ap (or_else (group_from t (menu_of house_count offer))) (group_of_field blocks t)
      ∙ ap (λ (l : List ℕ). or_else l (when (eqb field_tag t) (field_of blocks) [])) (sym (group_from_lem (menu_of house_count offer) t))

  pub own_field : group_of (with_field offer blocks) field_tag ≡ field_of blocks
  unfolding when
  own_field = group_with_field field_tag ∙ ap (λ (l : List ℕ). or_else l (field_of blocks)) (no_field house_count offer)

  -- and every other group is as without it
  pub other_group : (t : ℕ) → eqb field_tag t ≡ false → group_of (with_field offer blocks) t ≡ group_of (menu_of house_count offer) t
  unfolding when
  other_group t other = group_with_field t ∙ ap (λ (b : Bool). or_else (group_of (menu_of house_count offer) t) (when b (field_of blocks) [])) other ∙ or_nothing (group_of (menu_of house_count offer) t)

  pub offer_kept : offer_of (with_field offer blocks) ≡ offer_of (menu_of house_count offer)
  unfolding joined
  offer_kept = rw (other_group modulation refl, other_group pcm_tag refl, other_group protocol refl, other_group access refl)

  -- it is accepted where it is not too long
  module _ (fits : size_fault (with_field offer blocks) ≡ 0) where
    accepted_with : (p : Purpose) → list_fault p (menu_of house_count offer) ≡ 0 → category_fault p field_tag ≡ 0 → list_fault p (with_field offer blocks) ≡ 0
    accepted_with p fine later = accepted_joined p (menu_of house_count offer) (field_of blocks) fine (field_fine p later blocks) (size_short (with_field offer blocks) fits)

    pub with_readable : list_fault Reading (with_field offer blocks) ≡ 0
    with_readable = accepted_with Reading (menu_readable house_count offer (house_fits offer)) refl

    pub with_writable : list_fault (Writing Menu) (with_field offer blocks) ≡ 0
    unfolding when
    with_writable = accepted_with (Writing Menu) (menu_writable house_count offer (house_fits offer)) refl
