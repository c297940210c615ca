-- A menu that says an offer is accepted, by the reader and by the writer, and read back as that offer.
-- Assumes nothing.
use Prim.Native.Nat.{ℕ, zero, suc, ◌<◌, ◌≤◌}
use native.Mathlib.Omega.{arith}
use mathlib.Core.Path.{◌≡◌, refl, sym, ap, ◌∙◌}
use mathlib.Core.Bool.{Bool, true, false}
use mathlib.Core.List.{List, [], ◌∷◌, ◌++◌}
use borrow.Author.Tests.{lt-ltb, ltb-false, ne_eqb}
use lib.Dec.{ltb, eqb, lit<}
use lib.ListN.{length}
use Rattle.laws.specs.Logic.{when}
use Rattle.laws.specs.Joined.{joined}
use Rattle.laws.specs.Tests.{every}
use Rattle.laws.proofs.Logic.{either_way, bit_of_test}
use Rattle.octets.specs.declared.Kind.TheVariants.{Menu}
use Rattle.octets.specs.declared.Purpose.{Purpose}
use Rattle.octets.specs.declared.Purpose.TheVariants.{Reading, Writing}
use Rattle.octets.specs.Octets.{tag, call_function_tag, category_octet}
use Rattle.octets.specs.Lists.{category_fault, first_fault, list_fault}
use Rattle.octets.proofs.Lists.{faultless}
use Rattle.octets.proofs.Fine.{group_fine, accepted_by}
use Rattle.octets.proofs.Made.{category_there, tag_there, options_there}
use Rattle.items.specs.Items.{places, place_of, has_item, set_of, items_of, item_bits, modulation, modulation_octet}
use Rattle.items.proofs.Places.{octet_0, items_back}
use Rattle.menus.specs.declared.Offer.{Offer}
use Rattle.menus.specs.Groups.{group_of, options_in}
use Rattle.menus.specs.Offer.{pcm_tag, protocol, lapm_option, access, stands, offer_of}
use Rattle.menus.proofs.Joined.{or_else, group_from_lem}
use Rattle.offers.specs.Offering.{with_items}
use Rattle.offers.specs.Making.{one_octet, modulation_from, modulation_group, house_count, groups_of, menu_of, modulation_count}
use Rattle.offers.proofs.Making.{menu_short}
use Rattle.offers.proofs.Groups.{Groups, one_group, one_of_tag, modulation_group_lem, modulation_of_tag, group_found, or_nothing}

module _ (p : Purpose) (later : (t : ℕ) → (t ≡ 0 → ⊥) → category_fault p t ≡ 0) where
  -- each group behind the first
  one_fine : (there : Bool) (t o : ℕ) → t < 16 → (t ≡ 0 → ⊥) → first_fault p (one_octet there (category_octet t o)) ≡ 0
  unfolding when first_fault every
  one_fine true t o h n = group_fine p (category_octet t o) [] (category_there t o) refl ∙ ap (λ (s : ℕ). category_fault p s) (tag_there t o h) ∙ later t n
  one_fine false t o h n = refl

  none_fine : first_fault p [] ≡ 0
  unfolding first_fault
  none_fine = refl

  modulation_fine : (count items : ℕ) → first_fault p (modulation_group count items) ≡ 0
  unfolding modulation_from
  modulation_fine zero items = none_fine
  modulation_fine (suc more) items =
      let group = modulation_group_lem items (suc more) in
      group_fine p (modulation_octet items 0) (modulation_from items 1 more) group.0 group.1
      ∙ ap (λ (b : ℕ). category_fault p (tag b)) (octet_0 items) ∙ ap (λ (s : ℕ). category_fault p s) (tag_there modulation items (lit< tt)) ∙ later modulation (λ z. omega (arith, z))

  -- and so the menu, where it is not too long
  pub menu_accepted : (count : ℕ) (offer : Offer) → length (menu_of count offer) ≤ 64 → list_fault p (menu_of count offer) ≡ 0
  unfolding joined
  menu_accepted count offer fits =
      let pcms = one_octet (ltb 0 offer.pcm) (category_octet pcm_tag offer.pcm) in
      let protocols = one_octet offer.lapm (category_octet protocol lapm_option) in
      let accesses = one_octet offer.access (category_octet access offer.access_options) in
      let tail = faultless p pcms (protocols ++ (accesses ++ [])) (one_fine (ltb 0 offer.pcm) pcm_tag offer.pcm (lit< tt) (λ z. omega (arith, z)))
      (faultless p protocols (accesses ++ []) (one_fine offer.lapm protocol lapm_option (lit< tt) (λ z. omega (arith, z)))
      (faultless p accesses [] (one_fine offer.access access offer.access_options (lit< tt) (λ z. omega (arith, z))) none_fine)) in
      accepted_by p (category_octet call_function_tag offer.function) (modulation_group count offer.items ++ (pcms ++ (protocols ++ (accesses ++ []))))
      fits
      (category_there call_function_tag offer.function) (tag_there call_function_tag offer.function (lit< tt))
      (faultless p (modulation_group count offer.items) (pcms ++ (protocols ++ (accesses ++ []))) (modulation_fine count offer.items) tail)

module _ (count : ℕ) (offer : Offer) (fits : length (menu_of count offer) ≤ 64) where
  pub menu_readable : list_fault Reading (menu_of count offer) ≡ 0
  menu_readable = menu_accepted Reading (λ t n. refl) count offer fits

  -- "accepted by the writer"
  pub menu_writable : list_fault (Writing Menu) (menu_of count offer) ≡ 0
  unfolding when
  menu_writable = menu_accepted (Writing Menu) (λ t n. simp (ne_eqb t 0 n)) count offer fits

-- with the octets of the house it is not
pub house_fits : (offer : Offer) → length (menu_of house_count offer) ≤ 64
house_fits offer = omega (arith, menu_short offer)

-- what can be said in a menu
pub record Sayable (offer : Offer) : Type 0 where
  pub function : offer.function < 8
  pub items : offer.items < 8192
  pub pcm : offer.pcm < 8
  pub options : offer.access_options < 8
  pub pcm_alone_lem : offer.access ≡ false → offer.pcm ≡ 0
  pub options_alone : offer.access ≡ false → offer.access_options ≡ 0

module _ (count : ℕ) (offer : Offer) where
  abbrev pcms : List ℕ
  pcms = one_octet (ltb 0 offer.pcm) (category_octet pcm_tag offer.pcm)

  abbrev protocols : List ℕ
  protocols = one_octet offer.lapm (category_octet protocol lapm_option)

  abbrev accesses : List ℕ
  accesses = one_octet offer.access (category_octet access offer.access_options)

  are_groups : Groups (groups_of count offer)
  unfolding when
  are_groups = (
    one_group call_function_tag offer.function true,
    (
      modulation_group_lem offer.items count,
      (
        one_group pcm_tag offer.pcm (ltb 0 offer.pcm),
        (
          one_group protocol lapm_option offer.lapm,
          (one_group access offer.access_options offer.access, tt),
        ),
      ),
    ),
  )

  -- the first group of a tag in the menu
  pub found : (t : ℕ) → group_of (menu_of count offer) t ≡
      or_else (when (eqb call_function_tag t) (category_octet call_function_tag offer.function ∷ []) [])
      (or_else (when (eqb modulation t) (modulation_group count offer.items) [])
      (or_else (when (eqb pcm_tag t) pcms [])
      (or_else (when (eqb protocol t) protocols [])
      (when (eqb access t) accesses []))))
  unfolding when
  found t =
      group_from_lem (menu_of count offer) t ∙ group_found t (groups_of count offer) are_groups
      ∙ simp (one_of_tag call_function_tag offer.function (lit< tt) true t, modulation_of_tag offer.items count t, one_of_tag pcm_tag offer.pcm (lit< tt) (ltb 0 offer.pcm) t, one_of_tag protocol lapm_option (lit< tt) offer.lapm t, one_of_tag access offer.access_options (lit< tt) offer.access t, or_nothing)

-- a group of one octet, as the reader takes it
options_of_one : (there : Bool) (t o : ℕ) → o < 8 → options_in (one_octet there (category_octet t o)) ≡ when there o 0
unfolding when
options_of_one true t o h = options_there t o h
options_of_one false t o h = refl

stands_one : (there : Bool) (octet : ℕ) → stands (one_octet there octet) ≡ there
unfolding when
stands_one true octet = refl
stands_one false octet = refl

-- what is 0 without the test needs no test
chosen_alone : (t : Bool) (n : ℕ) → (t ≡ false → n ≡ 0) → when t n 0 ≡ n
unfolding when
chosen_alone true n h = refl
chosen_alone false n h = sym (h refl)

pub same_offer : (f g i j p q o r : ℕ) (l m a b : Bool) → f ≡ g → i ≡ j → p ≡ q → l ≡ m → a ≡ b → o ≡ r
    → ◌≡◌ {A = Offer} (record { function = f; items = i; pcm = p; lapm = l; access = a; access_options = o }) (record { function = g; items = j; pcm = q; lapm = m; access = b; access_options = r })
same_offer f g i j p q o r l m a b e1 e2 e3 e4 e5 e6 = cc

-- a menu is read as the offer that it says, with the items that stand in so many octets
module _ (count : ℕ) (offer : Offer) where
  pub modulation_found : group_of (menu_of count offer) modulation ≡ modulation_group count offer.items
  unfolding when
  modulation_found = found count offer modulation ∙ or_nothing (modulation_group count offer.items)

  pub pcm_found : group_of (menu_of count offer) pcm_tag ≡ pcms count offer
  unfolding when
  pcm_found = found count offer pcm_tag ∙ or_nothing (pcms count offer)

  pub protocol_found : group_of (menu_of count offer) protocol ≡ protocols count offer
  unfolding when
  protocol_found = found count offer protocol ∙ or_nothing (protocols count offer)

  pub access_found : group_of (menu_of count offer) access ≡ accesses count offer
  unfolding when
  access_found = found count offer access

  pub read_with : Sayable offer → offer_of (menu_of count offer) ≡ with_items offer (items_of (modulation_group count offer.items))
  unfolding when joined
  read_with says =
      let standing = ap stands access_found ∙ stands_one offer.access (category_octet access offer.access_options) in
      let counted = ap options_in pcm_found ∙ options_of_one (ltb 0 offer.pcm) pcm_tag offer.pcm says.pcm ∙ chosen_alone (ltb 0 offer.pcm) offer.pcm (λ e. omega (arith, ltb-false 0 offer.pcm e)) in
      same_offer _ _ _ _ _ _ _ _ _ _ _ _
      (options_there call_function_tag offer.function says.function)
      (ap items_of modulation_found)
      (ap (λ (b : Bool). when b (options_in (group_of (menu_of count offer) pcm_tag)) 0) standing ∙ ap (λ (n : ℕ). when offer.access n 0) counted ∙ chosen_alone offer.access offer.pcm says.pcm_alone_lem)
      (ap (λ (g : List ℕ). eqb (options_in g) 1) protocol_found ∙ ap (λ (n : ℕ). eqb n 1) (options_of_one offer.lapm protocol lapm_option (lit< tt)) ∙ (bit_of_test offer.lapm).1)
      standing
      (ap options_in access_found ∙ options_of_one offer.access access offer.access_options says.options ∙ chosen_alone offer.access offer.access_options says.options_alone)

pub read_back : (offer : Offer) → Sayable offer → offer_of (menu_of house_count offer) ≡ offer
unfolding modulation_from
read_back offer says = read_with house_count offer says ∙ ap (with_items offer) (items_back offer.items says.items)

-- item 0 alone is said by any group that stands, however many octets it has
lone_item : (items more : ℕ) → items < 2 → items_of (modulation_group (suc more) items) ≡ items
unfolding modulation_from modulation_octet item_bits places place_of has_item set_of when
lone_item zero zero h = refl
lone_item zero (suc zero) h = refl
lone_item zero (suc (suc more)) h = refl
lone_item (suc zero) zero h = refl
lone_item (suc zero) (suc zero) h = refl
lone_item (suc zero) (suc (suc more)) h = refl
lone_item (suc (suc items)) more h = absurd (omega (arith, h))

-- a JM says its items, and item 0 only where its modulation group stands
pub jm_items : (jm : Offer) (heard : List ℕ) → jm.items < 8192 → items_of (modulation_group (modulation_count jm heard) jm.items) ≡ when (ltb 0 (modulation_count jm heard)) jm.items 0
unfolding when modulation_from places place_of has_item set_of
jm_items jm heard small =
    either_way (λ (count : ℕ). items_of (modulation_group count jm.items) ≡ when (ltb 0 count) jm.items 0) (ltb 1 jm.items) house_count (length (group_of heard modulation))
    (λ _. items_back jm.items small)
    (λ few. go (length (group_of heard modulation)) (ltb-false 1 jm.items few))
  where
    go : (count : ℕ) → jm.items ≤ 1 → items_of (modulation_group count jm.items) ≡ when (ltb 0 count) jm.items 0
    go zero few = refl
    go (suc more) few = simp (lt-ltb 0 (suc more) (omega arith)) (lone_item jm.items more (omega (arith, few)))
