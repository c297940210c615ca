-- Asking for one item: what a walk over the octets cites, one octet at a time; and that the walk answers what is read from the octets that it
-- looked at.
-- Assumes nothing.
use Prim.Native.Nat.{ℕ, zero, suc, ◌<◌, ◌≤◌, ◌+◌, ◌-◌}
use native.Mathlib.Numerals.{add-one, unary_clauses}
use native.Mathlib.Omega.{arith}
use mathlib.Core.Path.{◌≡◌, refl, sym, ap, ◌∙◌}
use mathlib.Core.Bool.{Bool, true, false}
use mathlib.Core.List.{List, [], ◌∷◌}
use borrow.Author.Tests.{eqb-true, eq-eqb, ne_eqb, ltb-false, le-ltb}
use lib.Dec.{ltb, eqb}
use lib.ListN.{length, take, drop, get_or, length-take, drop_of_length-le}
use lib.Seq.{drop-cons}
use Rattle.laws.specs.Logic.{when, both}
use Rattle.laws.proofs.Logic.{either_way, both_true, clash, same_either_way}
use Rattle.refusals.proofs.Numbers.{named, named_number}
use Rattle.octets.specs.declared.Purpose.TheVariants.{Reading}
use Rattle.octets.specs.Octets.{b4, category, tag, call_function_tag, bad}
use Rattle.octets.specs.Lists.{first_fault, opens, list_fault, until_category}
use Rattle.items.specs.declared.ItemPlace.{ItemPlace}
use Rattle.items.specs.Items.{place_of, is_mode, bit_of, has_item, in_set, modulation}
use Rattle.items.proofs.Places.{mode_is_item}
use Rattle.items.proofs.Sets.{none_in, set_has}
use Rattle.refusals.specs.declared.Refusal.{Refusal}
use Rattle.std.specs.Prelude.{Result, Ok, Err}
use Rattle.menus.specs.declared.Asked as declared
use Rattle.menus.specs.Groups.{opens_group, front_part, group_of}
use Rattle.menus.specs.Offer.{offers, offer_of, menu_read}
use Rattle.menus.specs.Offer as reading
use Rattle.menus.specs.Asking.{Asked, answer, refusal, says_asked, looks_in, looks, item_in, asked_first, asked}
use Rattle.menus.specs.Inner.{decided, walked, asked_at}
use Rattle.menus.proofs.Joined.{group_from, group_from_lem}

-- the next octet, within the group
module _ (bit b : ℕ) (s : List ℕ) (i : ℕ) where
  pub decided_here : (ahead : ℕ) → ahead ≤ 0 → decided bit ahead i b (drop i s) ≡ answer (eqb (bit_of bit b) 1) i
  unfolding decided
  decided_here zero none = refl
  decided_here (suc ahead) none = absurd (omega (arith, none))

  pub decided_end : (ahead : ℕ) → 0 < ahead → length s ≤ i → decided bit ahead i b (drop i s) ≡ answer false i
  unfolding decided
  decided_end zero some past = absurd (omega (arith, some))
  decided_end (suc ahead) some past = simp (drop_of_length-le s past)

  pub decided_short : (ahead : ℕ) → 0 < ahead → i < length s → category (get_or s i 0) ≡ true → decided bit ahead i b (drop i s) ≡ answer false (i + 1)
  unfolding decided when
  decided_short zero some there c = absurd (omega (arith, some))
  decided_short (suc ahead) some there c = simp (drop-cons s i 0 there, c)

  pub decided_bad : (ahead : ℕ) → 0 < ahead → i < length s → category (get_or s i 0) ≡ false → bad (get_or s i 0) ≡ true → decided bit ahead i b (drop i s) ≡ refusal 3
  unfolding decided when
  decided_bad zero some there c e = absurd (omega (arith, some))
  decided_bad (suc ahead) some there c e = simp (drop-cons s i 0 there, c, e)

  pub decided_on : (ahead : ℕ) → 0 < ahead → i < length s → category (get_or s i 0) ≡ false → bad (get_or s i 0) ≡ false
      → decided bit ahead i b (drop i s) ≡ decided bit (ahead - 1) (i + 1) (get_or s i 0) (drop (i + 1) s)
  unfolding decided when
  decided_on zero some there c e = absurd (omega (arith, some))
  decided_on (suc ahead) some there c e =
      let less : suc ahead - 1 ≡ ahead = omega arith in
      simp (drop-cons s i 0 there, c, e, less, add-one)

-- and before it
module _ (at : ItemPlace) (s : List ℕ) (i : ℕ) where
  pub walked_end : length s ≤ i → walked at i (drop i s) ≡ answer false i
  unfolding walked
  walked_end past = simp (drop_of_length-le s past)

  pub walked_group : i < length s → category (get_or s i 0) ≡ true → tag (get_or s i 0) ≡ modulation
      → walked at i (drop i s) ≡ decided at.bit.0 at.octet (i + 1) (get_or s i 0) (drop (i + 1) s)
  unfolding walked when
  walked_group there c t = simp (drop-cons s i 0 there, c, eq-eqb (tag (get_or s i 0)) modulation t, add-one)

  pub walked_other : i < length s → category (get_or s i 0) ≡ true → (tag (get_or s i 0) ≡ modulation → ⊥) → walked at i (drop i s) ≡ walked at (i + 1) (drop (i + 1) s)
  unfolding walked when
  walked_other there c t = simp (drop-cons s i 0 there, c, ne_eqb (tag (get_or s i 0)) modulation t, add-one)

  pub walked_bad : i < length s → category (get_or s i 0) ≡ false → bad (get_or s i 0) ≡ true → walked at i (drop i s) ≡ refusal 3
  unfolding walked when
  walked_bad there c e = simp (drop-cons s i 0 there, c, e)

  pub walked_on : i < length s → category (get_or s i 0) ≡ false → bad (get_or s i 0) ≡ false → walked at i (drop i s) ≡ walked at (i + 1) (drop (i + 1) s)
  unfolding walked when
  walked_on there c e = simp (drop-cons s i 0 there, c, e, add-one)

-- a category octet is no bad one
pub category_not_bad : (b : ℕ) → category b ≡ true → bad b ≡ false
unfolding both
category_not_bad b c = let none : b4 b ≡ 0 = eqb-true _ _ c in simp none

-- one octet more is looked at
one_more : (looked n : ℕ) → looked + 1 + n ≡ looked + suc n
one_more looked n = omega arith

-- an answer, where no octet looked at is at fault
abbrev pub unless : ℕ → Asked → Asked
unless fault a = when (eqb fault 0) a (refusal fault)

-- the extension octets in front
abbrev pub extensions : List ℕ → List ℕ
extensions bs = take (until_category bs) bs

abbrev is_one : ℕ → ℕ → Bool
is_one bit b = eqb (bit_of bit b) 1

module _ (bit : ℕ) where
  no_bit_lem : is_one bit 0 ≡ false
  unfolding in_set
  no_bit_lem = none_in bit

  -- the group's octets that are looked at have the item or not
  abbrev in_group : ℕ → ℕ → ℕ → List ℕ → Asked
  in_group ahead looked b bs =
      let seen = take (looks_in ahead bs) bs in
      unless (first_fault Reading seen) (answer (is_one bit (get_or (b ∷ extensions seen) ahead 0)) (looked + looks_in ahead bs))

  in_group_by : (ahead looked b next : ℕ) (bs : List ℕ) → decided bit ahead (looked + 1) next bs ≡ in_group ahead (looked + 1) next bs
      → (isCategory isBad : Bool) → category next ≡ isCategory → bad next ≡ isBad
      → when isCategory (answer false (looked + 1)) (when isBad (refusal 3) (decided bit ahead (looked + 1) next bs)) ≡ in_group (suc ahead) looked b (next ∷ bs)
  unfolding when looks_in first_fault until_category
  in_group_by ahead looked b next bs later true isBad c e = simp (c, category_not_bad next c, no_bit_lem)
  in_group_by ahead looked b next bs later false true c e = simp (c, e)
  in_group_by ahead looked b next bs later false false c e = later ∙ simp (c, e, one_more looked (looks_in ahead bs))

  in_group_lem : (ahead looked b : ℕ) (bs : List ℕ) → decided bit ahead looked b bs ≡ in_group ahead looked b bs
  unfolding decided looks_in first_fault until_category when
  in_group_lem zero looked b bs = simp unary_clauses
  in_group_lem (suc ahead) looked b [] = simp (no_bit_lem, unary_clauses)
  in_group_lem (suc ahead) looked b (next ∷ bs) = in_group_by ahead looked b next bs (in_group_lem ahead (looked + 1) next bs) (category next) (bad next) refl refl

-- and so have those of the menu, up to there
module _ (at : ItemPlace) where
  abbrev in_menu : ℕ → List ℕ → Asked
  in_menu looked s =
      let seen = take (looks at.octet s) s in
      unless (first_fault Reading seen) (answer (is_one at.bit.0 (get_or (group_from modulation seen) at.octet 0)) (looked + looks at.octet s))

  in_menu_by : (looked b : ℕ) (bs : List ℕ) → walked at (looked + 1) bs ≡ in_menu (looked + 1) bs
      → (isCategory isModulation isBad : Bool) → category b ≡ isCategory → eqb (tag b) modulation ≡ isModulation → bad b ≡ isBad
      → when isCategory (when isModulation (decided at.bit.0 at.octet (looked + 1) b bs) (walked at (looked + 1) bs)) (when isBad (refusal 3) (walked at (looked + 1) bs)) ≡ in_menu looked (b ∷ bs)
  unfolding when both looks first_fault group_from front_part
  in_menu_by looked b bs later true true isBad c t e =
      in_group_lem at.bit.0 at.octet (looked + 1) b bs ∙ simp (c, category_not_bad b c, t, one_more looked (looks_in at.octet bs))
  in_menu_by looked b bs later true false isBad c t e = later ∙ simp (c, category_not_bad b c, t, one_more looked (looks at.octet bs))
  in_menu_by looked b bs later false isModulation true c t e = simp (c, e)
  in_menu_by looked b bs later false isModulation false c t e = later ∙ simp (c, e, one_more looked (looks at.octet bs))

  in_menu_lem : (looked : ℕ) (s : List ℕ) → walked at looked s ≡ in_menu looked s
  unfolding walked looks first_fault group_from when
  in_menu_lem looked [] = simp (no_bit_lem at.bit.0, unary_clauses)
  in_menu_lem looked (b ∷ bs) = in_menu_by looked b bs (in_menu_lem (looked + 1) bs) (category b) (eqb (tag b) modulation) (bad b) refl refl refl

-- no more octets are looked at than there are, and the first is one of them
looks_in_few : (ahead : ℕ) (s : List ℕ) → looks_in ahead s ≤ length s
unfolding looks_in
looks_in_few zero s = omega arith
looks_in_few (suc ahead) [] = omega arith
looks_in_few (suc ahead) (b ∷ bs) = either_way (λ (n : ℕ). suc n ≤ suc (length bs)) (category b) 0 (looks_in ahead bs) (λ _. omega arith) (λ _. omega (arith, looks_in_few ahead bs))

pub looks_few : (ahead : ℕ) (s : List ℕ) → looks ahead s ≤ length s
unfolding looks
looks_few ahead [] = omega arith
looks_few ahead (b ∷ bs) =
    either_way (λ (n : ℕ). suc n ≤ suc (length bs)) (opens_group modulation b) (looks_in ahead bs) (looks ahead bs) (λ _. omega (arith, looks_in_few ahead bs)) (λ _. omega (arith, looks_few ahead bs))

pub opens_seen : (ahead : ℕ) (s : List ℕ) → opens (take (looks ahead s) s) ≡ opens s
unfolding looks
opens_seen ahead [] = refl
opens_seen ahead (b ∷ bs) = refl

-- the octets looked at, read as a menu
item_in_lem : (item looked f : ℕ) (octets : List ℕ) (fine : Bool)
    → item_in item looked (when fine (offers (offer_of octets)) (reading.refusal f)) ≡ when fine (answer (in_set (offer_of octets).items item) looked) (refusal f)
unfolding when
item_in_lem item looked f octets true = refl
item_in_lem item looked f octets false = refl

-- and the item in them, by the octets themselves
pub item_of : (item : ℕ) (octets : List ℕ) → is_mode item ≡ true → in_set (offer_of octets).items item ≡ has_item (group_from modulation octets) item
item_of item octets mode =
    set_has (has_item (group_of octets modulation)) 13 item (mode_is_item item mode)
    ∙ ap (λ (group : List ℕ). has_item group item) (group_from_lem octets modulation)

module _ (item : ℕ) (mode : is_mode item ≡ true) where
  abbrev ahead : ℕ
  ahead = (place_of item).octet

  -- the call function's octet is looked at, and opens no modulation group
  call_function_lem : (c : ℕ) (s : List ℕ) → opens (c ∷ s) ≡ true → opens_group modulation c ≡ false
  unfolding both
  call_function_lem c s opened =
      let opening = both_true (category c) (eqb (tag c) call_function_tag) opened in
      let called : tag c ≡ 1 = eqb-true _ _ opening.1 in
      simp (called, opening.0)

  walk_behind : (c : ℕ) (s : List ℕ) → length (c ∷ s) ≤ 64 → opens (c ∷ s) ≡ true → asked_first (c ∷ s) item (looks ahead (c ∷ s)) ≡ walked (place_of item) 1 s
  unfolding menu_read looks when group_from has_item
  walk_behind c s short opened =
      let seen = take (looks ahead s) s in
      let unopened = call_function_lem c s opened in
      let fits : length (c ∷ seen) ≤ 64 = omega (arith, short, length-take (looks ahead s) s) in
      let counted : suc (looks ahead s) ≡ 1 + looks ahead s = omega arith in
      let fault : list_fault Reading (c ∷ seen) ≡ first_fault Reading seen = simp (le-ltb 64 (length (c ∷ seen)) fits, opened) in
      simp unopened (item_in_lem item (suc (looks ahead s)) (list_fault Reading (c ∷ seen)) (c ∷ seen) (eqb (list_fault Reading (c ∷ seen)) 0)
      ∙ rw (fault, item_of item (c ∷ seen) mode) (simp (unopened, counted) (sym (in_menu_lem (place_of item) 1 s))))

  unopened_first : (octets : List ℕ) → length octets ≤ 64 → opens octets ≡ false → asked_first octets item (looks ahead octets) ≡ refusal 5
  unfolding menu_read looks when
  unopened_first [] short unopened = refl
  unopened_first (c ∷ s) short unopened =
      let behind = when (opens_group modulation c) (looks_in ahead s) (looks ahead s) in
      let fits : length (c ∷ take behind s) ≤ 64 = omega (arith, short, length-take behind s) in
      simp (le-ltb 64 (length (c ∷ take behind s)) fits, unopened)

  -- what the tests of a list leave to the walk is what is asked
  opened_by : (octets : List ℕ) → length octets ≤ 64 → (opened : Bool) → opens octets ≡ opened → asked_first octets item (looks ahead octets) ≡ when opened (walked (place_of item) 1 (drop 1 octets)) (refusal 5)
  unfolding when
  opened_by [] short true opened = clash (sym opened)
  opened_by (c ∷ s) short true opened = walk_behind c s short opened
  opened_by octets short false unopened = unopened_first octets short unopened

  pub asked_few : (octets : List ℕ) → length octets ≤ 64 → asked octets item ≡ asked_first octets item (looks ahead octets)
  unfolding asked when
  asked_few octets few = simp (mode, le-ltb 64 (length octets) few)

  pub asked_seen : (octets : List ℕ) → length octets ≤ 64
      → asked octets item ≡ unless (list_fault Reading (take (looks ahead octets) octets)) (answer (in_set (offer_of (take (looks ahead octets) octets)).items item) (looks ahead octets))
  unfolding menu_read
  asked_seen octets few =
      let seen = take (looks ahead octets) octets in
      asked_few octets few ∙ item_in_lem item (looks ahead octets) (list_fault Reading seen) seen (eqb (list_fault Reading seen) 0)

  pub asked_mode : (octets : List ℕ) → asked octets item ≡ asked_at (place_of item) octets
  unfolding asked when
  asked_mode octets =
      simp mode (same_either_way (ltb 64 (length octets)) (refusal 4) (refusal 4) _ _ (λ _. refl) (λ few. opened_by octets (ltb-false 64 (length octets) few) (opens octets) refl))

pub asked_no_mode : (octets : List ℕ) (item : ℕ) → is_mode item ≡ false → asked octets item ≡ refusal 9
unfolding asked when
asked_no_mode octets item none = simp none

-- no two answers say the same
abbrev asking : Asked → Result declared.Asked Refusal
asking (answer offered looked) = Ok (record { offered = offered; looked = looked })
asking (refusal n) = Err (named n)

asking_says : (a : Result declared.Asked Refusal) → asking (says_asked a) ≡ a
asking_says (Ok a) = refl
asking_says (Err r) = ap Err (named_number r)

pub says_asked_injective : (a b : Result declared.Asked Refusal) → says_asked a ≡ says_asked b → a ≡ b
says_asked_injective a b e = sym (asking_says a) ∙ ap asking e ∙ asking_says b
