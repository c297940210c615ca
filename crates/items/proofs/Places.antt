-- Laws about the places of items: the table that the code holds gives them, entry by entry; the octets that say a set, and the set that is read
-- back from them, computed octet by octet.
-- Assumes nothing.
use Prim.Native.Nat.{ℕ, ◌<◌, ◌≤◌, ◌+◌, ◌*◌, ◌%◌, ◌/◌}
use mathlib.Core.Path.{◌≡◌, sym, ap, ◌∙◌}
use mathlib.Core.Bool.{Bool, true, false}
use mathlib.Core.List.{List, [], ◌∷◌}
use Rattle.std.specs.Prelude.{Option, Some, None}
use borrow.Author.Tests.{leb-true, ne_eqb}
use native.Mathlib.Nat.{div-div-eq-div-mul}
use native.Mathlib.Omega.{arith}
use lib.Dec.{T, ltb, ltb→lt, leb, eqb, eqb→eq}
use lib.ListN.{length, get_or, get_or-eq_default}
use Rattle.laws.specs.Logic.{when, both}
use Rattle.laws.specs.Tests.{all_below}
use Rattle.laws.proofs.Computed.{below, both_left, both_right}
use Rattle.laws.proofs.Logic.{both_true, either_way}
use Rattle.items.specs.declared.ItemPlace.{ItemPlace}
use Rattle.items.specs.Items.{places, place_of, is_mode, mode_place, bit_of, has_item, set_of, items_of, item_bits, modulation, no_items, modulation_octet}

-- the table of the code: 8 for each octet before it, and the bit
abbrev pub table : List ℕ
table = 5 ∷ 6 ∷ 7 ∷ 8 ∷ 9 ∷ 10 ∷ 14 ∷ 15 ∷ 16 ∷ 17 ∷ 18 ∷ 22 ∷ 23 ∷ []

abbrev made : ℕ → ℕ → ItemPlace
made octet bit = record { octet = octet; bit = record { 0 = bit } }

abbrev agrees : ℕ → Bool
agrees i = both (eqb (get_or table i 0 / 8) (place_of i).octet) (eqb (get_or table i 0 % 8) (place_of i).bit.0)

module _ (i : ℕ) (h : i < 13) where
  entry : T (agrees i)
  unfolding places place_of all_below both
  entry = below agrees 13 tt i h

  pub place_at : ◌≡◌ {A = ItemPlace} (record { octet = get_or table i 0 / 8; bit = record { 0 = get_or table i 0 % 8 } }) (place_of i)
  place_at =
      let octet = eqb→eq (get_or table i 0 / 8) (place_of i).octet (both_left _ _ entry) in
      let bit = eqb→eq (get_or table i 0 % 8) (place_of i).bit.0 (both_right (eqb (get_or table i 0 / 8) (place_of i).octet) _ entry) in
      ap (λ (n : ℕ). made n (get_or table i 0 % 8)) octet ∙ ap (λ (n : ℕ). made (place_of i).octet n) bit

  -- a bit number is one of an octet's
  pub place_bit : (place_of i).bit.0 < 8
  unfolding places place_of all_below both
  place_bit = ltb→lt (place_of i).bit.0 8 (below (λ (k : ℕ). ltb (place_of k).bit.0 8) 13 tt i h)

  -- and no item stands past the third octet
  pub place_octet : (place_of i).octet < 3
  unfolding places place_of all_below both
  place_octet = ltb→lt (place_of i).octet 3 (below (λ (k : ℕ). ltb (place_of k).octet 3) 13 tt i h)

-- a mode is one of the items
pub mode_is_item : (item : ℕ) → is_mode item ≡ true → item < 13
mode_is_item item mode = omega (arith, leb-true item 12 (both_true (leb 1 item) (leb item 12) mode).1)

pub mode_there : (item : ℕ) (p : ItemPlace) → mode_place item ≡ Some p → (is_mode item ≡ true) × (place_of item ≡ p)
mode_there item p =
    either_way (λ (m : Option ItemPlace). m ≡ Some p → (is_mode item ≡ true) × (place_of item ≡ p)) (is_mode item) (Some (place_of item)) None
    (λ mode e. (mode, cc)) (λ _ e. absurd (cc))

pub mode_nowhere : (item : ℕ) → mode_place item ≡ None → is_mode item ≡ false
mode_nowhere item =
    either_way (λ (m : Option ItemPlace). m ≡ None → is_mode item ≡ false) (is_mode item) (Some (place_of item)) None
    (λ _ e. absurd (cc)) (λ none _. none)

-- an octet that is not there has no bits
zero_bit : (k : ℕ) → k < 8 → bit_of k 0 ≡ 0
unfolding all_below both
zero_bit k h = eqb→eq (bit_of k 0) 0 (below (λ (j : ℕ). eqb (bit_of j 0) 0) 8 tt k h)

pub item_past : (group : List ℕ) (i : ℕ) → i < 13 → length group ≤ (place_of i).octet → has_item group i ≡ false
unfolding has_item
item_past group i h past =
    ne_eqb (bit_of (place_of i).bit.0 (get_or group (place_of i).octet 0)) 1 (λ e. let z : bit_of (place_of i).bit.0 (get_or group (place_of i).octet 0) ≡ 0 = ap (λ (b : ℕ). bit_of (place_of i).bit.0 b) (get_or-eq_default group 0 past) ∙ zero_bit (place_of i).bit.0 (place_bit i h) in omega (arith, e, z))

-- the lowest bits of a number, where they are put together again
two_bits : (n : ℕ) → n % 2 + n / 2 % 2 * 2 ≡ n % 4
two_bits n = let quarter : n / 4 ≡ n / 2 / 2 = sym (div-div-eq-div-mul n 2 2) in omega (arith, quarter)

three_bits : (n : ℕ) → n % 2 + n / 2 % 2 * 2 + n / 4 % 2 * 4 ≡ n % 8
three_bits n =
    let eighth : n / 8 ≡ n / 2 / 4 = sym (div-div-eq-div-mul n 2 4) in
    let low : n % 2 + n / 2 % 4 * 2 ≡ n % 8 = omega (arith, eighth) in
    let high : n / 2 % 2 + n / 4 % 2 * 2 ≡ n / 2 % 4 = ap (λ (k : ℕ). n / 2 % 2 + k % 2 * 2) (sym (div-div-eq-div-mul n 2 2)) ∙ two_bits (n / 2) in
    omega (arith, low, high)

-- b0, b1, b2, b6, b7 of an extension octet, from the five bits of a number
five_bits_lem : (n : ℕ) → n % 2 + n / 2 % 2 * 2 + n / 4 % 2 * 4 + n / 8 % 2 * 64 + n / 16 % 2 * 128 ≡ n % 8 + 64 * (n / 8 % 4)
five_bits_lem n =
    let sixteenth : n / 16 ≡ n / 8 / 2 = sym (div-div-eq-div-mul n 8 2) in
    let high : n / 8 % 2 + n / 16 % 2 * 2 ≡ n / 8 % 4 = ap (λ (k : ℕ). n / 8 % 2 + k % 2 * 2) sixteenth ∙ two_bits (n / 8) in
    omega (arith, three_bits n, high)

-- the octets of a set of items
module _ (items : ℕ) where
  pub octet_0 : modulation_octet items 0 ≡ modulation + 32 * (items % 8)
  unfolding places place_of item_bits modulation_octet when
  octet_0 = omega (arith, three_bits items)

  pub octet_1 : modulation_octet items 1 ≡ no_items + items / 8 % 8 + 64 * (items / 8 / 8 % 4)
  unfolding places place_of item_bits modulation_octet when
  octet_1 = simp (sym (div-div-eq-div-mul items 8 2), sym (div-div-eq-div-mul items 8 4), sym (div-div-eq-div-mul items 8 8), sym (div-div-eq-div-mul items 8 16)) (omega (arith, five_bits_lem (items / 8)))

  pub octet_2 : modulation_octet items 2 ≡ no_items + items / 256 % 8 + 64 * (items / 256 / 8 % 4)
  unfolding places place_of item_bits modulation_octet when
  octet_2 = simp (sym (div-div-eq-div-mul items 256 2), sym (div-div-eq-div-mul items 256 4), sym (div-div-eq-div-mul items 256 8), sym (div-div-eq-div-mul items 256 16)) (omega (arith, five_bits_lem (items / 256)))

  -- no item stands past the third octet
  pub octet_past : (octet : ℕ) → 2 < octet → modulation_octet items octet ≡ no_items
  unfolding places place_of item_bits modulation_octet when
  octet_past octet h = simp (ne_eqb octet 0 (λ e. omega (arith, e, h)), ne_eqb 0 octet (λ e. omega (arith, e, h)), ne_eqb 1 octet (λ e. omega (arith, e, h)), ne_eqb 2 octet (λ e. omega (arith, e, h)))

-- the items of a set are read from its octets, octet by octet: three in the first, and five in each other, by the lowest item's weight
abbrev said : ℕ → ℕ → ℕ → ℕ
said bit weight b = when (eqb (bit_of bit b) 1) weight 0

abbrev three_in : ℕ → ℕ
three_in b = said 5 1 b + said 6 2 b + said 7 4 b

abbrev five_in : ℕ → ℕ → ℕ
five_in weight b = said 0 weight b + said 1 (2 * weight) b + said 2 (4 * weight) b + said 6 (8 * weight) b + said 7 (16 * weight) b

octet_by_octet : (a b c : ℕ) → items_of (a ∷ b ∷ c ∷ []) ≡ three_in a + five_in 8 b + five_in 256 c
unfolding places place_of has_item set_of
octet_by_octet a b c = omega arith

abbrev five_bits : ℕ → ℕ
five_bits n = no_items + n % 8 + 64 * (n / 8)

three_back : (n : ℕ) → n < 8 → three_in (modulation + 32 * n) ≡ n
unfolding all_below both when
three_back n h = eqb→eq (three_in (modulation + 32 * n)) n (below (λ (k : ℕ). eqb (three_in (modulation + 32 * k)) k) 8 tt n h)

module _ (n : ℕ) (h : n < 32) where
  five_back : five_in 8 (five_bits n) ≡ 8 * n
  unfolding all_below both when
  five_back = eqb→eq (five_in 8 (five_bits n)) (8 * n) (below (λ (k : ℕ). eqb (five_in 8 (five_bits k)) (8 * k)) 32 tt n h)

  last_back : five_in 256 (five_bits n) ≡ 256 * n
  unfolding all_below both when
  last_back = eqb→eq (five_in 256 (five_bits n)) (256 * n) (below (λ (k : ℕ). eqb (five_in 256 (five_bits k)) (256 * k)) 32 tt n h)

pub items_back : (items : ℕ) → items < 8192 → items_of (modulation_octet items 0 ∷ modulation_octet items 1 ∷ modulation_octet items 2 ∷ []) ≡ items
items_back items h =
    let low = items % 8 in
    let mid = items / 8 % 32 in
    let high = items / 256 in
    let first : modulation_octet items 0 ≡ modulation + 32 * low = octet_0 items in
    let second : modulation_octet items 1 ≡ five_bits mid = octet_1 items ∙ omega arith in
    let third : modulation_octet items 2 ≡ five_bits high = octet_2 items ∙ omega arith in
    octet_by_octet (modulation_octet items 0) (modulation_octet items 1) (modulation_octet items 2)
    ∙ rw (first, second, third) (rw (three_back low (omega arith), five_back mid (omega arith), last_back high (omega arith)) (omega (arith, div-div-eq-div-mul items 8 32)))
