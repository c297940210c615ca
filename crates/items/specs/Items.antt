-- Document 01, 'Octets of the menu': where the items stand in the modulation group.
use Rattle.std.specs.Prelude.{ℕ, zero, suc, ◌+◌, ◌*◌, ◌%◌, ◌/◌, ◌^◌, Bool, List, [], ◌∷◌, eqb, leb, get_or, Option, Some, None}
use Rattle.laws.specs.Logic.{when, both}
use Rattle.items.specs.declared.ItemPlace.{ItemPlace}

abbrev at : ℕ → ℕ → ItemPlace
at octet bit = record { octet = octet; bit = record { 0 = bit } }

-- "Items 0, 1, 2 are b5, b6, b7 of the modulation category octet. Items 3 to 7 are b0, b1, b2, b6, b7 of the first extension octet,
-- items 8 to 12 the same bits of the second."
unfoldable pub places : List ItemPlace
places = at 0 5 ∷ at 0 6 ∷ at 0 7 ∷ at 1 0 ∷ at 1 1 ∷ at 1 2 ∷ at 1 6 ∷ at 1 7 ∷ at 2 0 ∷ at 2 1 ∷ at 2 2 ∷ at 2 6 ∷ at 2 7 ∷ []

unfoldable pub place_of : ℕ → ItemPlace
place_of item = get_or places item (at 0 0)

-- "Items 1 to 12: V.34 duplex, .. V.21."; item 0 is none of the modes
abbrev pub is_mode : ℕ → Bool
is_mode item = both (leb 1 item) (leb item 12)

abbrev pub mode_place : ℕ → Option ItemPlace
mode_place item = when (is_mode item) (Some (place_of item)) None

-- a bit of an octet
abbrev pub bit_of : ℕ → ℕ → ℕ
bit_of bit b = b / 2 ^ bit % 2

-- the item stands in the group; an octet that is not there has none
unfoldable pub has_item : List ℕ → ℕ → Bool
has_item group item = eqb (bit_of (place_of item).bit.0 (get_or group (place_of item).octet 0)) 1

-- a set of items below n as a number, bit i for item i
unfoldable pub set_of : (ℕ → Bool) → ℕ → ℕ
set_of f zero = 0
set_of f (suc n) = set_of f n + when (f n) (2 ^ n) 0

-- the item is in the set
unfoldable pub in_set : ℕ → ℕ → Bool
in_set items i = eqb (bit_of i items) 1

-- items 0 to 12 of a modulation group
abbrev pub items_of : List ℕ → ℕ
items_of group = set_of (has_item group) 13

-- the bits of an octet of the group in which the items of a set stand, of items below n
unfoldable pub item_bits : ℕ → ℕ → ℕ → ℕ
item_bits items octet zero = 0
item_bits items octet (suc n) = item_bits items octet n + when (eqb (place_of n).octet octet) (bit_of n items * 2 ^ (place_of n).bit.0) 0

-- the table of tags: 5 is the modulation group's
abbrev pub modulation : ℕ
modulation = 5

-- "An extension octet has b4 = 1, b3 = 0, b5 = 0.": one that says no items
abbrev pub no_items : ℕ
no_items = 16

-- an octet of the modulation group: the category octet with its tag, then extension octets, with the bits of the items that stand there
unfoldable pub modulation_octet : ℕ → ℕ → ℕ
modulation_octet items octet = when (eqb octet 0) modulation no_items + item_bits items octet 13
