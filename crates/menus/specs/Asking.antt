-- Document 02, Req 06: one mode, asked for without the whole menu read.
use Rattle.std.specs.Prelude.{ℕ, zero, suc, Bool, List, [], ◌∷◌, ltb, length, take, Result, Ok, Err}
use Rattle.laws.specs.Logic.{when}
use Rattle.refusals.specs.Refusals.{number}
use Rattle.octets.specs.Octets.{category}
use Rattle.octets.specs.Lists.{most_octets}
use Rattle.items.specs.Items.{place_of, is_mode, in_set, modulation}
use Rattle.refusals.specs.declared.Refusal.{Refusal}
use Rattle.menus.specs.declared.Asked as declared
use Rattle.menus.specs.Groups.{opens_group}
use Rattle.menus.specs.Offer.{Read, offers, menu_read}
use Rattle.menus.specs.Offer as reading

-- what asking gives: whether the item is offered, with "The number of octets looked at", or a refusal's number
pub data Asked : Type 0 where
  answer : Bool → ℕ → Asked
  refusal : ℕ → Asked

-- what an answer says on paper
abbrev pub says_asked : Result declared.Asked Refusal → Asked
says_asked (Ok a) = answer a.offered a.looked
says_asked (Err r) = refusal (number r)

-- behind the group's category octet, with so many octets to the one that holds the item: up to that one, "or at the next category octet if the
-- group is short"
unfoldable pub looks_in : ℕ → List ℕ → ℕ
looks_in zero octets = 0
looks_in (suc ahead) [] = 0
looks_in (suc ahead) (b ∷ bs) = suc (when (category b) 0 (looks_in ahead bs))

-- "stop at the octet that decides, in the first modulation group": how many octets are looked at, all "where nothing decides"
unfoldable pub looks : ℕ → List ℕ → ℕ
looks ahead [] = 0
looks ahead (b ∷ bs) = suc (when (opens_group modulation b) (looks_in ahead bs) (looks ahead bs))

-- the octets looked at, and no others, are read as a menu is: it has the item or not, or it is refused
abbrev pub item_in : ℕ → ℕ → Read → Asked
item_in item looked (offers o) = answer (in_set o.items item) looked
item_in item looked (reading.refusal n) = refusal n

abbrev pub asked_first : List ℕ → ℕ → ℕ → Asked
asked_first octets item looked = item_in item looked (menu_read (take looked octets))

-- "4 and 5 as before; a bad octet past the deciding one isn't seen here, one before it or in its place is 3; item not 1 to 12 is 9, first of all"
unfoldable pub asked : List ℕ → ℕ → Asked
asked octets item =
    when (is_mode item) (when (ltb most_octets (length octets)) (refusal 4) (asked_first octets item (looks (place_of item).octet octets)))
    (refusal 9)
