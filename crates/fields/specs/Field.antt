-- Document 02, Req 02: the field of a menu, read and written.
use Rattle.std.specs.Prelude.{ℕ, Bool, List, [], ◌∷◌, eqb, length, drop}
use Rattle.laws.specs.Logic.{when, both}
use Rattle.refusals.specs.Refusals.{before}
use Rattle.refusals.specs.Lent.{WriteOutcome, room_fault, put}
use Rattle.octets.specs.declared.Purpose.TheVariants.{Reading}
use Rattle.octets.specs.Octets.{category_octet}
use Rattle.octets.specs.Lists.{list_fault}
use Rattle.menus.specs.Groups.{group_of, options_in}
use Rattle.fields.specs.Packing.{fills_octets, unpacked, packed}
use Rattle.fields.specs.Blocks.{blocks_fault}

-- "tag 15"
abbrev pub field_tag : ℕ
field_tag = 15

-- the first group of the tag in a heard menu, empty where there is none, and its octets: "Where no tag 15 group stands, no blocks are read."
abbrev pub field_octets : List ℕ → List ℕ
field_octets group = unpacked (drop 1 group)

-- "at most four bits may be left over, and they are 0; the category octet's options are 0"
abbrev pub is_packed : List ℕ → Bool
is_packed group = both (eqb (options_in group) 0) (fills_octets (drop 1 group))

-- "15 more than four bits left over, or leftover bits or options not 0", or 0
abbrev pub packing_fault : List ℕ → ℕ
packing_fault group = when (is_packed group) 0 15

-- "order in reading 4, 5, 3, 15, 14, 6"
abbrev pub field_read : List ℕ → List ℕ → WriteOutcome
field_read heard out =
    let group = group_of heard field_tag in
    let octets = field_octets group in
    put (before (list_fault Reading heard) (before (packing_fault group) (before (blocks_fault octets) (room_fault octets out)))) octets out

-- the field that says these octets: "the category octet's options are 0", then the extension octets. "With no blocks CM has no field."
unfoldable pub field_of : List ℕ → List ℕ
field_of octets = when (eqb (length octets) 0) [] (category_octet field_tag 0 ∷ packed octets)
