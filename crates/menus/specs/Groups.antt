-- Document 01, 'Octets of the menu': groups, looking for a tag, the part of a place.
use Rattle.std.specs.Prelude.{ℕ, ◌+◌, Bool, List, [], ◌∷◌, ltb, eqb, length, take, drop, get_or, Option, Some, None, Result, Ok, Err}
use Rattle.laws.specs.Logic.{when, both}
use Rattle.octets.specs.declared.Purpose.TheVariants.{Reading}
use Rattle.refusals.specs.Refusals.{number}
use Rattle.octets.specs.Octets.{category, tag, options}
use Rattle.octets.specs.Lists.{list_fault, until_category}
use Rattle.refusals.specs.declared.Refusal.{Refusal}

-- what looking gives: a place, nothing, or a refusal's number
pub data Looked : Type 0 where
  place : ℕ → Looked
  nowhere : Looked
  refusal : ℕ → Looked

-- what an answer says on paper
abbrev pub says_found : Result (Option ℕ) Refusal → Looked
says_found (Ok (Some n)) = place n
says_found (Ok None) = nowhere
says_found (Err r) = refusal (number r)

-- a category octet with this tag
abbrev pub opens_group : ℕ → ℕ → Bool
opens_group t b = both (category b) (eqb (tag b) t)

-- "the place of its first group, or the answer that there is none", counted from i
unfoldable pub first_group : ℕ → ℕ → List ℕ → Looked
first_group t i [] = nowhere
first_group t i (b ∷ bs) = when (opens_group t b) (place i) (first_group t (i + 1) bs)

-- "Looking refuses with 4, 5 and 3 as reading does; a tag over 15 is nowhere."
unfoldable pub looked : List ℕ → ℕ → Looked
looked octets t = when (eqb (list_fault Reading octets) 0) (first_group t 0 octets) (refusal (list_fault Reading octets))

-- the category octet in front, and what follows "up to the next octet with b4 = 0"
unfoldable pub front_part : List ℕ → List ℕ
front_part [] = []
front_part (b ∷ bs) = when (category b) (b ∷ take (until_category bs) bs) []

-- "that stretch of the lent message itself ..; a place that holds no category octet gives the empty part"
abbrev pub part_at : List ℕ → ℕ → List ℕ
part_at octets i = front_part (drop i octets)

-- where a part stands in memory: in the block of the lent message, so many octets behind its first
abbrev pub onward : ℕ × ℕ → ℕ → ℕ × ℕ
onward start octets = (start.0, start.1 + octets)

-- "that stretch of the lent message itself": a part stands at its place, and the empty part at the message's front
abbrev pub part_start : List ℕ → ℕ → ℕ
part_start octets i = when (ltb 0 (length (part_at octets i))) i 0

-- "The first group of a tag counts"; a missing group is the empty part
abbrev pub part_of : List ℕ → Looked → List ℕ
part_of octets (place i) = part_at octets i
part_of octets nowhere = []
part_of octets (refusal n) = []

unfoldable pub group_of : List ℕ → ℕ → List ℕ
group_of octets t = part_of octets (first_group t 0 octets)

-- the options of its category octet, 0 where it is missing
abbrev pub options_in : List ℕ → ℕ
options_in group = options (get_or group 0 0)
