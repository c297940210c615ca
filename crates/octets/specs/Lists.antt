-- Document 01: which octet lists are accepted, and where a group ends.
use Rattle.std.specs.Prelude.{ℕ, suc, Bool, true, false, not, List, [], ◌∷◌, length, drop, get_or, ltb, eqb}
use Rattle.laws.specs.Logic.{when, both, either}
use Rattle.refusals.specs.Refusals.{before}
use Rattle.octets.specs.declared.Kind.{Kind}
use Rattle.octets.specs.declared.Kind.TheVariants.{Ci, Menu}
use Rattle.octets.specs.declared.Purpose.{Purpose}
use Rattle.octets.specs.declared.Purpose.TheVariants.{Reading, Writing}
use Rattle.octets.specs.Octets.{category, tag, call_function_tag, extension, bad}

-- 'Bits on the line': a later category octet. In a menu "category octets with a tag other than 0", in CI none; 12 is "in writing only"
abbrev pub category_fault : Purpose → ℕ → ℕ
category_fault Reading t = 0
category_fault (Writing Menu) t = when (eqb t 0) 12 0
category_fault (Writing Ci) t = 12

-- one octet behind the first: the number of its refusal, or 0
abbrev pub octet_fault : Purpose → ℕ → ℕ
octet_fault p b = when (bad b) 3 (when (category b) (category_fault p (tag b)) 0)

-- "at the first bad octet 3 or 12"
unfoldable pub first_fault : Purpose → List ℕ → ℕ
first_fault p [] = 0
first_fault p (b ∷ bs) = before (octet_fault p b) (first_fault p bs)

-- "whose others are extension octets or category octets with a tag other than 0. For CI only the first octet and extension octets are accepted."
abbrev pub accepts : Kind → ℕ → Bool
accepts Menu b = either (extension b) (both (category b) (not (eqb (tag b) 0)))
accepts Ci b = extension b

-- refusal 5, "first octet not tag 1 with b4 = 0, no octets"
abbrev pub opens : List ℕ → Bool
opens [] = false
opens (b ∷ bs) = both (category b) (eqb (tag b) call_function_tag)

-- "n from 1 to 64 (64 is house)"
abbrev pub most_octets : ℕ
most_octets = 64

-- "reading or writing octets 4, 5, then at the first bad octet 3 or 12": the number of the refusal, or 0
abbrev pub list_fault : Purpose → List ℕ → ℕ
list_fault p octets = when (ltb most_octets (length octets)) 4 (when (opens octets) (first_fault p (drop 1 octets)) 5)

-- reading the octets gives no refusal
abbrev pub readable : List ℕ → Bool
readable octets = eqb (list_fault Reading octets) 0

-- 'Octets of the menu': the octets "up to the next octet with b4 = 0"
unfoldable pub until_category : List ℕ → ℕ
until_category [] = 0
until_category (b ∷ bs) = when (category b) 0 (suc (until_category bs))

-- at this place stands no octet, or one with b4 = 0
abbrev pub group_ends : List ℕ → ℕ → Bool
group_ends octets i = when (ltb i (length octets)) (category (get_or octets i 0)) true
