-- What the private functions of this crate promise each other. No public promise names it.
use Rattle.std.specs.Prelude.{ℕ, ◌≡◌, Option, None, Some, List, [], ◌∷◌, ◌++◌, length}
use Rattle.laws.specs.Front.{front}
use Rattle.refusals.specs.Refusals.{before}
use Rattle.refusals.specs.Lent.{WriteOutcome, room_fault, put}
use Rattle.menus.specs.declared.Offer.{Offer}
use Rattle.fields.specs.Blocks.{blocks_fault}
use Rattle.fields.specs.Field.{field_of}
use Rattle.offers.specs.Making.{menu_of, size_fault}

-- octets stand at the front of what was lent, and the answer is how many they are
pub record Writes (octets out : List ℕ) (r : ℕ) (after : List ℕ) : Type 0 where
  pub count : r ≡ length octets
  pub buffer : after ≡ front octets out

-- a group of one octet, if it is there
abbrev pub lone_octet : Option ℕ → List ℕ
lone_octet None = []
lone_octet (Some octet) = octet ∷ []

-- a menu with a field behind it, where it is not refused
abbrev pub put_menu : ℕ → Offer → List ℕ → List ℕ → WriteOutcome
put_menu count offer blocks out =
    let menu = menu_of count offer ++ field_of blocks in
    put (before (size_fault menu) (before (blocks_fault blocks) (room_fault menu out))) menu out
