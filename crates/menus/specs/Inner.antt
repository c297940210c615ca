-- What the private functions of this crate promise each other. No public promise names it.
use Rattle.std.specs.Prelude.{ℕ, zero, suc, ◌+◌, false, List, [], ◌∷◌, ltb, eqb, length, drop}
use Rattle.laws.specs.Logic.{when}
use Rattle.octets.specs.Octets.{category, tag, bad}
use Rattle.octets.specs.Lists.{opens, most_octets}
use Rattle.items.specs.declared.ItemPlace.{ItemPlace}
use Rattle.items.specs.Items.{bit_of, modulation}
use Rattle.menus.specs.Asking.{Asked, answer, refusal}

-- what is asked within the modulation group: b is the octet looked at last, so many before the one that holds the item
unfoldable pub decided : ℕ → ℕ → ℕ → ℕ → List ℕ → Asked
decided bit zero looked b bs = answer (eqb (bit_of bit b) 1) looked
decided bit (suc ahead) looked b [] = answer false looked
decided bit (suc ahead) looked b (next ∷ bs) =
    when (category next) (answer false (looked + 1)) (when (bad next) (refusal 3) (decided bit ahead (looked + 1) next bs))

-- and before it
unfoldable pub walked : ItemPlace → ℕ → List ℕ → Asked
walked at looked [] = answer false looked
walked at looked (b ∷ bs) =
    when (category b) (when (eqb (tag b) modulation) (decided at.bit.0 at.octet (looked + 1) b bs) (walked at (looked + 1) bs))
    (when (bad b) (refusal 3) (walked at (looked + 1) bs))

-- of a mode's place, behind the tests of the list
abbrev pub asked_at : ItemPlace → List ℕ → Asked
asked_at at octets = when (ltb most_octets (length octets)) (refusal 4) (when (opens octets) (walked at 1 (drop 1 octets)) (refusal 5))
