-- What the private functions of this crate promise each other. No public promise names it.
use Rattle.std.specs.Prelude.{ℕ, zero, suc, Option, None, Some}
use Rattle.items.specs.declared.Item.{Item}

-- the item of a number from 1 on; 0 is none
abbrev pub item_of : ℕ → Option Item
item_of zero = None
item_of (suc n) = Some (record { 0 = suc n })
