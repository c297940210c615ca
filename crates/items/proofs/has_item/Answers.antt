-- `items::has_item` meets its contract: the octet of the item's place is in the group and its bit decides, or no octet stands there and the item is
-- absent.
-- Assumes nothing.
use borrow.Author.Tests.{le-ltb}
use mathlib.Core.Path.{sym, ◌∙◌}
use Rattle.items.specs.Items.{has_item}
use Rattle.items.proofs.Places.{item_past}
use Rattle.items.proofs.has_item.Goals as goal

pub returns-then-at-group : goal.returns-then-at-group
unfolding has_item
returns-then-at-group c = simp (c.has_bit.ensures, c.place_of-place.ensures)

pub returns-else-at-group : goal.returns-else-at-group
returns-else-at-group c =
    le-ltb _ _ c.if-at-group.false ∙ sym (item_past c.args.group.now c.args.item.0 c.requires (rw (← c.place_of-place.ensures) c.if-at-group.false))
