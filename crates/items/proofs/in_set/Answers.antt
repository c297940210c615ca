-- `items::in_set` meets its contract: the bit of the item decides, and a set of 16 bits has none above 15.
-- Assumes nothing.
use borrow.Author.Rules.{rules}
use borrow.Author.Tests.{le-ltb}
use mathlib.Core.Path.{refl, sym, ◌∙◌}
use Rattle.items.specs.Items.{in_set}
use Rattle.items.proofs.Sets.{past_set}
use Rattle.items.proofs.in_set.Goals as goal

pub returns-then-item-lt16 : goal.returns-then-item-lt16
unfolding in_set
returns-then-item-lt16 c = refl

pub returns-else-item-lt16 : goal.returns-else-item-lt16
returns-else-item-lt16 c = le-ltb _ _ c.if-item-lt16.false ∙ sym (past_set 16 c.args.items c.args.item.0 (search rules) c.if-item-lt16.false)
