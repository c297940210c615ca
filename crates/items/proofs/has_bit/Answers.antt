-- `items::has_bit` meets its contract: the bit decides, and an octet has none above b7.
-- Assumes nothing.
use borrow.Author.Rules.{rules}
use borrow.Author.Tests.{le-ltb}
use mathlib.Core.Path.{sym, ◌∙◌}
use Rattle.items.specs.Items.{in_set}
use Rattle.items.proofs.Sets.{past_set}
use Rattle.items.proofs.has_bit.Goals as goal

pub returns-else-bit-lt8 : goal.returns-else-bit-lt8
unfolding in_set
returns-else-bit-lt8 c = le-ltb _ _ c.if-bit-lt8.false ∙ sym (past_set 8 c.args.b c.args.bit.0 (search rules) c.if-bit-lt8.false)
