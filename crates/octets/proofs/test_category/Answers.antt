-- `octets::test_category` meets its contract: the purpose decides, then the kind of message, and in a menu the tag.
-- Assumes nothing.
use borrow.Author.Tests.{eq-eqb, ne_eqb}
use Rattle.laws.specs.Logic.{when}
use Rattle.octets.proofs.test_category.Goals as goal

pub returns-then-t-eq0 : goal.returns-then-t-eq0
unfolding when
returns-then-t-eq0 c = simp (eq-eqb _ _ c.if-t-eq0.true, c.in-Menu.is, c.in-Writing.is)

pub returns-else-t-eq0 : goal.returns-else-t-eq0
unfolding when
returns-else-t-eq0 c = simp (ne_eqb _ _ c.if-t-eq0.false, c.in-Menu.is, c.in-Writing.is)
