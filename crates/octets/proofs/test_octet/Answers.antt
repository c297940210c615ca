-- `octets::test_octet` meets its contract: a bad octet is refused, a category octet is tested by its tag, and any other is accepted.
-- Assumes nothing.
use Rattle.laws.specs.Logic.{when}
use Rattle.octets.proofs.test_octet.Goals as goal

pub returns-then-is_bad : goal.returns-then-is_bad
unfolding when
returns-then-is_bad c = simp (c.if-is_bad.true, ← c.is_bad.ensures)

pub returns-then-is_category : goal.returns-then-is_category
unfolding when
returns-then-is_category c = simp (c.test_category.ensures, c.tag_of.ensures, c.if-is_category.true, ← c.is_category.ensures, c.if-is_bad.false, ← c.is_bad.ensures)

pub returns : goal.returns
unfolding when
returns c = simp (c.if-is_category.false, ← c.is_category.ensures, c.if-is_bad.false, ← c.is_bad.ensures)
