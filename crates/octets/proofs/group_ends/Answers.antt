-- `octets::group_ends` meets its contract: past the end nothing stands, and before it the octet there decides.
-- Assumes nothing.
use borrow.Author.Tests.{lt-ltb, le-ltb, le-leb}
use Rattle.laws.specs.Logic.{when}
use Rattle.octets.proofs.group_ends.Goals as goal

pub returns-then-octets-i : goal.returns-then-octets-i
unfolding when
returns-then-octets-i c = simp (le-leb _ _ c.if-octets-i.true, le-ltb _ _ c.if-octets-i.true)

pub returns-else-octets-i : goal.returns-else-octets-i
unfolding when
returns-else-octets-i c = simp (c.is_category.ensures, lt-ltb _ _ c.if-octets-i.false)
