-- `octets::test_first` meets its contract: where an octet stands in front its kind and then its tag decide, and no octets open nothing.
-- Assumes nothing.
use borrow.Author.Tests.{le-ltb}
use native.Mathlib.Omega.{arith}
use Rattle.laws.specs.Logic.{both}
use Rattle.octets.proofs.Lists.{opens_none, opens_some}
use Rattle.octets.proofs.test_first.Goals as goal

pub returns-then-is_category : goal.returns-then-is_category
unfolding both
returns-then-is_category c =
    simp (opens_some c.args.octets.now c.if-octets-gt0.true, c.tag_of.ensures, ← c.is_category.ensures, c.if-is_category.true)

pub returns-else-is_category : goal.returns-else-is_category
unfolding both
returns-else-is_category c =
    simp (opens_some c.args.octets.now c.if-octets-gt0.true, ← c.is_category.ensures, c.if-is_category.false)

pub returns-else-octets-gt0 : goal.returns-else-octets-gt0
returns-else-octets-gt0 c = simp (le-ltb _ _ c.if-octets-gt0.false, opens_none c.args.octets.now (omega arith))
