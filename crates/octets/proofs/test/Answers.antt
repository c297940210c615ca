-- `octets::test` meets its contract: the number of octets decides, then the first octet, then those behind it.
-- Assumes nothing.
use borrow.Author.Tests.{lt-ltb, le-ltb}
use mathlib.Core.Path.{◌≡◌, ap, ◌∙◌}
use lib.ListN.{drop}
use Rattle.laws.specs.Logic.{when}
use Rattle.laws.proofs.Rest.{rest_of}
use Rattle.refusals.specs.Refusals.{fault}
use Rattle.octets.specs.Lists.{first_fault}
use Rattle.octets.proofs.test.Goals as goal

pub returns-then-octets-gt-MOST_OCTETS : goal.returns-then-octets-gt-MOST_OCTETS
unfolding when
returns-then-octets-gt-MOST_OCTETS c = simp (lt-ltb _ _ c.if-octets-gt-MOST_OCTETS.true)

pub returns-then-test_first : goal.returns-then-test_first
unfolding when
returns-then-test_first c =
    let rest : fault c.test_rest.result ≡ first_fault c.args.purpose (drop 1 c.args.octets.now) = c.test_rest.ensures ∙ ap (first_fault c.args.purpose) (rest_of c.args.octets.now 1) in
    simp (rest, c.if-test_first.true, ← c.test_first.ensures, le-ltb _ _ c.if-octets-gt-MOST_OCTETS.false)

pub returns : goal.returns
unfolding when
returns c = simp (c.if-test_first.false, ← c.test_first.ensures, le-ltb _ _ c.if-octets-gt-MOST_OCTETS.false)
