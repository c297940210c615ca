-- `offers::modulation_count` meets its contract: no group of a message that can be read has more octets than a byte counts.
-- Assumes nothing.
use borrow.Author.Tests.{eqb-true}
use native.Mathlib.Omega.{arith}
use Rattle.octets.specs.declared.Purpose.TheVariants.{Reading}
use Rattle.octets.proofs.Lists.{accepted_short}
use Rattle.items.specs.Items.{modulation}
use Rattle.menus.proofs.Joined.{group_short}
use Rattle.offers.proofs.modulation_count.Goals as goal

pub overflow_cast-result : goal.overflow_cast-result
overflow_cast-result c =
    let heard = c.args.heard_cm.now in
    omega (arith, c.group_size.ensures, group_short heard modulation, accepted_short Reading heard (eqb-true _ 0 c.requires))
