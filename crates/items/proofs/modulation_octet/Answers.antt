-- `items::modulation_octet` meets its contract: the number of the octet decides, and each of the three is put together from its items' bits.
-- Assumes nothing.
use Rattle.std.proofs.Common.{arith, sym}
use Rattle.items.proofs.Places.{octet_0, octet_1, octet_2, octet_past}
use Rattle.items.proofs.modulation_octet.Goals as goal

pub returns-in-0 : goal.returns-in-0
returns-in-0 c = simp (c.in-0.is, octet_0)

pub returns-in-1 : goal.returns-in-1
returns-in-1 c = simp (c.extension_octet.ensures, c.in-1.is, octet_1)

pub returns-in-2 : goal.returns-in-2
returns-in-2 c = simp (c.extension_octet-in-2.ensures, c.in-2.is, octet_2)

pub returns-in_default : goal.returns-in_default
returns-in_default c = sym (octet_past c.args.items c.args.octet (omega (arith, c.in_default)))
