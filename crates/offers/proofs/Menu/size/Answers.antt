-- `offers::Menu::size` meets its contract: the call function has one octet, the modulation group as many as are asked, and each other group one
-- where it is there.
-- Assumes nothing.
use native.Mathlib.Omega.{arith}
use Rattle.offers.proofs.Making.{bit_from, menu_length}
use Rattle.offers.proofs.Menu.size.Goals as goal

pub returns : goal.returns
returns c =
    let menu = c.args.self.now in
    omega (arith, c.from.ensures, c.from-2.ensures, c.from-3.ensures, c.from-4.ensures, bit_from, menu_length menu.count menu.offer)
