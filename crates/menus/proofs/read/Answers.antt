-- `menus::read` meets its contract: the test decides, and what is read is what the octets offer.
-- Assumes nothing.
use Rattle.std.proofs.Common.{sym, ap, ◌∙◌}
use Rattle.std.proofs.lemmas.Result.{err_from_is_err_and}
use Rattle.menus.specs.Offer.{offers}
use Rattle.menus.proofs.Reading.{menu_refused, menu_read_lem}
use Rattle.menus.proofs.read.Goals as goal

pub returns-in_err-test : goal.returns-in_err-test
returns-in_err-test c =
    let p = err_from_is_err_and c.from_residual.result c.from_residual.ensures.1 in
    rw (p.1, p.2) (menu_refused c.args.octets.now c.in_err-test.field-0.0 c.in_err-test.ensures)

pub returns : goal.returns
returns c = ap offers c.read_offer.ensures ∙ sym (menu_read_lem c.args.octets.now (sym c.in_ok-test.ensures))
