-- `menus::find` meets its contract: the test decides, and where it accepts the first group of the tag does.
-- Assumes nothing.
use Rattle.std.proofs.Common.{sym, ◌∙◌}
use Rattle.std.proofs.lemmas.Result.{err_from_is_err_and}
use Rattle.menus.proofs.Looking.{looked_refused, looked_read}
use Rattle.menus.proofs.find.Goals as goal

pub returns-in_err-test : goal.returns-in_err-test
returns-in_err-test c =
    let p = err_from_is_err_and c.from_residual.result c.from_residual.ensures.1 in
    rw (p.1, p.2) (looked_refused c.args.octets.now c.args.tag c.in_err-test.field-0.0 c.in_err-test.ensures)

pub returns : goal.returns
returns c =
    let args = c.args in
    c.first_group.ensures ∙ sym (looked_read args.octets.now args.tag (sym c.in_ok-test.ensures))
