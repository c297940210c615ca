-- `octets::test_rest` meets its contract.
-- Assumes nothing.
use borrow.Author.Rules.{rules}
use mathlib.Core.Path.{◌≡◌, sym, ap, ◌∙◌}
use lib.ListN.{get_or}
use Rattle.std.proofs.lemmas.Result.{err_from_is_err_and}
use Rattle.octets.specs.Lists.{octet_fault}
use Rattle.refusals.specs.Refusals.{fault}
use Rattle.refusals.proofs.Numbers.{number_some}
use Rattle.octets.proofs.Lists.{fault_here, fault_on, fault_end}
use Rattle.octets.proofs.test_rest.Goals as goal

pub returns-in_err-test_octet : goal.returns-in_err-test_octet
returns-in_err-test_octet c =
    let args = c.args in
    let at = c.in_err-test_octet.ensures in
    let p = err_from_is_err_and c.from_residual.result c.from_residual.ensures.1 in
    let refused : octet_fault args.purpose (get_or args.octets.now c.loop-b.b-index 0) ≡ 0 → ⊥ = λ e. number_some c.in_err-test_octet.field-0.0 (at ∙ e) in
    rw (p.1, p.2) (at ∙ sym (c.loop-b.invariant ∙ fault_here args.purpose args.octets.now c.loop-b.b-index (search rules) refused))

pub loop-b-preserved : goal.loop-b-preserved
loop-b-preserved c =
    let args = c.args in
    c.loop-b.invariant ∙ fault_on args.purpose args.octets.now c.loop-b.b-index (search rules) (sym (c.in_ok-test_octet.ensures))

pub returns : goal.returns
returns c =
    let args = c.args in
    sym (c.loop-b.invariant ∙ fault_end args.purpose args.octets.now c.loop-b.b-index (search rules))
