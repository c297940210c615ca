-- `codes::carried` meets its contract: the tests come in the order of `carried_of`, and a test of the number as C passes it is one of the
-- number itself (`test_of`).
-- Assumes nothing.
use mathlib.Core.Path.{sym, ap, ◌∙◌}
use lib.IntN.{pos}
use mir.Syntax.{w32}
use mir.Val.{to_z, of_z}
use borrow.Author.Rules.{rules}
use Rattle.codes.proofs.Codes.{read_answer}
use Rattle.codes.proofs.Steps.{test_of, carried_refused, carried_below, carried_in, carried_fits, carried_above}
use Rattle.codes.proofs.carried.Goals as goal

pub returns-then-value-eqminus11 : goal.returns-then-value-eqminus11
returns-then-value-eqminus11 c =
    let value = c.args.value in
    carried_refused value (sym (read_answer value (search rules)) ∙ ap (to_z w32) c.if-value-eqminus11.true)

pub returns-then-value-lt0 : goal.returns-then-value-lt0
returns-then-value-lt0 c =
    let value = c.args.value in
    carried_below value (test_of value (pos 0) _ (search rules) c.if-value-lt0.true) (λ is-11. c.if-value-eqminus11.false (ap (of_z w32) is-11))

pub overflow_cast-result : goal.overflow_cast-result
overflow_cast-result c =
    let value = c.args.value in
    rw (read_answer value (search rules)) (carried_fits value (test_of value (pos 0) _ (search rules) c.if-value-lt0.false) (test_of value (pos 24) _ (search rules) c.if-value-lt-PAST_CHOICES.true))

pub returns-then-value-lt-PAST_CHOICES : goal.returns-then-value-lt-PAST_CHOICES
returns-then-value-lt-PAST_CHOICES c =
    let value = c.args.value in
    rw (read_answer value (search rules)) (carried_in value (test_of value (pos 0) _ (search rules) c.if-value-lt0.false) (test_of value (pos 24) _ (search rules) c.if-value-lt-PAST_CHOICES.true))

pub returns : goal.returns
returns c =
    let value = c.args.value in
    carried_above value (test_of value (pos 24) _ (search rules) c.if-value-lt-PAST_CHOICES.false)
