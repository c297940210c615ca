-- `plans::number` meets its contract: each digit leaves one less to read, and one that is none ends it.
-- Assumes nothing.
use Rattle.std.proofs.Common.{ℕ, ◌+◌, Option, Some, drop, sym, ap, ◌∙◌}
use Rattle.plans.specs.Text.{number_on}
use Rattle.plans.proofs.Walk.{none_on, number_on_lem, number_past}
use Rattle.plans.proofs.number.Goals as goal

pub returns-in_err-n : goal.returns-in_err-n
returns-in_err-n c =
    let word = c.args.word.now in
    let i = c.loop-b.b-index in
    let none = ap (λ (m : Option ℕ). number_on m (drop (i + 1) word)) (sym c.with_digit.ensures ∙ c.in_err-n.was) ∙ none_on (drop (i + 1) word) in
    c.from_residual.ensures ∙ sym (sym c.loop-b.invariant ∙ number_on_lem word i c.loop-b-test.true c.loop-b.n ∙ none)

pub loop-b-preserved : goal.loop-b-preserved
loop-b-preserved c =
    let word = c.args.word.now in
    let i = c.loop-b.b-index in
    ap (λ (m : Option ℕ). number_on m (drop (i + 1) word)) (sym c.in_ok-n.was ∙ c.with_digit.ensures)
    ∙ sym (number_on_lem word i c.loop-b-test.true c.loop-b.n) ∙ c.loop-b.invariant

pub returns : goal.returns
returns c = sym (number_past c.args.word.now c.loop-b.b-index c.loop-b-test.false (Some c.loop-b.n)) ∙ c.loop-b.invariant
