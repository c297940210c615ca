-- `steps::find_in` meets its contract. Invariant: no row up to this one applies, so what is found from it on is what is found.
-- Assumes nothing.
use Rattle.std.proofs.Common.{sym, refl, ◌∙◌, drop_of_length-le}
use Rattle.steps.specs.Inner.{find_held}
use Rattle.steps.proofs.Known.{one_of_nine}
use Rattle.steps.proofs.Rows.{found_at, found_behind}
use Rattle.steps.proofs.find_in.Goals as goal

pub bounds-holding-number : goal.bounds-holding-number
bounds-holding-number c = rw c.number.ensures (one_of_nine _)

pub returns-then-row_applies : goal.returns-then-row_applies
returns-then-row_applies c =
    let a = c.args in
    sym (c.loop-row.invariant ∙ found_at a.state a.event a.passed a.holding a.part.now c.loop-row.row-index _ c.loop-row-test.true _ (rw c.number.ensures at c.row_applies.ensures) c.if-row_applies.true)

pub loop-row-preserved : goal.loop-row-preserved
loop-row-preserved c =
    let a = c.args in
    c.loop-row.invariant ∙ found_behind a.state a.event a.passed a.holding a.part.now c.loop-row.row-index _ c.loop-row-test.true _ (rw c.number.ensures at c.row_applies.ensures) c.if-row_applies.false

pub returns : goal.returns
unfolding find_held
returns c = sym (c.loop-row.invariant ∙ rw (drop_of_length-le c.args.part.now c.loop-row-test.false) refl)
