-- `plans::mark` meets its contract. Invariant: what is left of the text, marked on from here, leaves what the whole text does.
-- Assumes nothing.
use Rattle.std.proofs.Common.{sym, ap, ◌∙◌}
use Rattle.laws.specs.Logic.{when}
use Rattle.plans.specs.declared.Spot.{Spot}
use Rattle.plans.specs.Reading.{marked_from, marked}
use Rattle.plans.proofs.Walk.{marked_on, marked_end}
use Rattle.plans.proofs.mark.Goals as goal

pub returns-then-is_err : goal.returns-then-is_err
unfolding when marked
returns-then-is_err c = simp (← c.read-plan.ensures, c.is_err.ensures.negation, c.if-is_err.true)

pub loop-i-init : goal.loop-i-init
loop-i-init c = ap (λ (spot : Spot). marked_from spot.r spot.scan c.args.text.now c.args.damaged.now) c.begin-spot.ensures

pub loop-i-preserved : goal.loop-i-preserved
loop-i-preserved c =
    let spot = c.loop-i.spot in
    let next = c.step in
    marked_on c.args.text.now c.loop-i.i c.loop-i-test.true spot.r spot.scan next.new.spot.r next.ensures.r next.new.spot.scan c.loop-i.damaged c.mark_bit.new.damaged next.ensures.scan c.mark_bit.ensures
    ∙ c.loop-i.invariant

pub returns : goal.returns
unfolding when marked
returns c =
    let spot = c.loop-i.spot in
    sym (marked_end c.args.text.now c.loop-i.i c.loop-i-test.false spot.r spot.scan c.loop-i.damaged) ∙ c.loop-i.invariant ∙ simp (← c.read-plan.ensures, c.is_err.ensures.negation, c.if-is_err.false)
