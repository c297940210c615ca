-- `plans::read` meets its contract. Invariant: what is left of the text, read on from here, is what the whole text is.
-- Assumes nothing.
use Rattle.std.proofs.Common.{◌≡◌, length, sym, ap, ◌∙◌, rules}
use Rattle.plans.specs.declared.Spot.{Spot}
use Rattle.plans.specs.Reading.{finished, read_from}
use Rattle.plans.proofs.Walk.{read_on, read_stop, read_end}
use Rattle.plans.proofs.read.Goals as goal

pub loop-i-init : goal.loop-i-init
loop-i-init c = ap (λ (spot : Spot). read_from spot.r spot.scan 0 c.args.text.now) c.begin-spot.ensures

pub returns-in-Some : goal.returns-in-Some
returns-in-Some c =
    let spot = c.loop-i.spot in
    sym (read_stop c.args.text.now c.loop-i.i c.loop-i-test.true spot.r spot.scan c.step.new.spot.r c.step.ensures.r c.in-Some.what c.in-Some.is) ∙ c.loop-i.invariant

pub loop-i-preserved : goal.loop-i-preserved
loop-i-preserved c =
    let spot = c.loop-i.spot in
    let next = c.step in
    read_on c.args.text.now c.loop-i.i c.loop-i-test.true spot.r spot.scan next.new.spot.r next.ensures.r next.new.spot.scan next.ensures.scan c.in_default.is ∙ c.loop-i.invariant

pub returns : goal.returns
returns c =
    let spot = c.loop-i.spot in
    let text = c.args.text.now in
    let all : length text ≡ c.loop-i.i = search rules in
    c.finish.ensures ∙ ap (finished spot.r) all ∙ sym (read_end text c.loop-i.i c.loop-i-test.false spot.r spot.scan) ∙ c.loop-i.invariant
