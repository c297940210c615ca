-- `leaps::advance` meets its contract. Invariant: hearing the bits from `from` on comes to what hearing those from i on with the ear as it stands does;
-- a leap is as if each of its bits were heard, and the one behind it is handed to the framing.
-- Assumes nothing.
use Rattle.std.proofs.Common.{◌≡◌, drop, sym, ap, ◌∙◌}
use Rattle.framing.specs.Framing.{turned_by}
use Rattle.leaps.specs.Leaps.{advanced}
use Rattle.leaps.specs.Inner.{resumed}
use Rattle.leaps.proofs.Steps.{advanced_end, advanced_on, advanced_asked, resumed_on, resumed_end, resumed_asked}
use Rattle.leaps.proofs.advance.Goals.{After-leap-l}
use Rattle.leaps.proofs.advance.Goals as goal

-- a leap is as if each of its bits were heard
leapt : (after-leap : After-leap-l) → advanced after-leap.args.ear after-leap.args.len (drop after-leap.args.from after-leap.args.bits.now) after-leap.args.from ≡ resumed after-leap.leap-l.result after-leap.args.len after-leap.args.bits.now
leapt after-leap = after-leap.loop-i.invariant ∙ after-leap.leap-l.ensures.same

-- and where it asks for nothing, the bits behind it are heard
behind : (after-leap : After-leap-l) → after-leap.leap-l.result.act ≡ 0 → advanced after-leap.args.ear after-leap.args.len (drop after-leap.args.from after-leap.args.bits.now) after-leap.args.from ≡ advanced after-leap.leap-l.result.ear after-leap.args.len (drop after-leap.leap-l.result.at after-leap.args.bits.now) after-leap.leap-l.result.at
behind after-leap none =
    let given = after-leap.args in
    leapt after-leap ∙ resumed_on after-leap.leap-l.result given.len given.bits.now none

pub returns-then-l-ne-NOTHING : goal.returns-then-l-ne-NOTHING
returns-then-l-ne-NOTHING c =
    let given = c.args in
    sym (leapt (goal.at.returns-then-l-ne-NOTHING c).After-leap-l ∙ resumed_asked c.leap-l.result given.len given.bits.now c.if-l-ne-NOTHING.true)

pub returns-in_default : goal.returns-in_default
returns-in_default c =
    let given = c.args in
    sym (leapt (goal.at.returns-in_default c).After-leap-l ∙ resumed_end c.leap-l.result given.len given.bits.now c.if-l-ne-NOTHING.false c.in_default.ensures.lookup.3)

pub returns-then-t-ne-NOTHING : goal.returns-then-t-ne-NOTHING
returns-then-t-ne-NOTHING c =
    let given = c.args in
    let leap-end = c.leap-l.result in
    let there = c.in-Some.ensures.lookup.3 in
    let heard = c.turn-t.ensures ∙ ap (turned_by leap-end.ear given.len) (there.1 0) in
    sym (behind (goal.at.returns-then-t-ne-NOTHING c).After-leap-l c.if-l-ne-NOTHING.false ∙ advanced_asked leap-end.ear given.len given.bits.now leap-end.at leap-end.at there.0 c.turn-t.result heard c.if-t-ne-NOTHING.true)

pub loop-i-preserved : goal.loop-i-preserved
loop-i-preserved c =
    let given = c.args in
    let leap-end = c.leap-l.result in
    let there = c.in-Some.ensures.lookup.3 in
    let heard = c.turn-t.ensures ∙ ap (turned_by leap-end.ear given.len) (there.1 0) in
    behind (goal.at.loop-i-preserved c).After-leap-l c.if-l-ne-NOTHING.false ∙ advanced_on leap-end.ear given.len given.bits.now leap-end.at leap-end.at there.0 c.turn-t.result heard c.if-t-ne-NOTHING.false

pub returns : goal.returns
returns c =
    let given = c.args in
    sym (c.loop-i.invariant ∙ advanced_end c.loop-i.ear given.len given.bits.now c.loop-i.i c.loop-i.i c.loop-i-test.false)
