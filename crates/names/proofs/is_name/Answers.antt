-- `names::is_name` meets its contract. Invariant: the word is as long as the name, and they have the same letters where what stands from place i
-- on has.
-- Assumes nothing.
use mathlib.Core.Path.{refl, sym, ◌∙◌}
use Rattle.names.proofs.Letters.{letters_apart, letters_on, letters_stop, letters_end}
use Rattle.names.proofs.is_name.Goals as goal

pub returns-then-word-name : goal.returns-then-word-name
returns-then-word-name c = sym (letters_apart c.args.name.now c.args.word.now c.if-word-name.true)

pub loop-i-init : goal.loop-i-init
loop-i-init c = (c.if-word-name.false, refl)

pub returns-then-lower : goal.returns-then-lower
returns-then-lower c =
    sym (c.loop-i.invariant.1 ∙ letters_stop c.args.name.now c.args.word.now c.loop-i.i c.loop-i.invariant.0 c.loop-i-test.true c.lower.ensures c.lower-in-loop-i.ensures c.if-lower.true)

pub loop-i-preserved : goal.loop-i-preserved
loop-i-preserved c =
    (c.loop-i.invariant.0, c.loop-i.invariant.1 ∙ letters_on c.args.name.now c.args.word.now c.loop-i.i c.loop-i.invariant.0 c.loop-i-test.true c.lower.ensures c.lower-in-loop-i.ensures c.if-lower.false)

pub returns : goal.returns
returns c = sym (c.loop-i.invariant.1 ∙ letters_end c.args.name.now c.args.word.now c.loop-i.i c.loop-i.invariant.0 c.loop-i-test.false)
