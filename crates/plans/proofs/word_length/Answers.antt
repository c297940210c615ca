-- `plans::word_length` meets its contract. Invariant: no byte before place i ends the word, so it ends where the bytes from i on end it.
-- Assumes nothing.
use Rattle.std.proofs.Common.{◌≤◌, length, sym, ◌∙◌, arith}
use Rattle.plans.proofs.Walk.{word_ends, word_on, word_past}
use Rattle.plans.proofs.word_length.Goals as goal

pub returns-then-ends_word : goal.returns-then-ends_word
returns-then-ends_word c =
    let here = word_ends c.args.text.now c.loop-i.i (omega arith) (sym c.ends_word.ensures ∙ c.if-ends_word.true) in
    (omega (arith, c.loop-i.invariant, here), omega arith)

pub loop-i-preserved : goal.loop-i-preserved
loop-i-preserved c =
    let on = word_on c.args.text.now c.loop-i.i (omega arith) (sym c.ends_word.ensures ∙ c.if-ends_word.false) in
    omega (arith, c.loop-i.invariant, on)

pub returns : goal.returns
returns c =
    let all : length c.args.text.now ≤ c.loop-i.i = omega arith in
    let none = word_past c.args.text.now c.loop-i.i all in
    (omega (arith, c.loop-i.invariant, none), omega arith)
