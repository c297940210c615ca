-- `octets::same` meets its contract. Invariant: the lists are as long as each other, and they are the same where what stands from place i on is the
-- same.
-- Assumes nothing.
use borrow.Author.Rules.{rules}
use mathlib.Core.Path.{refl, sym, ◌∙◌}
use Rattle.laws.proofs.Same.{same_lengths, same_on, same_stop, same_end}
use Rattle.octets.proofs.same.Goals as goal

pub returns-then-a-b : goal.returns-then-a-b
returns-then-a-b c = sym (same_lengths c.args.a.now c.args.b.now c.if-a-b.true)

pub loop-i-init : goal.loop-i-init
loop-i-init c = (c.if-a-b.false, refl)

pub returns-then-a-i : goal.returns-then-a-i
returns-then-a-i c =
    let args = c.args in
    sym (c.loop-i.invariant.1 ∙ same_stop args.a.now args.b.now c.loop-i.i (search rules) (search rules) c.if-a-i.true)

pub loop-i-preserved : goal.loop-i-preserved
loop-i-preserved c =
    let args = c.args in
    (c.loop-i.invariant.0, c.loop-i.invariant.1 ∙ same_on args.a.now args.b.now c.loop-i.i (search rules) (search rules) c.if-a-i.false)

pub returns : goal.returns
returns c =
    let args = c.args in
    sym (c.loop-i.invariant.1 ∙ same_end args.a.now args.b.now c.loop-i.i c.loop-i-test.false (search rules))
