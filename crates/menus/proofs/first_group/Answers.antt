-- `menus::first_group` meets its contract. Invariant: no octet before place i opens a group of the tag, so the first group is the first from i on.
-- Assumes nothing.
use borrow.Author.Rules.{rules}
use mathlib.Core.Path.{sym, ◌∙◌}
use Rattle.menus.proofs.Looking.{group_here, group_later, group_none}
use Rattle.menus.proofs.first_group.Goals as goal

pub returns-then-opens_group : goal.returns-then-opens_group
returns-then-opens_group c =
    let args = c.args in
    sym (c.loop-i.invariant ∙ group_here args.tag args.octets.now c.loop-i.i (search rules) (sym c.opens_group.ensures ∙ c.if-opens_group.true))

pub loop-i-preserved : goal.loop-i-preserved
loop-i-preserved c =
    let args = c.args in
    c.loop-i.invariant ∙ group_later args.tag args.octets.now c.loop-i.i (search rules) (sym c.opens_group.ensures ∙ c.if-opens_group.false)

pub returns : goal.returns
returns c =
    let args = c.args in
    sym (c.loop-i.invariant ∙ group_none args.tag args.octets.now c.loop-i.i c.loop-i-test.false)
