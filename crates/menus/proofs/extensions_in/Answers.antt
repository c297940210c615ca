-- `menus::extensions_in` meets its contract. Invariant: no octet before place i is a category octet, so the first one is the first from i on.
-- Assumes nothing.
use Rattle.std.proofs.Common.{◌≤◌, length, sym, ◌∙◌, arith}
use Rattle.octets.proofs.Lists.{until_end}
use Rattle.menus.proofs.Looking.{until_here, until_on}
use Rattle.menus.proofs.extensions_in.Goals as goal

pub returns-then-is_category : goal.returns-then-is_category
returns-then-is_category c =
    let here = until_here c.args.octets.now c.loop-i.i (omega arith) (sym c.is_category.ensures ∙ c.if-is_category.true) in
    (omega (arith, c.loop-i.invariant, here), omega arith)

pub loop-i-preserved : goal.loop-i-preserved
loop-i-preserved c =
    let on = until_on c.args.octets.now c.loop-i.i (omega arith) (sym c.is_category.ensures ∙ c.if-is_category.false) in
    omega (arith, c.loop-i.invariant, on)

pub returns : goal.returns
returns c =
    let all : length c.args.octets.now ≤ c.loop-i.i = omega arith in
    let none = until_end c.args.octets.now c.loop-i.i all in
    (omega (arith, c.loop-i.invariant, none), omega arith)
