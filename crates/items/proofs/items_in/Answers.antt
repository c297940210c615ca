-- `items::items_in` meets its contract. Invariant: the set holds the items below i that stand in the group, and the weight is that of item i.
-- Assumes nothing.
use Rattle.std.proofs.Common.{arith, refl}
use Rattle.items.specs.Items.{has_item, set_of}
use Rattle.items.proofs.Sets.{weight_small, weight_more, set_small, set_more}
use Rattle.items.proofs.items_in.Goals as goal

pub loop-i-init : goal.loop-i-init
unfolding set_of
loop-i-init c = (refl, refl)

pub with_item-set-requires-clause-set_lt_weight : goal.with_item-set-requires-clause-set_lt_weight
with_item-set-requires-clause-set_lt_weight c =
    omega (arith, c.loop-i.invariant, set_small (has_item c.args.group.now) c.loop-i.i)

pub with_item-set-requires-clause-weight_bound : goal.with_item-set-requires-clause-weight_bound
with_item-set-requires-clause-weight_bound c = omega (arith, c.loop-i.invariant, weight_small c.loop-i.i (omega arith))

pub overflow_mul-weight : goal.overflow_mul-weight
overflow_mul-weight c = omega (arith, c.loop-i.invariant, weight_small c.loop-i.i (omega arith))

pub loop-i-preserved : goal.loop-i-preserved
loop-i-preserved c =
    let group = c.args.group.now in
    let more = weight_more c.loop-i.i in
    let there = set_more (has_item group) c.loop-i.i in
    (cc, cc)
