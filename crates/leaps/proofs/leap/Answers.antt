-- `leaps::leap` meets its contract: an ear that heard 30 bits and hunts, or stands at a boundary, is a full one, of which the two leaps
-- speak; any other takes no bit.
-- Assumes nothing.
use Rattle.leaps.proofs.Steps.{stays, is_full}
use Rattle.leaps.proofs.leap.Goals as goal

pub returns-then-ear-eq-HUNTING : goal.returns-then-ear-eq-HUNTING
returns-then-ear-eq-HUNTING c =
    let given = c.args in
    rw (is_full given.ear 0 c.if-full.true c.if-ear-eq-HUNTING.true) (c.leap_hunting.ensures given.len)

pub returns-then-ear-eq-BOUNDARY : goal.returns-then-ear-eq-BOUNDARY
returns-then-ear-eq-BOUNDARY c =
    let given = c.args in
    rw (is_full given.ear 10 c.if-full-2.true c.if-ear-eq-BOUNDARY.true) c.leap_boundary.ensures

pub returns-else-full-2 : goal.returns-else-full-2
returns-else-full-2 c = let given = c.args in stays given.ear given.len given.bits.now given.from
