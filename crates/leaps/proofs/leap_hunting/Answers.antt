-- `leaps::leap_hunting` meets its contract: behind the bits that go by, a menu sync is taken where ten 1s stand before it (`sync_leap`);
-- where none stands, hunting goes on from there.
-- Assumes nothing.
use Rattle.std.proofs.Common.{◌+◌, refl, arith}
use Rattle.leaps.specs.Inner.{full, reached, after_ten}
use Rattle.leaps.proofs.Steps.{stays, leads_asked, leads_behind}
use Rattle.leaps.proofs.Tens.{sync_leap}
use Rattle.leaps.proofs.leap_hunting.Goals as goal

pub returns-then-menu_sync_at : goal.returns-then-menu_sync_at
returns-then-menu_sync_at c =
    let behind = c.pass_hunting-past.result in
    let passes = c.pass_hunting-past.ensures in
    let given = c.args in
    let bits = given.bits.now in
    let ones = c.if-past-eq-TEN_ONES.true in
    let sync = c.menu_sync_at.ensures c.if-menu_sync_at.true in
    rw (c.reach.ensures, c.after_ten.ensures)
    (λ len. leads_behind given.past len bits given.from behind _ passes (leads_asked (full behind.past 0) len bits behind.at (reached (after_ten behind.past 960) 10 2 (behind.at + 10)) (omega arith) (λ z. omega (arith, z)) (sync_leap bits len behind.at behind.past 960 sync (omega (arith, ones)) passes.small ones refl)))

pub returns-else-past-eq-TEN_ONES : goal.returns-else-past-eq-TEN_ONES
returns-else-past-eq-TEN_ONES c =
    let behind = c.pass_hunting-past.result in
    let given = c.args in
    let bits = given.bits.now in
    rw c.reach-else-past-eq-TEN_ONES.ensures (λ len. leads_behind given.past len bits given.from behind _ c.pass_hunting-past.ensures (stays (full behind.past 0) len bits behind.at))
