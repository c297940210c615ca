-- `leaps::leap_boundary` meets its contract: behind a 1, ten bits that are all 1s end the message (`ending_leap`), and ten that are an octet
-- in its frame are stored (`octet_leap`); everywhere else no bit is taken (`stays`).
-- Assumes nothing.
use Rattle.std.proofs.Common.{ℕ, ◌+◌, sym, ap, ◌∙◌, arith, rules}
use Rattle.leaps.specs.Inner.{full, reached, after_ten, is_stored, Leads}
use Rattle.leaps.proofs.Steps.{stays, leads_asked}
use Rattle.leaps.proofs.Spans.{ten_low}
use Rattle.leaps.proofs.Tens.{octet_leap, ending_leap}
use Rattle.leaps.proofs.leap_boundary.Goals.{After-reach-here}
use Rattle.leaps.proofs.leap_boundary.Goals as goal

-- no bit is taken
waits : (from : After-reach-here) → Leads (full from.args.past 10) from.args.len from.args.bits.now from.args.from from.reach-here.result
waits c = let given = c.args in rw c.reach-here.ensures (stays (full given.past 10) given.len given.bits.now given.from)

pub returns-then-past-lt-TOP_BIT : goal.returns-then-past-lt-TOP_BIT
returns-then-past-lt-TOP_BIT c = waits (goal.at.returns-then-past-lt-TOP_BIT c).After-reach-here

pub returns-in_default : goal.returns-in_default
returns-in_default c = waits (goal.at.returns-in_default c).After-reach-here

pub after_ten-next-requires : goal.after_ten-next-requires
after_ten-next-requires c = let given = c.args in ten_low given.bits.now given.from c.in-Some.number c.in-Some.ensures

pub returns-then-number-eq-TEN_ONES : goal.returns-then-number-eq-TEN_ONES
returns-then-number-eq-TEN_ONES c =
    let number = c.in-Some.number in
    let given = c.args in
    rw (c.reach.ensures, c.after_ten-next.ensures)
    (leads_asked (full given.past 10) given.len given.bits.now given.from (reached (after_ten given.past number) 0 4 (given.from + 10)) (omega arith) (λ z. omega (arith, z))
    (ending_leap given.bits.now given.len given.from given.past number c.in-Some.ensures c.if-past-lt-TOP_BIT.false (search rules) c.if-number-eq-TEN_ONES.true))

pub returns-then-is_stored : goal.returns-then-is_stored
returns-then-is_stored c =
    let number = c.in-Some.number in
    let given = c.args in
    let next = c.after_ten-next.ensures in
    let stored = ap (λ (past : ℕ). is_stored number past given.len) (sym next) ∙ sym c.is_stored.ensures ∙ c.if-is_stored.true in
    rw (c.reach-then-is_stored.ensures, next)
    (leads_asked (full given.past 10) given.len given.bits.now given.from (reached (after_ten given.past number) 10 3 (given.from + 10)) (omega arith) (λ z. omega (arith, z))
    (octet_leap given.bits.now given.len given.from given.past number c.in-Some.ensures c.if-past-lt-TOP_BIT.false (search rules) stored))

pub returns-else-is_stored : goal.returns-else-is_stored
returns-else-is_stored c = waits (goal.at.returns-else-is_stored c).After-reach-here
