-- `leaps::ten_at` meets its contract. Invariant: the bytes from `from + k` up to the tenth are bits, and `number` is what they make; so at
-- k = 0 all ten are.
-- Assumes nothing.
use Rattle.std.proofs.Common.{rules, ℕ, ◌<◌, ◌≡◌, ◌+◌, ◌-◌, List, length, take, drop, get_or, ap, ◌∙◌, arith}
use Rattle.std.proofs.lemmas.List.{get_or-take, length-take}
use Rattle.leaps.proofs.Spans.{behind, spanned_none, spanned_more, spanned_low}
use Rattle.leaps.proofs.ten_at.Goals.{Else-bit-gt1}
use Rattle.leaps.proofs.ten_at.Goals as goal

-- the number so far is that of ten bits at most
low : (in-loop : Else-bit-gt1) → in-loop.loop-k.number < 1024
low in-loop =
    let given = in-loop.args in
    let most = spanned_low given.bits.now (given.from + in-loop.loop-k.k) (10 - in-loop.loop-k.k) in-loop.loop-k.number (omega arith) in-loop.loop-k.invariant in
    omega (arith, most.0, most.1)

pub loop-k-init : goal.loop-k-init
loop-k-init c = spanned_none c.args.bits.now (c.args.from + 10)

pub overflow_mul-number : goal.overflow_mul-number
overflow_mul-number c = let less = low (goal.at.overflow_mul-number c).Else-bit-gt1 in search rules

pub overflow_add-number : goal.overflow_add-number
overflow_add-number c = let less = low (goal.at.overflow_add-number c).Else-bit-gt1 in search rules

pub loop-k-preserved : goal.loop-k-preserved
loop-k-preserved c =
    let bits = c.args.bits.now in
    let from = c.args.from in
    let k = c.loop-k.k in
    let chunk = c.in_ok-ten.ensures.cases in
    let here : get_or c.in_ok-ten.ten.now (k - 1) 0 ≡ get_or bits (from + (k - 1)) 0 =
    ap (λ (ten : List ℕ). get_or ten (k - 1) 0) chunk.same ∙ get_or-take 10 (take (length bits - from) (drop from bits)) (k - 1) 0 (omega arith) ∙ behind bits from (length bits - from) (k - 1) (omega (arith, chunk.enough, length-take {A = ℕ})) in
    rw here (spanned_more bits (from + (k - 1)) (from + k) (10 - k) (10 - (k - 1)) c.loop-k.number (search rules) (search rules) (omega (arith, here)) c.loop-k.invariant)
