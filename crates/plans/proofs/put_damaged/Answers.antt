-- `plans::put_damaged` meets its contract: whether there are enough places decides.
-- Assumes nothing.
use Rattle.std.proofs.Common.{◌≡◌, ℕ, ◌≤◌, List, length, take, arith, length-take-le}
use Rattle.plans.proofs.put_damaged.Goals as goal

first_half : (damaged : List ℕ) → 18000 ≤ length damaged → length (take 9000 damaged) ≡ 9000
first_half damaged long = length-take-le 9000 damaged (omega (arith, long))

pub slice_bounds-put_bits-end-2 : goal.slice_bounds-put_bits-end-2
slice_bounds-put_bits-end-2 c = omega (arith, c.if-damaged-lt-BITS_OF_BOTH.false, first_half c.args.damaged.now (omega (arith, c.if-damaged-lt-BITS_OF_BOTH.false)))

pub put_bits-requires : goal.put_bits-requires
put_bits-requires c = omega (arith, first_half c.args.damaged.now (omega (arith, c.if-damaged-lt-BITS_OF_BOTH.false)))
