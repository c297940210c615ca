-- `leaps::ten_at` meets its contract. Invariant: the bytes from `from + k` up to the tenth are bits, and `number` is what they make; so at
-- k = 0 all ten are.
-- Assumes nothing.
use Prim.Native.Nat.{◌+◌, ◌-◌}
use Rattle.leaps.proofs.Spans.{Spanned}
use Rattle.leaps.proofs.ten_at.Given as goal

abbrev pub invariant-loop-k : goal.invariant-loop-k
invariant-loop-k l = Spanned l.bits (l.from + l.k) (10 - l.k) l.number
