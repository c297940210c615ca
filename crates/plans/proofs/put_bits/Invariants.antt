-- `plans::put_bits` meets its contract. Invariant: the bits from this one on, typed from here, leave what all of them do.
-- Assumes nothing.
use Rattle.std.proofs.Common.{◌≡◌, ◌≤◌, drop}
use Rattle.printing.specs.Page.{typed}
use Rattle.plans.specs.Plain.{bits_text}
use Rattle.plans.proofs.put_bits.Given as goal

abbrev pub invariant-loop-time : goal.invariant-loop-time
invariant-loop-time l = (typed l.page (bits_text l.front l.count l.time (drop l.time l.damaged)) ≡ typed l.initial.page (bits_text l.front 0 0 l.damaged)) × (l.count ≤ l.time)
