-- `plans::put_octets` meets its contract. Invariant: the octets from this one on, typed from here, leave what all of them do.
-- Assumes nothing.
use Rattle.std.proofs.Common.{◌≡◌, drop}
use Rattle.printing.specs.Page.{typed}
use Rattle.plans.specs.Plain.{octets_text}
use Rattle.plans.proofs.put_octets.Given as goal

abbrev pub invariant-loop-count : goal.invariant-loop-count
invariant-loop-count l = typed l.page (octets_text l.front l.count (drop l.count l.octets)) ≡ typed l.initial.page (octets_text l.front 0 l.octets)
