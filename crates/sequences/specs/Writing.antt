-- Document 01, 'Bits on the line' and 'Refusal numbers': what the writer answers, and what it leaves in the lent buffer.
use Rattle.std.specs.Prelude.{ℕ, List}
use Rattle.octets.specs.declared.Kind.{Kind}
use Rattle.octets.specs.declared.Purpose.TheVariants.{Writing}
use Rattle.refusals.specs.Refusals.{before}
use Rattle.octets.specs.Lists.{list_fault}
use Rattle.refusals.specs.Lent.{WriteOutcome, room_fault, put}
use Rattle.sequences.specs.Line.{sequence, copies, cj}

-- "reading or writing octets 4, 5, then at the first bad octet 3 or 12, then 6"
abbrev pub written : Kind → List ℕ → ℕ → List ℕ → WriteOutcome
written kind octets n out =
    let line = copies n (sequence kind octets) in
    put (before (list_fault (Writing kind) octets) (room_fault line out)) line out

-- "CJ has its own call: once, 30 bits, or refusal 6."
abbrev pub written_cj : List ℕ → WriteOutcome
written_cj out = put (room_fault cj out) cj out
