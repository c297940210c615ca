-- `listing::Lines::put_octets` meets its contract. Invariant: the place stays within the page.
-- Assumes nothing.
use Rattle.printing.proofs.Pages.{Within}
use Rattle.listing.proofs.Lines.put_octets.Given as goal

abbrev pub invariant-loop-octet : goal.invariant-loop-octet
invariant-loop-octet l = Within l.self-inside.page
