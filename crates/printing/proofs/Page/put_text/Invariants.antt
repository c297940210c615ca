-- `printing::Page::put_text` meets its contract. Invariant: what is left of the text, typed from here, leaves what the whole text does.
-- Assumes nothing.
use Rattle.std.proofs.Common.{◌≡◌, drop}
use Rattle.printing.specs.Page.{typed}
use Rattle.printing.proofs.Page.put_text.Given as goal

abbrev pub invariant-loop-b : goal.invariant-loop-b
invariant-loop-b l = typed l.self (drop l.b-index l.text) ≡ typed l.initial.self l.text
