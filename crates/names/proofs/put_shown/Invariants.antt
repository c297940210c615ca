-- `names::put_shown` meets its contract. Invariant: the names from this one on, typed from here, leave what all of them do.
-- Assumes nothing.
use Rattle.std.proofs.Common.{◌≡◌, drop}
use Rattle.printing.specs.Page.{typed}
use Rattle.names.specs.Names.{names_of}
use Rattle.names.specs.Inner.{lent, entries}
use Rattle.names.proofs.put_shown.Given as goal

abbrev pub invariant-loop-name : goal.invariant-loop-name
invariant-loop-name l = typed l.page (names_of l.kind l.set (entries lent (drop l.name-index l.names))) ≡ typed l.initial.page (names_of l.kind l.set (entries lent l.names))
