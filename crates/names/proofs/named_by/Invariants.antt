-- `names::named_by` meets its contract. Invariant: the names from this one on say what all of them say.
-- Assumes nothing.
use Rattle.std.proofs.Common.{◌≡◌, drop}
use Rattle.names.specs.Names.{named_by}
use Rattle.names.specs.Inner.{lent, entries}
use Rattle.names.proofs.named_by.Given as goal

abbrev pub invariant-loop-name : goal.invariant-loop-name
invariant-loop-name l = named_by (entries lent (drop l.name-index l.names)) l.word ≡ named_by (entries lent l.names) l.word
