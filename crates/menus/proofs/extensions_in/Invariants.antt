-- `menus::extensions_in` meets its contract. Invariant: no octet before place i is a category octet, so the first one is the first from i on.
-- Assumes nothing.
use Rattle.std.proofs.Common.{◌≡◌, ◌+◌, drop}
use Rattle.octets.specs.Lists.{until_category}
use Rattle.menus.proofs.extensions_in.Given as goal

abbrev pub invariant-loop-i : goal.invariant-loop-i
invariant-loop-i l = until_category l.octets ≡ l.i + until_category (drop l.i l.octets)
