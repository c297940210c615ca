-- `menus::decide` meets its contract. Invariant: behind the octet looked at last, so many before the one that holds the item, what is decided is
-- what the whole group decides.
-- Assumes nothing.
use Rattle.std.proofs.Common.{◌≡◌, ◌-◌, drop}
use Rattle.menus.specs.Inner.{decided}
use Rattle.menus.proofs.decide.Given as goal

abbrev pub invariant-loop : goal.invariant-loop
invariant-loop l = decided l.place.bit.0 l.place.octet l.from l.opening (drop l.from l.octets) ≡ decided l.place.bit.0 (l.place.octet - l.counter) l.looked l.b (drop l.looked l.octets)
