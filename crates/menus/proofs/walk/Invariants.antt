-- `menus::walk` meets its contract. Invariant: no octet before the next one ends the walk, so it answers what the octets from there on do.
-- Assumes nothing.
use Rattle.std.proofs.Common.{◌≡◌, drop}
use Rattle.menus.specs.Inner.{walked}
use Rattle.menus.proofs.walk.Given as goal

abbrev pub invariant-loop-looked : goal.invariant-loop-looked
invariant-loop-looked l = walked l.place 1 (drop 1 l.octets) ≡ walked l.place l.looked (drop l.looked l.octets)
