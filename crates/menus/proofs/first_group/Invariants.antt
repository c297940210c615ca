-- `menus::first_group` meets its contract. Invariant: no octet before place i opens a group of the tag, so the first group is the first from i on.
-- Assumes nothing.
use Rattle.std.proofs.Common.{◌≡◌, drop}
use Rattle.menus.specs.Groups.{first_group}
use Rattle.menus.proofs.first_group.Given as goal

abbrev pub invariant-loop-i : goal.invariant-loop-i
invariant-loop-i l = first_group l.tag 0 l.octets ≡ first_group l.tag l.i (drop l.i l.octets)
