-- `items::items_in` meets its contract. Invariant: the set holds the items below i that stand in the group, and the weight is that of item i.
-- Assumes nothing.
use Prim.Native.Nat.{◌^◌}
use mathlib.Core.Path.{◌≡◌}
use Rattle.items.specs.Items.{has_item, set_of}
use Rattle.items.proofs.items_in.Given as goal

abbrev pub invariant-loop-i : goal.invariant-loop-i
invariant-loop-i l = (l.weight ≡ 2 ^ l.i) × (l.set ≡ set_of (has_item l.group) l.i)
