-- `sequences::four` meets its contract: the lent table is `spreads`, and n is a place in it.
-- Assumes nothing.
use Prim.Native.Nat.{ℕ}
use mathlib.Core.Path.{ap}
use mathlib.Core.List.{List}
use lib.ListN.{get_or}
use Rattle.sequences.proofs.four.Goals as goal

pub returns : goal.returns
returns c = ap (λ (table : List ℕ). get_or table c.args.n 0) c.requires.spread_value
