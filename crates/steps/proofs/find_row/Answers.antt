-- `steps::find_row` meets its contract: what stands in neither part of the table stands nowhere in it.
-- Assumes nothing.
use Rattle.std.proofs.Common.{refl, drop}
use Rattle.steps.specs.Table.{rows}
use Rattle.steps.proofs.Rows.{found_early, found_late}
use Rattle.steps.proofs.find_row.Goals as goal

pub returns-in-None : goal.returns-in-None
unfolding rows
returns-in-None c = found_late _ _ _ _ _ c.what_holds-holding.ensures _ _ refl _ _ c.find_in.ensures c.in-None.is c.find_in-in-None.ensures

pub returns-in-Some : goal.returns-in-Some
unfolding rows
returns-in-Some c = found_early _ _ _ _ _ c.what_holds-holding.ensures _ (drop 12 rows) refl _ _ c.find_in.ensures c.in-Some.is
