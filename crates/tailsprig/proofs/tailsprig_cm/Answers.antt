-- `tailsprig::tailsprig_cm` meets its contract: what `make_cm` answers is told as its number, from which nothing is cut off (`cm_whole`), and
-- the buffer is as it left it.
-- Assumes nothing.
use Rattle.tailsprig.proofs.Counts.{cm_whole, returns_as}
use Rattle.tailsprig.proofs.tailsprig_cm.Goals as goal

pub returns : goal.returns
returns c =
    let given = c.args in
    returns_as _ c.make_cm.result c.make_cm.new.out c.wrote_code.result (cm_whole given.own given.function given.blocks.now given.out.now) c.make_cm.ensures c.wrote_code.type_inv c.wrote_code.ensures
