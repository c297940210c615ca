-- `tailsprig::tailsprig_jm` meets its contract: what `make_jm` answers is told as its number, from which nothing is cut off (`jm_whole`), and
-- the buffer is as it left it.
-- Assumes nothing.
use Rattle.tailsprig.proofs.Counts.{jm_whole, returns_as}
use Rattle.tailsprig.proofs.tailsprig_jm.Goals as goal

pub returns : goal.returns
returns c =
    let given = c.args in
    returns_as _ c.make_jm.result c.make_jm.new.out c.wrote_code.result (jm_whole given.own given.heard.now given.out.now) c.make_jm.ensures c.wrote_code.type_inv c.wrote_code.ensures
