-- `tailsprig::tailsprig_write_cj` meets its contract: what `write_cj` answers is told as its number, from which nothing is cut off
-- (`cj_whole`), and the buffer is as it left it.
-- Assumes nothing.
use Rattle.tailsprig.proofs.Counts.{cj_whole, returns_as}
use Rattle.tailsprig.proofs.tailsprig_write_cj.Goals as goal

pub returns : goal.returns
returns c =
    returns_as _ c.write_cj.result c.write_cj.new.out c.wrote_code.result (cj_whole c.args.out.now) c.write_cj.ensures c.wrote_code.type_inv c.wrote_code.ensures
