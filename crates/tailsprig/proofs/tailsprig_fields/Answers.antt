-- `tailsprig::tailsprig_fields` meets its contract: what `read_field` answers is told as its number, from which nothing is cut off (`field_whole`),
-- and the buffer is as it left it.
-- Assumes nothing.
use Rattle.tailsprig.proofs.Counts.{field_whole, returns_as}
use Rattle.tailsprig.proofs.tailsprig_fields.Goals as goal

pub returns : goal.returns
returns c =
    let given = c.args in
    returns_as _ c.read_field.result c.read_field.new.out c.wrote_code.result (field_whole given.octets.now given.out.now) c.read_field.ensures c.wrote_code.type_inv c.wrote_code.ensures
