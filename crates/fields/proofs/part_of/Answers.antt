-- `fields::part_of` meets its contract: every part of the block that is found lies in the octets.
-- Assumes nothing.
use Rattle.fields.proofs.Reading.{found_within}
use Rattle.fields.proofs.Reading.{part_within}
use Rattle.fields.proofs.part_of.Goals as goal

pub part_in-requires : goal.part_in-requires
part_in-requires c =
    let args = c.args in
    rw (c.span_of.ensures, c.find_block.ensures) (part_within args.octets.now _ (found_within args.octets.now args.number) args.part)
