-- `fields::find_block` meets its contract: the walk decides, and where every block fits the number does.
-- Assumes nothing.
use Rattle.std.proofs.Common.{◌≡◌, ap, ◌∙◌, arith, true, length}
use Rattle.laws.specs.Tests.{every}
use Rattle.fields.specs.Blocks.{blocks_of, fits, block_at}
use Rattle.fields.proofs.Reading.{walked_count, walked_unfit, found_none, found_past, found_there}
use Rattle.fields.proofs.find_block.Goals.{In-Ok}
use Rattle.fields.proofs.find_block.Goals as goal

-- where the walk counts, every block fits and is counted
all_counted : (counted : In-Ok) → (every fits (blocks_of counted.args.octets.now) ≡ true) × (counted.in-Ok.count ≡ length (blocks_of counted.args.octets.now))
all_counted counted = walked_count counted.args.octets.now _ counted.in-Ok.ensures

pub returns-in_default : goal.returns-in_default
returns-in_default c = c.no_block.ensures ∙ found_none c.args.octets.now c.args.number (walked_unfit c.args.octets.now _ c.in_default.ensures).0

pub returns-then-count-number : goal.returns-then-count-number
returns-then-count-number c =
    let args = c.args in
    c.no_block-then-count-number.ensures ∙ found_past args.octets.now args.number (omega (arith, (all_counted (goal.at.returns-then-count-number c).In-Ok).1, c.if-count-number.true))

pub place_of-requires : goal.place_of-requires
place_of-requires c =
    record { octets_value = (all_counted (goal.at.place_of-requires c).In-Ok).0; number_in_bounds = omega (arith, (all_counted (goal.at.place_of-requires c).In-Ok).1, c.if-count-number.false) }

pub returns : goal.returns
returns c =
    let args = c.args in
    c.block_at.ensures ∙ ap (block_at args.octets.now) c.place_of.ensures ∙ found_there args.octets.now args.number (all_counted (goal.at.returns c).In-Ok).0 (omega (arith, (all_counted (goal.at.returns c).In-Ok).1, c.if-count-number.false))
