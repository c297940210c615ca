-- `fields::block_at` meets its contract: whether all is there that the length at the place counts decides, and then the codes do.
-- Assumes nothing.
use native.Mathlib.Omega.{arith}
use mathlib.Core.Path.{◌∙◌}
use Rattle.fields.proofs.Reading.{length_at, none_there}
use Rattle.fields.proofs.block_at.Goals as goal

pub returns-then-octets-place : goal.returns-then-octets-place
returns-then-octets-place c =
    let args = c.args in
    c.no_block.ensures ∙ none_there args.octets.now args.place (omega arith)

pub returns-then-octets-place-2 : goal.returns-then-octets-place-2
returns-then-octets-place-2 c =
    let args = c.args in
    c.no_block-then-octets-place-2.ensures ∙ none_there args.octets.now args.place (omega (arith, length_at args.octets.now args.place, c.if-octets-place-2.true))

pub coded_block-requires : goal.coded_block-requires
coded_block-requires c = record { size_value = length_at c.args.octets.now c.args.place; size_in_bounds = omega arith }
