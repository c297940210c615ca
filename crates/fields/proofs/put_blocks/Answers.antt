-- `fields::put_blocks` meets its contract: the blocks decide, then the room.
-- Assumes nothing.
use mathlib.Core.Path.{refl, sym, ◌∙◌}
use Rattle.refusals.proofs.Outcomes.{meets_short, meets_put, meets_refused, meets_accepted}
use Rattle.fields.proofs.Field.{blocks_fit, blocks_unfit}
use Rattle.fields.proofs.put_blocks.Goals as goal

pub returns-then-out-octets : goal.returns-then-out-octets
returns-then-out-octets c =
    let args = c.args in
    meets_accepted args.octets.now args.out.now _ _ _ _ (blocks_fit args.octets.now (sym c.are_blocks.ensures ∙ c.if-are_blocks.true))
    (meets_short args.octets.now args.out.now c.if-out-octets.true)

pub returns-then-are_blocks : goal.returns-then-are_blocks
returns-then-are_blocks c =
    let args = c.args in
    meets_accepted args.octets.now args.out.now _ _ _ _ (blocks_fit args.octets.now (sym c.are_blocks.ensures ∙ c.if-are_blocks.true))
    (meets_put args.octets.now args.out.now _ _ c.if-out-octets.false refl c.copy.ensures)

pub returns : goal.returns
returns c =
    let args = c.args in
    meets_refused args.octets.now args.out.now _ _ _ (blocks_unfit args.octets.now (sym c.are_blocks.ensures ∙ c.if-are_blocks.false))
