-- `fields::place_of` meets its contract. Invariant: `place` is where the block of the number of steps begins, so the block that is read there is that
-- one, and the next one begins behind it.
-- Assumes nothing.
use Rattle.std.proofs.Common.{◌≡◌, ℕ, ◌+◌, arith, refl, ap, ◌∙◌}
use Rattle.laws.specs.Joined.{joined}
use Rattle.fields.specs.declared.Block.{Block}
use Rattle.fields.specs.Blocks.{place_of, block_at}
use Rattle.fields.proofs.Blocks.{place_next, place_within}
use Rattle.fields.proofs.place_of.Goals.{After-block_at-block}
use Rattle.fields.proofs.place_of.Goals as goal

-- behind the block that was read the next one begins
next : (read : After-block_at-block) → read.loop.place + read.block_at-block.result.whole.size ≡ place_of read.args.octets.now (read.loop.counter + 1)
next read =
    let octets = read.args.octets.now in
    let size = ap (λ (b : Block). b.whole.size) read.block_at-block.ensures ∙ ap (λ (place : ℕ). (block_at octets place).whole.size) read.loop.invariant in
    omega (arith, read.loop.invariant, size, place_next octets read.loop.counter (omega arith) read.requires.octets_value)

pub loop-init : goal.loop-init
unfolding joined
loop-init c = refl

pub overflow_add-place : goal.overflow_add-place
overflow_add-place c =
    omega (arith, next (goal.at.overflow_add-place c).After-block_at-block, place_within c.args.octets.now (c.loop.counter + 1))

pub loop-preserved : goal.loop-preserved
loop-preserved c = next (goal.at.loop-preserved c).After-block_at-block
