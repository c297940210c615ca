-- `sequences::write_copies` meets its contract. Invariant: `counter` copies stand at the front of the buffer and end at `at`; there is room
-- for one more, since n copies fit.
-- Assumes nothing.
use borrow.Author.Rules.{rules}
use native.Mathlib.Omega.{arith}
use Prim.Native.Nat.{ℕ, ◌≤◌, ◌+◌, ◌*◌}
use mathlib.Core.Path.{◌≡◌, refl, sym, ap, ◌∙◌}
use mathlib.Core.List.{List}
use lib.ListN.{length}
use Rattle.laws.specs.Front.{front}
use Rattle.laws.proofs.Rest.{front_length, lent_length, front_then}
use Rattle.sequences.specs.Line.{sequence, copies}
use Rattle.sequences.proofs.Lines.{sequence_length, copies_more, copies_more_length, copies_within}
use Rattle.sequences.proofs.write_copies.Goals.{At-loop, In-loop}
use Rattle.sequences.proofs.write_copies.Goals as goal

-- the copies so far fit, and the buffer is as long as it was lent
within : (at-loop : At-loop) → at-loop.loop.at ≤ length at-loop.args.out.now
within at-loop =
    omega (arith, at-loop.loop.invariant.1, at-loop.requires.octets_in_bounds, copies_within at-loop.loop.counter at-loop.args.n (sequence at-loop.args.kind at-loop.args.octets.now) at-loop.loop.invariant.0)

long : (at-loop : At-loop) → length at-loop.loop.out ≡ length at-loop.args.out.now
long at-loop =
    ap length at-loop.loop.invariant.2 ∙ front_length (copies at-loop.loop.counter (sequence at-loop.args.kind at-loop.args.octets.now)) at-loop.args.out.now (omega (arith, within at-loop, at-loop.loop.invariant.1))

-- and so does one more
room : (in-loop : In-loop) → in-loop.loop.at + (20 + 10 * length in-loop.args.octets.now) ≤ length in-loop.args.out.now
room in-loop =
    let line = sequence in-loop.args.kind in-loop.args.octets.now in
    omega (arith, in-loop.loop.invariant.1, in-loop.requires.octets_in_bounds, copies_within (in-loop.loop.counter + 1) in-loop.args.n line (omega (arith, in-loop.loop-test.true)), copies_more_length in-loop.loop.counter line, sequence_length in-loop.args.kind in-loop.args.octets.now)

pub loop-init : goal.loop-init
unfolding copies
loop-init c = (search rules, refl, refl)

pub slice_bounds-write_sequence-start : goal.slice_bounds-write_sequence-start
slice_bounds-write_sequence-start c = omega (arith, within (goal.at.slice_bounds-write_sequence-start c).At-loop, long (goal.at.slice_bounds-write_sequence-start c).At-loop)

pub write_sequence-requires : goal.write_sequence-requires
write_sequence-requires c =
    let left = lent_length (copies c.loop.counter (sequence c.args.kind c.args.octets.now)) c.args.out.now c.loop.out c.loop.at c.loop.invariant.1 (within (goal.at.write_sequence-requires c).At-loop) c.loop.invariant.2 in
    record { octets_len_bound = c.requires.octets_len_bound; octets_in_bounds = omega (arith, room (goal.at.write_sequence-requires c).In-loop); spread_value = c.requires.spread_value }

pub overflow_add-at : goal.overflow_add-at
overflow_add-at c = omega (arith, room (goal.at.overflow_add-at c).In-loop, c.well_formed)

pub loop-preserved : goal.loop-preserved
loop-preserved c =
    let line = sequence c.args.kind c.args.octets.now in (
      omega (arith, c.loop-test.true),
      omega (arith, c.loop.invariant.1, copies_more_length c.loop.counter line, sequence_length c.args.kind c.args.octets.now),
      front_then (copies c.loop.counter line) c.args.out.now c.loop.out c.loop.at c.loop.invariant.1 (within (goal.at.loop-preserved c).At-loop) c.loop.invariant.2 line c.write_sequence.new.out c.write_sequence.ensures
          ∙ ap (λ (bits : List ℕ). front bits c.args.out.now) (sym (copies_more c.loop.counter line)),
    )

pub shape_of-out : goal.shape_of-out
shape_of-out c = long (goal.at.shape_of-out c).At-loop

pub returns : goal.returns
returns c =
    let all : c.loop.counter ≡ c.args.n = omega (arith, c.loop.invariant.0, c.loop-test.false) in
    c.loop.invariant.2 ∙ ap (λ (count : ℕ). front (copies count (sequence c.args.kind c.args.octets.now)) c.args.out.now) all
