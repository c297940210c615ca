-- `sequences::write_groups` meets its contract. Invariant: the first i octets stand framed at the front of the buffer; a group written
-- into what lies behind them makes them i and the group's, by `framed_more`.
-- Assumes nothing.
use borrow.Author.Rules.{rules}
use native.Mathlib.Omega.{arith}
use Prim.Native.Nat.{ℕ, ◌≤◌, ◌-◌, ◌+◌, ◌*◌}
use mathlib.Core.Path.{◌≡◌, refl, ap, ◌∙◌}
use mathlib.Core.List.{List}
use lib.ListN.{length, take, drop, length-drop}
use lib.Seq.{take_all}
use Rattle.laws.specs.Front.{front}
use Rattle.laws.proofs.Rest.{rest_of}
use Rattle.sequences.specs.Line.{framed_all}
use Rattle.sequences.proofs.Lines.{out_length, rest_length, framed_more}
use Rattle.sequences.proofs.write_groups.Goals.{After-write_group-i, At-loop-i}
use Rattle.sequences.proofs.write_groups.Goals as goal

-- the buffer is as long as it was lent
long : (at-loop : At-loop-i) → length at-loop.loop-i.out ≡ length at-loop.args.out.now
long at-loop =
    out_length at-loop.args.octets.now at-loop.args.out.now at-loop.loop-i.out at-loop.loop-i.i at-loop.requires.octets_in_bounds at-loop.loop-i.invariant.0 at-loop.loop-i.invariant.1

-- the group's octets are among those that are left
among : (written : After-write_group-i)
    → written.loop-i.i + written.write_group-i.result ≤ length written.args.octets.now
among written =
    let octets = written.args.octets.now in
    let left = ap length (rest_of octets written.loop-i.i) ∙ length-drop written.loop-i.i octets in
    omega (arith, written.write_group-i.ensures.some)

pub loop-i-init : goal.loop-i-init
unfolding framed_all
loop-i-init c = (search rules, refl)

pub slice_bounds-write_group-start : goal.slice_bounds-write_group-start
slice_bounds-write_group-start c = omega (arith, long (goal.at.slice_bounds-write_group-start c).At-loop-i)

pub write_group-i-requires : goal.write_group-i-requires
write_group-i-requires c =
    let octets = c.args.octets.now in
    let left = ap length (rest_of octets c.loop-i.i) ∙ length-drop c.loop-i.i octets in
    let room = rest_length octets c.args.out.now c.loop-i.out c.loop-i.i c.requires.octets_in_bounds c.loop-i.invariant.0 c.loop-i.invariant.1 in
    record { octets_nonzero = omega arith; octets_len_bound = omega arith; octets_in_bounds = omega arith; spread_value = c.requires.spread_value }

pub overflow_add-i : goal.overflow_add-i
overflow_add-i c = omega (arith, among (goal.at.overflow_add-i c).After-write_group-i)

pub loop-i-smaller : goal.loop-i-smaller
loop-i-smaller c = omega (arith, among (goal.at.loop-i-smaller c).After-write_group-i, c.write_group-i.ensures.count)

pub loop-i-preserved : goal.loop-i-preserved
loop-i-preserved c =
    let octets = c.args.octets.now in
    let i = c.loop-i.i in
    let count = c.write_group-i.result in
    let group-put = c.write_group-i.ensures.buffer ∙ ap (λ (rest : List ℕ). front (framed_all (take count rest)) (take (length c.loop-i.out - 10 * i) (drop (10 * i) c.loop-i.out))) (rest_of octets i) in
    (among (goal.at.loop-i-preserved c).After-write_group-i, framed_more octets c.args.out.now c.loop-i.out i c.requires.octets_in_bounds c.loop-i.invariant.0 c.loop-i.invariant.1 count c.write_group-i.new.out group-put)

pub shape_of-out : goal.shape_of-out
shape_of-out c = long (goal.at.shape_of-out c).At-loop-i

pub returns : goal.returns
returns c =
    c.loop-i.invariant.1 ∙ ap (λ (done : List ℕ). front (framed_all done) c.args.out.now) (take_all c.loop-i.i c.args.octets.now c.loop-i-test.false)
