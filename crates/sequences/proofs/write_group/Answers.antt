-- `sequences::write_group` meets its contract. Invariant: the first i octets stand framed at the front of the buffer, there is an octet
-- at place i, and from there on the group has as many extension octets left as it has in all, less i.
-- Assumes nothing.
use borrow.Author.Rules.{rules}
use native.Mathlib.Omega.{arith}
use Prim.Native.Nat.{◌-◌, ◌+◌, ◌*◌}
use mathlib.Core.Path.{◌≡◌, refl, sym, ap, ◌∙◌}
use lib.ListN.{length, take, drop}
use borrow.Rule.Slice.PartMut.{put_mid}
use Prim.Native.Nat.{ℕ}
use mathlib.Core.List.{List}
use Rattle.sequences.specs.Inner.{ten_bits}
use Rattle.laws.specs.Front.{front}
use Rattle.octets.proofs.Lists.{group_end, group_on}
use Rattle.sequences.specs.Line.{framed_all}
use Rattle.sequences.proofs.Lines.{framed_one, out_length, rest_length, framed_more}
use Rattle.sequences.proofs.write_group.Goals.{After-write_ten, At-loop-i}
use Rattle.sequences.proofs.write_group.Goals as goal

-- the buffer is as long as it was lent, and what is left of it holds the octets that are left
long : (at-loop : At-loop-i) → length at-loop.loop-i.out ≡ length at-loop.args.out.now
long at-loop =
    out_length at-loop.args.octets.now at-loop.args.out.now at-loop.loop-i.out at-loop.loop-i.i at-loop.requires.octets_in_bounds (omega arith) at-loop.loop-i.invariant.1

left : (at-loop : At-loop-i)
    → length (take (length at-loop.loop-i.out - 10 * at-loop.loop-i.i) (drop (10 * at-loop.loop-i.i) at-loop.loop-i.out)) ≡ length at-loop.args.out.now - 10 * at-loop.loop-i.i
left at-loop =
    rest_length at-loop.args.octets.now at-loop.args.out.now at-loop.loop-i.out at-loop.loop-i.i at-loop.requires.octets_in_bounds (omega arith) at-loop.loop-i.invariant.1

-- one more octet
more : (written : After-write_ten)
    → put_mid (10 * written.loop-i.i) (length written.loop-i.out - 10 * written.loop-i.i) written.loop-i.out written.write_ten.new.out
    ≡ front (framed_all (take (written.loop-i.i + 1) written.args.octets.now)) written.args.out.now
more written =
    let octets = written.args.octets.now in
    let lent = written.args.out.now in
    let i = written.loop-i.i in
    let is_framed : ten_bits written.octet_ten.result ≡ framed_all (take 1 (drop i octets)) = ap ten_bits written.octet_ten.ensures ∙ framed_one octets i written.loop-i.invariant.0 (written.type_inv.octets i).fits in
    framed_more octets lent written.loop-i.out i written.requires.octets_in_bounds (omega arith) written.loop-i.invariant.1 1 written.write_ten.new.out
    (written.write_ten.ensures ∙ ap (λ (bits : List ℕ). front bits (take (length written.loop-i.out - 10 * i) (drop (10 * i) written.loop-i.out))) is_framed)

pub loop-i-init : goal.loop-i-init
unfolding framed_all
loop-i-init c = (c.requires.octets_nonzero, refl, search rules)

pub slice_bounds-write_ten-start : goal.slice_bounds-write_ten-start
slice_bounds-write_ten-start c = omega (arith, long (goal.at.slice_bounds-write_ten-start c).At-loop-i)

pub write_ten-requires : goal.write_ten-requires
write_ten-requires c =
    record { in_bounds = omega (arith, left (goal.at.write_ten-requires c).At-loop-i); v_bound = omega (arith, c.octet_ten.ensures, c.type_inv.octets c.loop-i.i); spread_value = c.requires.spread_value }

pub shape_of-out-then-group_ends : goal.shape_of-out-then-group_ends
shape_of-out-then-group_ends c =
    out_length c.args.octets.now c.args.out.now _ (c.loop-i.i + 1) c.requires.octets_in_bounds (omega arith) (more (goal.at.shape_of-out-then-group_ends c).After-write_ten)

pub returns-then-group_ends : goal.returns-then-group_ends
returns-then-group_ends c =
    let octets = c.args.octets.now in
    let ends = group_end octets (c.loop-i.i + 1) (sym c.group_ends.ensures ∙ c.if-group_ends.true) in
    record { count = omega (arith, c.loop-i.invariant.2); some = omega arith; buffer = more (goal.at.returns-then-group_ends c).After-write_ten }

pub loop-i-preserved : goal.loop-i-preserved
loop-i-preserved c =
    let octets = c.args.octets.now in
    let goes_on = group_on octets (c.loop-i.i + 1) (sym c.group_ends.ensures ∙ c.if-group_ends.false) in
    (goes_on.0, more (goal.at.loop-i-preserved c).After-write_ten, omega (arith, c.loop-i.invariant.2, goes_on.1))
