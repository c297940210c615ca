-- `sequences::write` meets its contract: the test of the octets decides first, then whether the copies fit; the size that is
-- tested and answered is the length of the line, by `line_length`.
-- Assumes nothing.
use native.Mathlib.Omega.{arith}
use Prim.Native.Nat.{◌≤◌}
use mathlib.Core.Path.{refl, sym, ◌∙◌}
use lib.ListN.{length}
use Rattle.std.proofs.lemmas.Result.{err_from_is_err_and}
use Rattle.octets.proofs.Lists.{accepted_short}
use Rattle.sequences.specs.Line.{sequence, copies}
use Rattle.sequences.proofs.Lines.{line_length, line_small}
use Rattle.refusals.proofs.Outcomes.{meets_short, meets_put, meets_refused, meets_accepted}
use Rattle.sequences.proofs.write.Goals.{In_ok-test}
use Rattle.sequences.proofs.write.Goals as goal

short : (accepted : In_ok-test) → length accepted.args.octets.now ≤ 64
short accepted = accepted_short _ accepted.args.octets.now (sym accepted.in_ok-test.ensures)

pub returns-in_err-test : goal.returns-in_err-test
returns-in_err-test c =
    let given = c.args in
    let p = err_from_is_err_and c.from_residual.result c.from_residual.ensures.1 in
    rw (p.1, p.2) (meets_refused (copies given.n (sequence given.kind given.octets.now)) given.out.now _ _ _ c.in_err-test.ensures)

pub overflow_mul-size : goal.overflow_mul-size
overflow_mul-size c = omega (arith, short (goal.at.overflow_mul-size c).In_ok-test)

pub overflow_add-size : goal.overflow_add-size
overflow_add-size c = omega (arith, short (goal.at.overflow_add-size c).In_ok-test)

pub overflow_mul-size-2 : goal.overflow_mul-size-2
overflow_mul-size-2 c =
    let given = c.args in
    omega (arith, line_small given.octets.now given.n (short (goal.at.overflow_mul-size-2 c).In_ok-test) (omega arith))

pub returns-then-out-size : goal.returns-then-out-size
returns-then-out-size c =
    let given = c.args in
    let line = copies given.n (sequence given.kind given.octets.now) in
    meets_accepted line given.out.now _ _ _ _ (sym c.in_ok-test.ensures)
    (meets_short line given.out.now (omega (arith, line_length given.kind given.octets.now given.n, c.if-out-size.true)))

pub write_copies-requires : goal.write_copies-requires
write_copies-requires c =
    let given = c.args in
    record { octets_len_bound = short (goal.at.write_copies-requires c).In_ok-test; octets_in_bounds = omega (arith, line_length given.kind given.octets.now given.n, c.if-out-size.false); spread_value = refl }

pub returns : goal.returns
returns c =
    let given = c.args in
    let line = copies given.n (sequence given.kind given.octets.now) in
    let line-long = line_length given.kind given.octets.now given.n in
    meets_accepted line given.out.now _ _ _ _ (sym c.in_ok-test.ensures)
    (meets_put line given.out.now _ c.write_copies.new.out (omega (arith, line-long, c.if-out-size.false)) (sym line-long) c.write_copies.ensures)
