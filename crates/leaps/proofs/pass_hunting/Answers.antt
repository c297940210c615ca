-- `leaps::pass_hunting` meets its contract. Invariant: hearing the bits from `from` on with the past that was given comes to what hearing
-- those behind the bits that were passed does with the past as it stands, since each of them left a hunting ear hunting (`hunts_on`).
-- Assumes nothing.
use Rattle.std.proofs.Common.{ℕ, ◌≡◌, ◌+◌, ◌-◌, ◌*◌, ◌/◌, length, take, drop, get_or, sym, ap, ◌∙◌, arith}
use Rattle.leaps.specs.Leaps.{advanced}
use Rattle.leaps.specs.Inner.{full}
use Rattle.leaps.proofs.Spans.{behind}
use Rattle.leaps.proofs.Steps.{hunts_on}
use Rattle.leaps.proofs.pass_hunting.Goals as goal

pub loop-passed-preserved : goal.loop-passed-preserved
loop-passed-preserved c =
    let bits = c.args.bits.now in
    let from = c.args.from in
    let passed = c.loop-passed.passed in
    let before = c.loop-passed.past in
    let here = behind bits from (length bits - from) passed (omega arith) in
    let next : from + passed + 1 ≡ from + (passed + 1) = omega arith in
    let after = before / 2 + get_or (take (length bits - from) (drop from bits)) passed 0 * 2147483648 in
    record {
      small = omega arith;
      same = λ len. c.loop-passed.invariant.same len
          ∙ hunts_on before _ len bits (from + passed) (omega arith) here c.if-bit-gt1.false (sym c.stands_out.ensures ∙ c.if-stands_out.false)
          ∙ ap (λ (i : ℕ). advanced (full after 0) len (drop i bits) i) next;
    }
