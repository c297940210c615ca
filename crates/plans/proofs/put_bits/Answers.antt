-- `plans::put_bits` meets its contract: each bit leaves one less to type.
-- Assumes nothing.
use Rattle.std.proofs.Common.{ℕ, ◌+◌, ◌<◌, length, drop, sym, ◌∙◌, ap₂, arith, rules}
use Rattle.printing.specs.Page.{Page, typed}
use Rattle.printing.proofs.Pages.{typed_then}
use Rattle.plans.specs.Plain.{bits_text}
use Rattle.plans.proofs.Numbers.{decimal_typed}
use Rattle.plans.proofs.Typing.{bit_on, bit_off, bits_end}
use Rattle.plans.proofs.put_bits.Goals.{then-bit-eq1, else-bit-eq1}
use Rattle.plans.proofs.put_bits.Goals as goal

pub loop-time-preserved : goal.loop-time-preserved
loop-time-preserved c =
    let front = c.args.front.now in
    let bits = c.args.damaged.now in
    let here = c.loop-time.page in
    let i = c.loop-time.time in
    let count = c.loop-time.count in
    let inside : i < length bits = search rules in
    let from-here : Page → ℕ → Page = λ (p : Page) (n : ℕ). typed p (bits_text front n (i + 1) (drop (i + 1) bits)) in
    elim c.if-bit-eq1.branch [
      | then-bit-eq1 w ↦ (
        ap₂ from-here (w.page-is ∙ typed_then here _ _ w.put_front.ensures (decimal_typed _ _ i (omega (arith, inside, c.requires)) w.put_decimal.ensures)) w.count-is
            ∙ sym (bit_on here front count bits i inside w.if-bit-eq1.true) ∙ c.loop-time.invariant.0,
        omega (arith, w.count-is, c.loop-time.invariant.1),
      )
      | else-bit-eq1 w ↦ (
        ap₂ from-here w.page-is w.count-is ∙ sym (bit_off here front count bits i inside w.if-bit-eq1.false) ∙ c.loop-time.invariant.0,
        omega (arith, w.count-is, c.loop-time.invariant.1),
      )
    ]

pub returns : goal.returns
returns c = sym (bits_end c.loop-time.page c.args.front.now c.loop-time.count c.args.damaged.now c.loop-time.time (search rules)) ∙ c.loop-time.invariant.0
