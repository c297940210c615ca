-- `plans::finish` meets its contract: the last line is finished, then what is missing is asked for.
-- Assumes nothing.
use Rattle.std.proofs.Common.{ℕ, ◌<◌, eqb, sym, ◌∙◌, arith, lit<, rules}
use mir.Facts.{Fits-below}
use Rattle.laws.specs.Logic.{when}
use Rattle.laws.proofs.Logic.{either_way}
use Rattle.plans.specs.Reading.{default_on}
use Rattle.plans.proofs.Cases.{finish_wrong, finish_right}
use Rattle.plans.proofs.finish.Goals as goal

pub returns-in-Some : goal.returns-in-Some
returns-in-Some c = sym (finish_wrong c.args.r _ c.args.at c.finish_line-last.ensures c.in-Some.what (sym c.lacking.ensures ∙ c.in-Some.is))

-- an on period is one of 256, and so is the default
few : (on : ℕ) → on < 256 → when (eqb on 0) default_on on < 256
few on small = either_way (λ (n : ℕ). n < 256) (eqb on 0) default_on on (λ _. lit< tt) (λ _. small)

pub overflow_cast-result : goal.overflow_cast-result
overflow_cast-result c = Fits-below {n = 255} tt (omega (arith, c.or_default-2.ensures, few c.finish_line-last.result.plan.on (search rules)))

pub returns : goal.returns
returns c =
    simp (c.or_default.ensures, c.or_default-2.ensures, c.or_default-3.ensures, c.or_default-4.ensures)
    (sym (finish_right c.args.r _ c.args.at c.finish_line-last.ensures (sym c.lacking.ensures ∙ c.in_default.is)))
