-- `cadence::give` meets its contract: the range decides, and what `fill` finds place by place are the bits of the cadence.
-- Assumes nothing.
use mathlib.Core.Path.{sym, refl, ◌∙◌}
use Rattle.laws.specs.Logic.{when}
use Rattle.cadence.specs.Giving.{given}
use Rattle.cadence.proofs.Outcomes.{gives_these}
use Rattle.cadence.proofs.give.Goals as goal

pub returns-then-fits : goal.returns-then-fits
returns-then-fits c =
    let a = c.args in
    let filled = c.fill-place.ensures in
    gives_these a.c a.out.now _ c.bits_due-n.result _ _ _ _ (sym c.fits.ensures ∙ c.if-fits.true)
    c.bits_due-n.ensures c.on_bits-on.ensures c.ci_number.ensures filled.0 c.sent_after.ensures filled.1

pub returns : goal.returns
unfolding given when
returns c = simp (← c.fits.ensures, c.if-fits.false) (record { answer = refl; buffer = refl; cadence = refl })
