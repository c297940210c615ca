-- `plans::octet` meets its contract: two digits are an octet, and any other word is none.
-- Assumes nothing.
use Rattle.std.proofs.Common.{sym, ◌∙◌, arith}
use mir.Facts.{Fits-below}
use Rattle.plans.proofs.Numbers.{hex_small}
use Rattle.plans.proofs.octet.Goals as goal

pub overflow_mul-result : goal.overflow_mul-result
overflow_mul-result c = Fits-below {n = 240} tt (omega (arith, hex_small _ _ (sym c.hex_value.ensures ∙ c.in_ok-high.was)))

pub overflow_add-result : goal.overflow_add-result
overflow_add-result c =
    Fits-below {n = 255} tt (omega (arith, hex_small _ _ (sym c.hex_value.ensures ∙ c.in_ok-high.was), hex_small _ _ (sym c.hex_value-2.ensures ∙ c.in_ok-low.was)))
