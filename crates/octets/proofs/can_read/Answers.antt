-- `octets::can_read` meets its contract: what is not refused has fault 0.
-- Assumes nothing.
use mathlib.Core.Path.{ap, ◌∙◌}
use lib.Dec.{eqb}
use Rattle.std.specs.Prelude.{ℕ}
use Rattle.refusals.proofs.Numbers.{is_ok_fault}
use Rattle.octets.proofs.can_read.Goals as goal

pub returns : goal.returns
returns c = c.is_ok.ensures.value ∙ is_ok_fault c.test.result ∙ ap (λ (n : ℕ). eqb n 0) c.test.ensures
