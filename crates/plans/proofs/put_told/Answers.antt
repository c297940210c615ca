-- `plans::put_told` meets its contract: the lines, one after the other.
-- Assumes nothing.
use Rattle.names.specs.Bytes.{bytes}
use Rattle.printing.proofs.Pages.{typed_then}
use Rattle.plans.proofs.put_told.Goals as goal

pub returns : goal.returns
unfolding bytes
returns c =
    typed_then _ _ _ (typed_then _ _ _ (typed_then _ _ _ c.put_head.ensures c.put_number.ensures) c.put_cadence.ensures) c.put_answers.ensures
