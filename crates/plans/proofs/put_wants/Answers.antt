-- `plans::put_wants` meets its contract: each text where it is wanted, and the names of the line.
-- Assumes nothing.
use Rattle.names.specs.Bytes.{bytes}
use Rattle.printing.proofs.Pages.{typed_then}
use Rattle.plans.proofs.put_wants.Goals as goal

pub returns : goal.returns
unfolding bytes
returns c = typed_then _ _ _ (typed_then _ _ _ (typed_then _ _ _ c.put_if.ensures c.put_if-2.ensures) c.put_if-3.ensures) c.put_names.ensures
