-- `plans::put_head` meets its contract: the lines of both ends, and that of the call.
-- Assumes nothing.
use Rattle.names.specs.Bytes.{bytes}
use Rattle.printing.proofs.Pages.{typed_then}
use Rattle.plans.proofs.put_head.Goals as goal

pub returns : goal.returns
unfolding bytes
returns c = typed_then _ _ _ (typed_then _ _ _ c.put_caller.ensures c.put_end.ensures) c.put_called.ensures
