-- `plans::put_end` meets its contract: what is said of the end, one after the other.
-- Assumes nothing.
use Rattle.names.specs.Bytes.{bytes}
use Rattle.printing.proofs.Pages.{typed_then}
use Rattle.plans.proofs.put_end.Goals as goal

pub returns : goal.returns
unfolding bytes
returns c =
    let home = typed_then _ _ _ c.put_text-2.ensures (rw (c.added.ensures, c.set_at-home.ensures) at c.put_names.ensures) in
    typed_then _ _ _ (typed_then _ _ _ (typed_then _ _ _ c.put_text.ensures c.put_functions.ensures) home) (rw c.set_at.ensures at c.put_wants.ensures)
