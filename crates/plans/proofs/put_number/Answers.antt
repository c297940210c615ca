-- `plans::put_number` meets its contract: the text, then the digits of the number.
-- Assumes nothing.
use Rattle.std.proofs.Common.{rules}
use Rattle.printing.proofs.Pages.{typed_then}
use Rattle.plans.proofs.Numbers.{decimal_typed}
use Rattle.plans.proofs.put_number.Goals as goal

pub returns : goal.returns
returns c = typed_then _ _ _ c.put_text.ensures (decimal_typed _ _ c.args.number (search rules) c.put_decimal.ensures)
