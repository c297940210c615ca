-- `names::put_names` meets its contract: the table holds the names.
-- Assumes nothing.
use Rattle.std.proofs.Common.{List, ap, ◌∙◌}
use Rattle.printing.specs.Page.{typed}
use Rattle.names.specs.Names.{Entry, names_of}
use Rattle.names.proofs.Each.{table}
use Rattle.names.proofs.put_names.Goals as goal

pub returns : goal.returns
returns c = c.put_shown.ensures ∙ ap (λ (es : List Entry). typed c.args.page.now (names_of c.args.kind c.args.set es)) table
