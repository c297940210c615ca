-- `names::named` meets its contract: the table holds the names.
-- Assumes nothing.
use Rattle.std.proofs.Common.{List, ap, ◌∙◌}
use Rattle.names.specs.Names.{Entry, named_by}
use Rattle.names.proofs.Each.{table}
use Rattle.names.proofs.named.Goals as goal

pub returns : goal.returns
returns c = c.named_by.ensures ∙ ap (λ (es : List Entry). named_by es c.args.word.now) table
