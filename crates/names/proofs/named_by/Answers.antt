-- `names::named_by` meets its contract: a name that has not the letters of the word is left out.
-- Assumes nothing.
use Rattle.std.proofs.Common.{sym, rules, ◌∙◌}
use Rattle.names.specs.Inner.{lent}
use Rattle.names.proofs.Each.{named_on}
use Rattle.names.proofs.named_by.Goals as goal

pub loop-name-preserved : goal.loop-name-preserved
loop-name-preserved c =
    sym (named_on lent c.args.names.now c.loop-name.name-index (search rules) _ c.args.word.now (sym c.is_name.ensures ∙ c.if-is_name.false)) ∙ c.loop-name.invariant
