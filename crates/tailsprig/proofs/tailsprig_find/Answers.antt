-- `tailsprig::tailsprig_find` meets its contract: where `menus::find` finds the tag is told as a number, and no place is too high for that
-- (`looked_whole`).
-- Assumes nothing.
use mathlib.Core.Path.{ap, ◌∙◌}
use Rattle.codes.specs.Reading.{looked_code, cut_looked}
use Rattle.codes.proofs.Codes.{read_answer}
use Rattle.menus.specs.Groups.{Looked}
use Rattle.tailsprig.proofs.Counts.{looked_whole}
use Rattle.tailsprig.proofs.tailsprig_find.Goals as goal

pub returns : goal.returns
returns c =
    let given = c.args in
    read_answer c.found_code.result c.found_code.type_inv ∙ c.found_code.ensures ∙ ap (λ (found : Looked). looked_code (cut_looked found)) c.find.ensures
    ∙ ap looked_code (looked_whole given.octets.now given.tag)
