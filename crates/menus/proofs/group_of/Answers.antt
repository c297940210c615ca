-- `menus::group_of` meets its contract: where the tag is found its part is handed back, otherwise the empty part.
-- Assumes nothing.
use Rattle.menus.specs.Groups.{group_of}
use Rattle.menus.proofs.group_of.Goals as goal

pub returns-in_default : goal.returns-in_default
unfolding group_of
returns-in_default c = simp (← c.first_group.ensures, c.in_default.is)

pub returns : goal.returns
unfolding group_of
returns c = simp (← c.first_group.ensures, c.in-Some.is) c.part.ensures.result_value
