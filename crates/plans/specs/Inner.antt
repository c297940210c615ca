-- How the code finds what a text lacks, and writes all that stands before the lists.
use Rattle.std.specs.Prelude.{ℕ, Option, is_some, List, ◌++◌}
use Rattle.laws.specs.Logic.{when}
use Rattle.plans.specs.declared.Plan.{Plan}
use Rattle.plans.specs.Reading.{missing}
use Rattle.plans.specs.Plain.{head_text, te_text, cadence_text, answers_text}
use Rattle.plans.specs.declared.Reading.{Reading}

-- the mistake of a text that was read to its end, or what it lacks, if either
unfoldable pub lacking : Reading → Option ℕ
lacking r = when (is_some r.what) r.what (missing r.plan)

-- all that a plan says beside the blocks and the damaged bits
abbrev pub told_text : Plan → List ℕ → List ℕ
told_text plan cm = head_text plan cm ++ te_text plan.te ++ cadence_text plan.on plan.off ++ answers_text plan.answers
