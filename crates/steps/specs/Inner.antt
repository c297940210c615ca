-- What the private functions of this crate promise each other. No public promise names it.
use Rattle.std.specs.Prelude.{ℕ, Bool, false, Option, Some, None, List, [], ◌∷◌, slice_index_or}
use Rattle.laws.specs.Logic.{when}
use Rattle.steps.specs.declared.Session.{Session}
use Rattle.steps.specs.declared.Row.{Row}
use Rattle.steps.specs.declared.To.{To}
use Rattle.steps.specs.declared.Condition.TheVariants.{Always, TeElapsed, NoneChosen, JmRefused, ChosenItem, NothingLeft, NoTone, BehindAnsam, BehindAns}
use Rattle.steps.specs.Table.{condition_number}
use Rattle.steps.specs.Stepping.{holds, row_fits}

-- what each condition comes to, by its number
abbrev pub what_holds : Session → ℕ → ℕ → List Bool
what_holds s value passed =
    holds Always s value passed
    ∷ holds TeElapsed s value passed
    ∷ holds NoneChosen s value passed
    ∷ holds JmRefused s value passed
    ∷ holds ChosenItem s value passed
    ∷ holds NothingLeft s value passed
    ∷ holds NoTone s value passed
    ∷ holds BehindAnsam s value passed
    ∷ holds BehindAns s value passed
    ∷ []

-- the first row that applies, by what each condition comes to
unfoldable pub find_held : ℕ → ℕ → ℕ → List Bool → List Row → Option To
find_held state event passed held [] = None
find_held state event passed held (r ∷ rs) = when (row_fits r state event passed (slice_index_or held (condition_number r.condition) false)) (Some r.to) (find_held state event passed held rs)
