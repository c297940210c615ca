-- `plans::put_functions` meets its contract. Invariant: the functions from this one on, typed from here, leave what all of them do.
-- Assumes nothing.
use Rattle.std.proofs.Common.{◌≡◌, ◌-◌}
use Rattle.printing.specs.Page.{typed}
use Rattle.plans.specs.Plain.{functions_text}
use Rattle.plans.proofs.put_functions.Given as goal

abbrev pub invariant-loop-function : goal.invariant-loop-function
invariant-loop-function l = typed l.page (functions_text l.plan l.end l.function (7 - l.function)) ≡ typed l.initial.page (functions_text l.plan l.end 1 6)
