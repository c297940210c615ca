-- `plans::put_functions` meets its contract: each function leaves one less to type.
-- Assumes nothing.
use Rattle.std.proofs.Common.{ℕ, ◌+◌, ◌-◌, sym, ap, ◌∙◌, rules}
use Rattle.printing.specs.Page.{Page, typed}
use Rattle.plans.specs.Plain.{function_text, functions_text}
use Rattle.plans.proofs.Typing.{functions_on, functions_end}
use Rattle.plans.proofs.put_functions.Goals as goal

pub loop-function-preserved : goal.loop-function-preserved
loop-function-preserved c =
    let here = c.loop-function.page in
    let plan = c.args.plan in
    let end = c.args.end in
    let f = c.loop-function.function in
    let one = c.put_function.ensures ∙ ap (λ (set : ℕ). typed here (function_text f set)) c.set_at.ensures in
    ap (λ (p : Page). typed p (functions_text plan end (f + 1) (7 - (f + 1)))) one ∙ sym (functions_on here plan end f 7 (search rules)) ∙ c.loop-function.invariant

pub returns : goal.returns
returns c = sym (functions_end c.loop-function.page c.args.plan c.args.end c.loop-function.function 7 (search rules)) ∙ c.loop-function.invariant
