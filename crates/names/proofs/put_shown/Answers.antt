-- `names::put_shown` meets its contract: a name that is shown is typed behind a blank, and any other is left out. On which page the next step
-- types is searched for and not named, so that a program that sets the place is judged by the place that it sets.
-- Assumes nothing.
use Rattle.std.proofs.Common.{[], ◌∷◌, sym, ap, rules, ◌+◌, drop, ◌∙◌}
use Rattle.printing.specs.Page.{Page, typed}
use Rattle.printing.proofs.Pages.{typed_then}
use Rattle.names.specs.Names.{names_of}
use Rattle.names.specs.Inner.{lent, entries}
use Rattle.names.proofs.Each.{shown_on, left_out, names_end}
use Rattle.names.proofs.put_shown.Goals.{then-shown, else-shown}
use Rattle.names.proofs.put_shown.Goals as goal

pub loop-name-preserved : goal.loop-name-preserved
loop-name-preserved c =
    let args = c.args in
    let i = c.loop-name.name-index in
    let onward = λ (p : Page). typed p (names_of args.kind args.set (entries lent (drop (i + 1) args.names.now))) in
    elim c.if-shown.branch [
      | then-shown w ↦
          ap onward (w.page-is ∙ typed_then c.loop-name.page (32 ∷ []) _ (search rules) w.put_text-then-shown.ensures)
          ∙ sym (shown_on lent args.names.now i (search rules) _ c.loop-name.page args.kind args.set (sym c.shown.ensures ∙ w.if-shown.true))
          ∙ c.loop-name.invariant
      | else-shown w ↦
          ap onward (w.page-is ∙ search rules)
          ∙ sym (left_out lent args.names.now i (search rules) _ c.loop-name.page args.kind args.set (sym c.shown.ensures ∙ w.if-shown.false))
          ∙ c.loop-name.invariant
    ]

pub returns : goal.returns
returns c = sym (names_end lent c.args.names.now c.loop-name.name-index (search rules) c.loop-name.page c.args.kind c.args.set) ∙ c.loop-name.invariant
