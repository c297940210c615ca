-- `records::bad` meets its contract: the home function decides, then the flags, then the functions.
-- Assumes nothing.
use Rattle.std.proofs.Common.{rules, tests, sym, ap, ◌∙◌}
use Rattle.std.proofs.lemmas.Iterator.{YieldsList-from_slice}
use Rattle.std.proofs.lemmas.Iterator.Search.{any_from_yields_List}
use borrow.Author.Tests.{ne_eqb}
use mathlib.Core.Bool.{not}
use Rattle.laws.proofs.Logic.{clash}
use Rattle.records.specs.Record.{bad_modes}
use Rattle.records.proofs.Functions.{any_listed, home_missing, flags_bad, functions_left}
use Rattle.records.proofs.bad.Goals.{then-home-ne1, else-home-ne1}
use Rattle.records.proofs.bad.Goals as goal

pub returns-then-bad_flags : goal.returns-then-bad_flags
returns-then-bad_flags c =
    let found = c.if-bad_flags.true in
    found ∙ (elim c.if-home-ne1.branch [
      | then-home-ne1 w ↦ sym (home_missing _ _ c.in_use-home.ensures w.if-home-ne1.true)
      | else-home-ne1 w ↦ sym (flags_bad _ _ c.in_use-home.ensures w.if-home-ne1.false (sym w.bad_flags.ensures ∙ sym w.value-is ∙ found))
    ])

pub returns-else-bad_flags : goal.returns-else-bad_flags
returns-else-bad_flags c =
    let functions = c.args.own.functions in
    let asked = any_from_yields_List bad_modes _ _ c.any.result c.any.ensures.ran (YieldsList-from_slice functions cc) (λ x b q k. search (rules, tests)) in
    elim c.if-home-ne1.branch [
      | then-home-ne1 w ↦ clash (sym (ap not (ne_eqb _ 1 w.if-home-ne1.true)) ∙ sym w.value-is ∙ c.if-bad_flags.false)
      | else-home-ne1 w ↦
          asked ∙ sym (any_listed functions) ∙ sym (functions_left _ _ c.in_use-home.ensures w.if-home-ne1.false (sym w.bad_flags.ensures ∙ sym w.value-is ∙ c.if-bad_flags.false))
    ]
