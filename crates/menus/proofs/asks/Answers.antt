-- `menus::asks` meets its contract: whether the item is a mode decides, and then what is asked at its place.
-- Assumes nothing.
use Rattle.std.proofs.Common.{◌≡◌, sym, ap, ◌∙◌, arith, Some, None}
use Rattle.std.proofs.lemmas.Result.{err_from_is_err_and}
use Rattle.refusals.specs.declared.Refusal.TheVariants.{WrongEvent}
use Rattle.items.specs.declared.ItemPlace.{ItemPlace}
use Rattle.items.proofs.Places.{mode_there, mode_nowhere}
use Rattle.menus.specs.Inner.{asked_at}
use Rattle.menus.proofs.Asking.{asked_no_mode, asked_mode}
use Rattle.menus.proofs.asks.Goals as goal

pub returns-in_err-place : goal.returns-in_err-place
returns-in_err-place c =
    let args = c.args in
    let p = err_from_is_err_and c.from_residual.result c.from_residual.ensures.1 in
    let none : c.mode_place.result ≡ None = grind arith in
    let wrong : c.in_err-place.field-0.0 ≡ WrongEvent = grind arith in
    rw (p.1, p.2, wrong) (sym (asked_no_mode args.octets.now args.item.0 (mode_nowhere args.item.0 (sym c.mode_place.ensures ∙ none))))

pub returns : goal.returns
returns c =
    let args = c.args in
    let there : c.mode_place.result ≡ Some c.in_ok-place.place = grind arith in
    let mode = mode_there args.item.0 c.in_ok-place.place (sym c.mode_place.ensures ∙ there) in
    c.ask_at.ensures ∙ ap (λ (at : ItemPlace). asked_at at args.octets.now) (sym mode.1) ∙ sym (asked_mode args.item.0 mode.0 args.octets.now)
