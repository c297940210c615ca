-- `menus::part` meets its contract: whether the place is in the message decides, then whether a category octet stands there.
-- Assumes nothing.
use mathlib.Core.Path.{◌≡◌, sym, ◌∙◌}
use mathlib.Core.List.{[]}
use Rattle.std.proofs.Common.{ℕ, ◌+◌, ap, drop}
use Rattle.std.proofs.lemmas.List.{take_rest}
use Rattle.octets.specs.Lists.{until_category}
use Rattle.menus.proofs.Looking.{part_here, part_not, part_past, start_here, start_none, stands_onward}
use Rattle.menus.specs.Groups.{part_at}
use borrow.Author.Rules.{rules}
use Rattle.menus.proofs.part.Goals.{else-place-octets-via-then-place-octets+else-is_category, else-place-octets-via-else-place-octets}
use Rattle.menus.proofs.part.Goals as goal

pub returns-then-is_category : goal.returns-then-is_category
returns-then-is_category c =
    let args = c.args in
    let is-category = sym c.is_category.ensures ∙ c.if-is_category.true in
    let behind = take_rest args.octets.now (args.place + 1) in
    let counts : c.extensions_in.result ≡ until_category (drop (args.place + 1) args.octets.now) = c.extensions_in.ensures.0 ∙ ap until_category behind in
    record { result_value = part_here args.octets.now args.place (search rules) is-category (args.place + 1 + c.extensions_in.result) (ap (λ (n : ℕ). args.place + 1 + n) counts); ref_ptr_value = stands_onward args.octets.ref_ptr args.place _ (start_here args.octets.now args.place (search rules) is-category) }

pub returns : goal.returns
returns c =
    let args = c.args in
    let none : part_at args.octets.now args.place ≡ [] =
    elim c.else-place-octets.branch [
      | else-place-octets-via-then-place-octets+else-is_category w ↦ part_not args.octets.now args.place w.if-place-octets.true (sym w.is_category.ensures ∙ w.if-is_category.false)
      | else-place-octets-via-else-place-octets w ↦ part_past args.octets.now args.place w.if-place-octets.false
    ] in
    record { result_value = sym none; ref_ptr_value = stands_onward args.octets.ref_ptr 0 _ (start_none args.octets.now args.place none) }
