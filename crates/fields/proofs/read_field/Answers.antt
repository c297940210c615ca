-- `fields::read_field` meets its contract: what looking for the tag finds decides; where it finds a place, the group there is the first of the tag.
-- Assumes nothing.
use Rattle.std.proofs.Common.{◌≡◌, sym, ap, subst, ◌∙◌, ℕ, List, Option, Ok}
use Rattle.std.proofs.lemmas.Result.{err_from_is_err_and}
use Rattle.refusals.specs.Lent.{Meets}
use Rattle.menus.specs.Groups.{place, looked, says_found}
use Rattle.fields.specs.Field.{field_tag}
use Rattle.fields.specs.Inner.{group_read}
use Rattle.fields.proofs.Finding.{read_refused, read_nothing, read_found, group_some, group_short}
use Rattle.fields.proofs.read_field.Goals.{In-Some}
use Rattle.fields.proofs.read_field.Goals as goal

-- where a place is found
place_is : (found : In-Some) → place found.in-Some.place ≡ looked found.args.octets.now field_tag
place_is found = ap (λ (at : Option ℕ). says_found (Ok at)) (sym found.in-Some.is) ∙ found.in_ok-place.ensures

pub returns-in_err-place : goal.returns-in_err-place
returns-in_err-place c =
    let p = err_from_is_err_and c.from_residual.result c.from_residual.ensures.1 in
    rw (p.1, p.2) (read_refused c.args.octets.now c.args.out.now _ c.in_err-place.ensures)

pub read_group-requires : goal.read_group-requires
read_group-requires c =
    let octets = c.args.octets.now in
    let is = place_is (goal.at.read_group-requires c).In-Some in
    record { group_nonzero = rw c.part.ensures.result_value (group_some octets _ is); group_len_bound = rw c.part.ensures.result_value (group_short octets _ is) }

pub returns-in-Some : goal.returns-in-Some
returns-in-Some c =
    let args = c.args in
    read_found args.octets.now args.out.now _ (place_is (goal.at.returns-in-Some c).In-Some) _ _ (subst (λ (g : List ℕ). Meets (group_read g args.out.now) c.read_group.result c.read_group.new.out) c.part.ensures.result_value c.read_group.ensures)

pub returns-in-None : goal.returns-in-None
returns-in-None c =
    read_nothing c.args.octets.now c.args.out.now (ap (λ (at : Option ℕ). says_found (Ok at)) (sym c.in-None.is) ∙ c.in_ok-place.ensures)
