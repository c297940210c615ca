-- `offers::answer_octet` meets its contract: our own CM for the home function is written and lent beside the heard one, and the one octet that is
-- handed back says the function of the JM.
-- Assumes nothing.
use native.Mathlib.Omega.{arith}
use Prim.Native.Nat.{ℕ, ◌≤◌}
use mathlib.Core.Path.{◌≡◌, ap, ◌∙◌}
use mathlib.Core.List.{List, [], ◌∷◌}
use lib.Dec.{lit<}
use lib.ListN.{length, take, get_or}
use lib.Seq.{take_at}
use Rattle.octets.specs.Octets.{call_function_tag, category_octet}
use Rattle.menus.specs.declared.Offer.{Offer}
use Rattle.menus.specs.Offer.{offer_of}
use Rattle.records.specs.declared.Record.{Record}
use Rattle.offers.specs.Offering.{cm_offer, jm_offer}
use Rattle.offers.specs.Making.{house_count, menu_of, call_function}
use Rattle.offers.proofs.Making.{menu_short}
use Rattle.offers.proofs.Answering.{call_octet}
use Rattle.offers.proofs.answer_octet.Goals.{After-call_function-part}
use Rattle.offers.proofs.answer_octet.Goals as goal

-- our own CM for the home function
own_menu : (own : Record) (count : ℕ) (offer : Offer) → count ≡ house_count → offer ≡ cm_offer own own.home → menu_of count offer ≡ menu_of house_count (cm_offer own own.home)
own_menu own count offer e1 e2 = ap (λ (n : ℕ). menu_of n offer) e1 ∙ ap (menu_of house_count) e2

own_short : (own : Record) (count : ℕ) (offer : Offer) → count ≡ house_count → offer ≡ cm_offer own own.home → length (menu_of count offer) ≤ 7
own_short own count offer e1 e2 = rw (own_menu own count offer e1 e2) (menu_short (cm_offer own own.home))

pub write-size-requires : goal.write-size-requires
write-size-requires c = own_short c.args.own _ _ c.cm_menu.ensures.count c.cm_menu.ensures.offer

-- the part handed back is one octet, which says the function of the JM
part_is : (asked : After-call_function-part) → asked.call_function-part.result.now ≡ category_octet call_function_tag (jm_offer asked.args.own (offer_of asked.args.heard_cm.now)).function ∷ []
part_is asked =
    let own = asked.args.own in
    let size = asked.write-size.result in
    let menu = menu_of asked.cm_menu.result.count asked.cm_menu.result.offer in
    let written : take size asked.write-size.new.out ≡ menu = ap (λ (l : List ℕ). take size l) asked.write-size.ensures.buffer ∙ take_at menu _ size (omega (arith, asked.write-size.ensures.count)) in
    asked.call_function-part.ensures.result_value
    ∙ ap (λ (l : List ℕ). call_function own asked.args.heard_cm.now l) (written ∙ own_menu own _ _ asked.cm_menu.ensures.count asked.cm_menu.ensures.offer)
    ∙ call_octet own asked.args.heard_cm.now asked.requires.own_value asked.requires.heard_cm_value (asked.type_inv.heard_cm 0).fits

pub bounds-part-0 : goal.bounds-part-0
bounds-part-0 c = rw (part_is (goal.at.bounds-part-0 c).After-call_function-part) (lit< tt)

pub returns : goal.returns
returns c = ap (λ (l : List ℕ). get_or l 0 0) (part_is (goal.at.returns c).After-call_function-part)
