-- `offers::make_jm` meets its contract: the record decides, then the heard CM, then what is put; the offer is that of what was read, and its count
-- that of the heard CM.
-- Assumes nothing.
use Prim.Native.Nat.{ℕ}
use mathlib.Core.Path.{◌≡◌, sym, ap, ◌∙◌}
use Rattle.octets.specs.declared.Purpose.TheVariants.{Reading}
use Rattle.octets.specs.Lists.{list_fault}
use Rattle.refusals.proofs.Outcomes.{meets_accepted}
use Rattle.menus.specs.declared.Offer.{Offer}
use Rattle.menus.specs.Offer.{offer_of}
use Rattle.menus.proofs.Reading.{read_offered}
use Rattle.offers.specs.Offering.{jm_offer}
use Rattle.offers.specs.Making.{menu_of, modulation_count, jm_menu}
use Rattle.offers.proofs.Making.{good_record, no_field_put}
use Rattle.offers.proofs.make_jm.Goals.{After-jm_offer-offer, After-modulation_count}
use Rattle.offers.proofs.make_jm.Goals as goal

-- the heard menu was read, and the offer is that for it
theirs : (offered : After-jm_offer-offer) → (list_fault Reading offered.args.heard_cm.now ≡ 0) × (offered.in_ok-theirs.theirs ≡ offer_of offered.args.heard_cm.now)
theirs offered = read_offered offered.args.heard_cm.now _ offered.in_ok-theirs.ensures

made : (offered : After-jm_offer-offer) → offered.jm_offer-offer.result ≡ jm_offer offered.args.own (offer_of offered.args.heard_cm.now)
made offered = offered.jm_offer-offer.ensures ∙ ap (jm_offer offered.args.own) (theirs offered).1

-- the menu that is put is JM
put_is : (counted : After-modulation_count) → counted.jm_offer-offer.result ≡ jm_offer counted.args.own (offer_of counted.args.heard_cm.now) → menu_of counted.modulation_count.result counted.jm_offer-offer.result ≡ jm_menu counted.args.own counted.args.heard_cm.now
put_is counted said =
    let heard = counted.args.heard_cm.now in
    ap (λ (count : ℕ). menu_of count counted.jm_offer-offer.result) counted.modulation_count.ensures
    ∙ ap (λ (jm : Offer). menu_of (modulation_count jm heard) jm) said

pub returns : goal.returns
returns c =
    let menu = jm_menu c.args.own c.args.heard_cm.now in
    let heard = (goal.at.returns c).After-jm_offer-offer in
    meets_accepted menu c.args.out.now _ _ _ _ (good_record c.args.own (sym c.bad.ensures ∙ c.if-bad.false))
    (meets_accepted menu c.args.out.now _ _ _ _ (theirs heard).0
    (no_field_put _ menu c.args.out.now _ _ (put_is (goal.at.returns c).After-modulation_count (made heard)) c.put.ensures))
