-- The call function octet of a JM: the part of one of two menus says the function that JM has.
-- Assumes nothing.
use Prim.Native.Nat.{ℕ, ◌<◌}
use mathlib.Core.Path.{◌≡◌, refl, sym, ap, ◌∙◌}
use mathlib.Core.Bool.{Bool, true, false}
use mathlib.Core.List.{List, [], ◌∷◌}
use borrow.Author.Tests.{eqb-true, eq-eqb}
use lib.ListN.{take, get_or}
use Rattle.laws.specs.Logic.{when, both}
use Rattle.laws.specs.Joined.{joined}
use Rattle.laws.proofs.Logic.{both_true, clash}
use Rattle.octets.specs.declared.Purpose.TheVariants.{Reading}
use Rattle.octets.specs.Octets.{call_function_tag, options, category_octet}
use Rattle.octets.specs.Lists.{opens, readable}
use Rattle.octets.proofs.Lists.{accepted_opens}
use Rattle.octets.proofs.Made.{made_again}
use Rattle.menus.specs.Groups.{options_in}
use Rattle.menus.specs.Offer.{offer_of}
use Rattle.records.specs.declared.Record.{Record}
use Rattle.records.specs.Record.{flag, in_use, bad_record}
use Rattle.offers.specs.declared.Source.TheVariants.{Heard, Own}
use Rattle.offers.specs.Offering.{cm_offer, jm_offer}
use Rattle.offers.specs.Making.{house_count, menu_of, source_of, first_octet_of, call_function}
use Rattle.offers.proofs.Meaning.{menu_readable, house_fits}

-- the first octet of a menu that can be read says its function
first_says : (heard_cm : List ℕ) → get_or heard_cm 0 0 < 256 → opens heard_cm ≡ true → take 1 heard_cm ≡ category_octet call_function_tag (options_in heard_cm) ∷ []
first_says [] h o = clash (sym o)
first_says (b ∷ bs) h o =
    let tests = both_true _ _ o in
    let octet : b ≡ category_octet call_function_tag (options b) = sym (made_again b h tests.0) ∙ ap (λ (t : ℕ). category_octet t (options b)) (eqb-true _ _ tests.1) in
    ap (λ (n : ℕ). n ∷ []) octet

module _ (own : Record) (heard_cm : List ℕ) (good : bad_record own ≡ false) (read : readable heard_cm ≡ true) (octet : get_or heard_cm 0 0 < 256) where
  abbrev home : List ℕ
  home = menu_of house_count (cm_offer own own.home)

  by_function : (t : Bool) → first_octet_of (when t Heard Own) heard_cm home ≡ category_octet call_function_tag (when t (options_in heard_cm) own.home) ∷ []
  unfolding when joined
  by_function true = first_says heard_cm octet (accepted_opens Reading heard_cm (eqb-true _ _ read))
  by_function false = refl

  pub call_octet : call_function own heard_cm (menu_of house_count (cm_offer own own.home)) ≡ category_octet call_function_tag (jm_offer own (offer_of heard_cm)).function ∷ []
  unfolding source_of when both
  call_octet = simp (good, read, eq-eqb _ _ (menu_readable house_count (cm_offer own own.home) (house_fits (cm_offer own own.home)))) (by_function (flag (in_use own (options_in heard_cm)).available))
