-- Reading a menu, by whether its octets can be read: the answer and the octets tell the same; and that answers are known by what they say.
-- Assumes nothing.
use Prim.Native.Nat.{ℕ}
use mathlib.Core.Path.{◌≡◌, refl, sym, ap, ◌∙◌}
use mathlib.Core.List.{List}
use borrow.Author.Tests.{eq-eqb, ne_eqb, eqb-true}
use Rattle.laws.specs.Logic.{when}
use Rattle.laws.proofs.Logic.{either_way}
use Rattle.octets.specs.declared.Purpose.TheVariants.{Reading}
use Rattle.refusals.specs.declared.Refusal.{Refusal}
use Rattle.refusals.specs.Refusals.{number}
use Rattle.octets.specs.Lists.{list_fault}
use Rattle.refusals.proofs.Numbers.{named, named_number, number_some}
use Rattle.std.specs.Prelude.{Option, Some, None, Result, Ok, Err}
use Rattle.menus.specs.declared.Offer.{Offer}
use Rattle.menus.specs.Groups.{Looked, place, nowhere, says_found}
use Rattle.menus.specs.Groups as groups
use Rattle.menus.specs.Offer.{Read, offers, refusal, offer_of, says_read, menu_read}

module _ (octets : List ℕ) where
  pub menu_read_lem : list_fault Reading octets ≡ 0 → menu_read octets ≡ offers (offer_of octets)
  unfolding menu_read when
  menu_read_lem e = simp (eq-eqb _ _ e)

  pub menu_refused : (r : Refusal) → number r ≡ list_fault Reading octets → refusal (number r) ≡ menu_read octets
  unfolding menu_read when
  menu_refused r e = simp (ne_eqb (list_fault Reading octets) 0 (λ z. number_some r (e ∙ z))) (ap refusal e)

  -- and what an answer of the reader tells of its octets
  pub read_refused : (r : Refusal) → refusal (number r) ≡ menu_read octets → number r ≡ list_fault Reading octets
  unfolding menu_read
  read_refused r =
      either_way (λ (m : Read). refusal (number r) ≡ m → number r ≡ list_fault Reading octets) _ _ _
      (λ _ e. absurd (cc))
      (λ _ e. cc)

  pub read_offered : (offer : Offer) → offers offer ≡ menu_read octets → (list_fault Reading octets ≡ 0) × (offer ≡ offer_of octets)
  unfolding menu_read
  read_offered offer =
      either_way (λ (m : Read). offers offer ≡ m → (list_fault Reading octets ≡ 0) × (offer ≡ offer_of octets)) _ _ _
      (λ t e. (eqb-true _ _ t, cc))
      (λ _ e. absurd (cc))

-- no two answers say the same
abbrev finding : Looked → Result (Option ℕ) Refusal
finding (place n) = Ok (Some n)
finding nowhere = Ok None
finding (groups.refusal n) = Err (named n)

finding_says : (f : Result (Option ℕ) Refusal) → finding (says_found f) ≡ f
finding_says (Ok (Some n)) = refl
finding_says (Ok None) = refl
finding_says (Err r) = ap Err (named_number r)

pub says_found_injective : (f g : Result (Option ℕ) Refusal) → says_found f ≡ says_found g → f ≡ g
says_found_injective f g e = sym (finding_says f) ∙ ap finding e ∙ finding_says g

abbrev reading : Read → Result Offer Refusal
reading (offers o) = Ok o
reading (refusal n) = Err (named n)

reading_says : (m : Result Offer Refusal) → reading (says_read m) ≡ m
reading_says (Ok o) = refl
reading_says (Err r) = ap Err (named_number r)

pub says_read_injective : (m n : Result Offer Refusal) → says_read m ≡ says_read n → m ≡ n
says_read_injective m n e = sym (reading_says m) ∙ ap reading e ∙ reading_says n
