-- What document 01 answers without a refusal, though nothing is there: a pair without a row, a tag over 15, a heard function 0 or 7.
use Rattle.std.specs.Prelude.{ℕ, ◌<◌, ◌≡◌, true, not, List, ◌∷◌, length}
use Rattle.laws.specs.Tests.{every}
use Rattle.octets.specs.declared.Purpose.TheVariants.{Reading}
use Rattle.octets.specs.Octets.{call_function_tag, category_octet}
use Rattle.octets.specs.Lists.{list_fault, first_fault}
use Rattle.menus.specs.Groups.{nowhere, looked}
use Rattle.menus.specs.Offer.{offers, offer_of, menu_read}
use Rattle.records.specs.declared.Record.{Record}
use Rattle.records.specs.Record.{no_modes, in_use}
use Rattle.offers.specs.Making.{function_fault}
use Rattle.steps.specs.declared.Session.{Session}
use Rattle.steps.specs.Table.{rows}
use Rattle.steps.specs.Stepping.{same, elapsed, applies, stepped}
use Rattle.demands.specs.RefusalOrder.{first_of, step_faults}

pub record NothingThereIsNoRefusal : Type 0 where
  -- "Any other pair of a state and its own end's event changes nothing and is answered 'same'.": no row applies
  pub other_pair : (s : Session) (event value now : ℕ) → first_of (step_faults s event value now) ≡ 0
      → every (λ r. not (applies s event value (elapsed now s.entry) r)) rows ≡ true → stepped s event value now ≡ record { answer = same; session = s }
  -- "a tag over 15 is nowhere"
  pub high_tag : (octets : List ℕ) (t : ℕ) → list_fault Reading octets ≡ 0 → 15 < t → looked octets t ≡ nowhere
  -- "a heard function 0 or 7 is not refused", and no other
  pub heard_function : (function : ℕ) (others : List ℕ) → length others < 64 → first_fault Reading others ≡ 0
      → menu_read (category_octet call_function_tag function ∷ others) ≡ offers (offer_of (category_octet call_function_tag function ∷ others))
  -- "0 and 7 never available (house)": in no record of six functions, whatever is filled in
  pub function0 : (own : Record) → in_use own 0 ≡ no_modes
  pub function7 : (own : Record) (function : ℕ) → length own.functions ≡ 6 → 6 < function → in_use own function ≡ no_modes
  -- .. so "a CM asked for a function not available (0 and from 7 up too)" is refused with 5
  pub cm0 : (own : Record) → function_fault own 0 ≡ 5
  pub cm7 : (own : Record) (function : ℕ) → length own.functions ≡ 6 → 6 < function → function_fault own function ≡ 5
