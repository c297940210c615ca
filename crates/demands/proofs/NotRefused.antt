-- What is answered without a refusal, though nothing is there: the search of the table and of a menu ends with nothing, and no record has modes for
-- a function outside 1 to 6.
-- Assumes nothing.
use Prim.Native.Nat.{ℕ, ◌<◌, ◌+◌}
use native.Mathlib.Omega.{arith}
use mathlib.Core.Path.{◌≡◌, refl, ap, ◌∙◌}
use mathlib.Core.Bool.{false}
use mathlib.Core.List.{List, [], ◌∷◌}
use borrow.Author.Tests.{eqb-false, ltb-true, ne_eqb}
use lib.Dec.{lit<}
use lib.ListN.{length}
use Rattle.laws.specs.Logic.{when, both}
use Rattle.laws.proofs.Logic.{both_neither}
use Rattle.octets.specs.declared.Purpose.TheVariants.{Reading}
use Rattle.octets.specs.Octets.{category, tag, call_function_tag, category_octet}
use Rattle.octets.specs.Lists.{list_fault, first_fault}
use Rattle.octets.proofs.Fine.{accepted_by}
use Rattle.octets.proofs.Made.{category_there, tag_there}
use Rattle.menus.specs.Groups.{nowhere, opens_group, first_group, looked}
use Rattle.menus.specs.Offer.{offers, offer_of, menu_read}
use Rattle.records.specs.declared.Modes.{Modes}
use Rattle.records.specs.declared.Record.{Record}
use Rattle.records.specs.Record.{no_modes, flag, modes_at, in_use}
use Rattle.records.proofs.Functions.{modes_past}
use Rattle.steps.proofs.Refused.{no_row_is_same}
use Rattle.demands.specs.NotRefused.{NothingThereIsNoRefusal}
use Rattle.demands.proofs.RefusalOrder.{step_fine_lem}

-- a tag has four bits
opens_low : (t b : ℕ) → 15 < t → opens_group t b ≡ false
opens_low t b high = ap (both (category b)) (ne_eqb (tag b) t (λ e. omega (arith, high, e))) ∙ both_neither (category b)

none_found : (t i : ℕ) (octets : List ℕ) → 15 < t → first_group t i octets ≡ nowhere
unfolding first_group when
none_found t i [] high = refl
none_found t i (b ∷ octets) high = simp (opens_low t b high) (none_found t (i + 1) octets high)

high_tag_lem : (octets : List ℕ) (t : ℕ) → list_fault Reading octets ≡ 0 → 15 < t → looked octets t ≡ nowhere
unfolding looked when
high_tag_lem octets t fine high = simp fine (none_found t 0 octets high)

-- any call function is read
heard_function_lem : (function : ℕ) (others : List ℕ) → length others < 64 → first_fault Reading others ≡ 0
    → menu_read (category_octet call_function_tag function ∷ others) ≡ offers (offer_of (category_octet call_function_tag function ∷ others))
unfolding menu_read when
heard_function_lem function others few fine =
    let first = category_octet call_function_tag function in
    simp (accepted_by Reading first others (omega (arith, few)) (category_there call_function_tag function) (tag_there call_function_tag function (lit< tt)) fine)

-- no modes, so it is not available
fault_without : (modes : Modes) → modes ≡ no_modes → ◌≡◌ {A = ℕ} (when (flag modes.available) 0 5) 5
unfolding when
fault_without modes none = simp none

function_0 : (own : Record) → in_use own 0 ≡ no_modes
unfolding modes_at
function_0 own = refl

function_7 : (own : Record) (function : ℕ) → length own.functions ≡ 6 → 6 < function → in_use own function ≡ no_modes
function_7 own function six high = modes_past own.functions function (omega (arith, six, high))

pub nothing_there_is_no_refusal : NothingThereIsNoRefusal
nothing_there_is_no_refusal = record {
  other_pair = λ s event value now none no_row.
      let fine = step_fine_lem s event value now none in
      no_row_is_same s event value now fine.inside (eqb-false _ _ fine.going) fine.own (ltb-true _ _ fine.soon) no_row;
  high_tag = high_tag_lem;
  heard_function = heard_function_lem;
  function0 = function_0;
  function7 = function_7;
  cm0 = λ own. fault_without (in_use own 0) (function_0 own);
  cm7 = λ own function six high. fault_without (in_use own function) (function_7 own function six high);
}
