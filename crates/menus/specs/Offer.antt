-- Document 01, 'Octets of the menu': what a menu offers.
use Rattle.std.specs.Prelude.{ℕ, Bool, List, ltb, eqb, length, Result, Ok, Err}
use Rattle.laws.specs.Logic.{when}
use Rattle.octets.specs.declared.Purpose.TheVariants.{Reading}
use Rattle.refusals.specs.Refusals.{number}
use Rattle.octets.specs.Lists.{list_fault}
use Rattle.menus.specs.declared.Offer.{Offer}
use Rattle.refusals.specs.declared.Refusal.{Refusal}
use Rattle.items.specs.Items.{items_of, modulation}
use Rattle.menus.specs.Groups.{group_of, options_in}

-- the table of tags, beside the call function's and the modulation group's
abbrev pub pcm_tag : ℕ
pcm_tag = 7

abbrev pub protocol : ℕ
protocol = 10

abbrev pub access : ℕ
access = 13

-- "1 is LAPM"
abbrev pub lapm_option : ℕ
lapm_option = 1

-- the group stands in the menu
abbrev pub stands : List ℕ → Bool
stands group = ltb 0 (length group)

-- "A PCM group counts only where its options are not 0 and an access group stands too"
abbrev pub pcm_counted : List ℕ → List ℕ → ℕ
pcm_counted accessGroup pcmGroup = when (stands accessGroup) (options_in pcmGroup) 0

-- function, items with item 0, PCM as far as it counts, LAPM, access
abbrev pub offer_of : List ℕ → Offer
offer_of octets = record {
  function = options_in octets;
  items = items_of (group_of octets modulation);
  pcm = pcm_counted (group_of octets access) (group_of octets pcm_tag);
  lapm = eqb (options_in (group_of octets protocol)) lapm_option;
  access = stands (group_of octets access);
  access_options = options_in (group_of octets access);
}

-- what reading gives: what is offered, or a refusal's number
pub data Read : Type 0 where
  offers : Offer → Read
  refusal : ℕ → Read

-- what an answer says on paper
abbrev pub says_read : Result Offer Refusal → Read
says_read (Ok o) = offers o
says_read (Err r) = refusal (number r)

-- "Looking refuses with 4, 5 and 3 as reading does"
unfoldable pub menu_read : List ℕ → Read
menu_read octets = when (eqb (list_fault Reading octets) 0) (offers (offer_of octets)) (refusal (list_fault Reading octets))
