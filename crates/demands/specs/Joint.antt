-- Demand 2: "The joint menu holds exactly the modes that both ends have for the call function." And what is made reads back as it was meant.
use Rattle.std.specs.Prelude.{ℕ, zero, suc, ◌<◌, ◌*◌, ◌≡◌, Bool, false, List, ◌++◌, length, take, get_or, ltb}
use Rattle.laws.specs.Logic.{when, both, either}
use Rattle.octets.specs.declared.Kind.TheVariants.{Menu}
use Rattle.octets.specs.declared.Purpose.TheVariants.{Writing}
use Rattle.octets.specs.Lists.{list_fault}
use Rattle.menus.specs.declared.Offer.{Offer}
use Rattle.items.specs.Items.{in_set, has_item}
use Rattle.menus.specs.Groups.{group_of}
use Rattle.items.specs.Items.{modulation}
use Rattle.menus.specs.Offer.{pcm_tag, protocol, access, stands, offer_of, offers, menu_read}
use Rattle.fields.specs.Field.{field_tag}
use Rattle.records.specs.declared.Record.{Record}
use Rattle.records.specs.declared.Modes.{Modes}
use Rattle.records.specs.Record.{flag, no_modes, bad_record}
use Rattle.offers.specs.Offering.{bit, cm_access, cm_offer, jm_offer, with_items}
use Rattle.menus.specs.Pcm.{analogue, digital, v91}
use Rattle.offers.specs.Making.{with_field, jm_menu}

-- a record of six functions that is not "bad (10)"
pub record AcceptedRecord (own : Record) : Type 0 where
  pub six : length own.functions ≡ 6
  pub good : bad_record own ≡ false

-- the CM that a record makes for a function, with the octets of its own blocks: what `made_cm` writes
abbrev pub cm_of : Record → ℕ → List ℕ → List ℕ
cm_of own function blocks = with_field (cm_offer own function) blocks

-- the JM that a record makes for what it heard: what `made_jm` writes
abbrev pub jm_of : Record → List ℕ → List ℕ
jm_of own heard = jm_menu own heard

-- a menu has an item: its bit stands in the first modulation group
abbrev pub has : List ℕ → ℕ → Bool
has menu i = has_item (group_of menu modulation) i

-- "Group order is house: call function, modulation, PCM, protocol, access."; document 02, Req 02: "The field stands last in CM": the first octet, then the
-- first group of each of these tags, and nothing else
abbrev pub StandsInOrder : List ℕ → Type 0
StandsInOrder menu = menu ≡ take 1 menu ++ (group_of menu modulation ++ (group_of menu pcm_tag ++ (group_of menu protocol ++ (group_of menu access ++ group_of menu field_tag))))

-- how the menus that we make are put together
pub record MenusAreOfTheHouse : Type 0 where
  -- "The modulation group has always three octets (house).": in every CM; of a JM request 03 says how many it has
  pub three : (own : Record) (function : ℕ) (blocks : List ℕ) → length (group_of (cm_of own function blocks) modulation) ≡ 3
  pub cm : (own : Record) (function : ℕ) (blocks : List ℕ) → StandsInOrder (cm_of own function blocks)
  pub jm : (own : Record) (heard : List ℕ) → StandsInOrder (jm_of own heard)

-- what a record has filled in for a function; those of a record are counted from 1, and any other is never available
abbrev pub filled_in : Record → ℕ → Modes
filled_in own zero = no_modes
filled_in own (suc n) = get_or own.functions n no_modes

abbrev pub is_available : Record → ℕ → Bool
is_available own function = flag (filled_in own function).available

-- a record has an item for a function, and these PCM options: "one not available has no modes and no PCM, even where they are filled in"
abbrev pub has_for : Record → ℕ → ℕ → Bool
has_for own function i = both (is_available own function) (in_set (filled_in own function).items i)

abbrev pub pcm_for : Record → ℕ → ℕ
pcm_for own function = when (is_available own function) (filled_in own function).pcm 0

-- "no mode in common": no item from 1 to 12 that the record has for the heard function is in the heard menu
abbrev pub NoModeInCommon : Record → List ℕ → Type 0
NoModeInCommon own heard = (i : ℕ) → 0 < i → i < 13 → both (has_for own (offer_of heard).function i) (has heard i) ≡ false

-- what a JM says: what it offers, "and item 0 still goes with PCM if a group is there"
abbrev pub jm_says : Record → List ℕ → Offer
jm_says own heard = let jm = jm_offer own (offer_of heard) in with_items jm (when (stands (group_of (jm_of own heard) modulation)) jm.items 0)

-- "exactly the modes that both ends have for the call function": items 1 to 12, and the pairings of PCM
pub record HoldsWhatBothHave (own : Record) (heard : List ℕ) : Type 0 where
  -- "items in both"
  pub items : (i : ℕ) → 0 < i → i < 13 → has (jm_of own heard) i ≡ both (has_for own (offer_of heard).function i) (has heard i)
  -- "PCM b5 if ours is analogue and theirs digital, b6 if ours is digital and theirs analogue, both only when item 1 is shared"
  pub b5 : analogue (offer_of (jm_of own heard)).pcm ≡ bit (has (jm_of own heard) 1) * (analogue (pcm_for own (offer_of heard).function) * digital (offer_of heard).pcm)
  pub b6 : digital (offer_of (jm_of own heard)).pcm ≡ bit (has (jm_of own heard) 1) * (digital (pcm_for own (offer_of heard).function) * analogue (offer_of heard).pcm)
  -- "b7 if both have V.91"
  pub b7 : v91 (offer_of (jm_of own heard)).pcm ≡ v91 (pcm_for own (offer_of heard).function) * v91 (offer_of heard).pcm

-- the CM of a record, from what the record has
pub record SaysWhatTheRecordHas (own : Record) (function : ℕ) (cm : List ℕ) : Type 0 where
  pub named : (offer_of cm).function ≡ function
  -- "CM for an available function: its items"
  pub items : (i : ℕ) → 0 < i → i < 13 → has cm i ≡ has_for own function i
  -- "PCM if its options aren't 0, with item 0 then set"
  pub pcm : (offer_of cm).pcm ≡ pcm_for own function
  pub item0 : has cm 0 ≡ ltb 0 (pcm_for own function)
  -- "LAPM if wanted"
  pub lapm : (offer_of cm).lapm ≡ flag own.lapm
  -- "access if wanted or PCM is there, b5 cellular, b6 0, b7 digital"
  pub access : (offer_of cm).access ≡ either (flag own.access) (ltb 0 (pcm_for own function))
  pub access_b5 : in_set (offer_of cm).access_options 0 ≡ both (offer_of cm).access (flag own.cellular)
  pub access_b6 : in_set (offer_of cm).access_options 1 ≡ false
  pub access_b7 : in_set (offer_of cm).access_options 2 ≡ both (offer_of cm).access (flag own.digital)

-- "their b5 is 1": the caller is cellular, and its CM has an access group to say so
abbrev pub says_cellular : Record → ℕ → Bool
says_cellular caller function = both (cm_access caller (pcm_for caller function)) (flag caller.cellular)

-- the JM of an answerer for the CM of a caller, from what both records have
pub record HoldsWhatBothRecordsHave (caller answerer : Record) (function : ℕ) (jm : List ℕ) : Type 0 where
  -- "Function available: the same function", "Function not available: the home function"
  pub named : (offer_of jm).function ≡ when (is_available answerer function) function answerer.home
  -- "items in both"
  pub items : (i : ℕ) → 0 < i → i < 13 → has jm i ≡ both (has_for caller function i) (has_for answerer function i)
  -- "PCM b5 if ours is analogue and theirs digital, b6 if ours is digital and theirs analogue, both only when item 1 is shared"
  pub b5 : analogue (offer_of jm).pcm ≡ bit (both (has_for caller function 1) (has_for answerer function 1)) * (analogue (pcm_for answerer function) * digital (pcm_for caller function))
  pub b6 : digital (offer_of jm).pcm ≡ bit (both (has_for caller function 1) (has_for answerer function 1)) * (digital (pcm_for answerer function) * analogue (pcm_for caller function))
  -- "b7 if both have V.91"
  pub b7 : v91 (offer_of jm).pcm ≡ v91 (pcm_for answerer function) * v91 (pcm_for caller function)
  -- "PCM is there when one of these is 1; item 0 goes with it."
  pub item0 : has jm 0 ≡ ltb 0 (offer_of jm).pcm
  -- "LAPM if theirs says so and ours wants it."
  pub lapm : (offer_of jm).lapm ≡ both (flag caller.lapm) (flag answerer.lapm)
  -- "Access if wanted, if their b5 is 1, or with PCM: b5 as theirs (0 if absent), b6 cellular, b7 digital."
  pub access : (offer_of jm).access ≡ either (flag answerer.access) (either (says_cellular caller function) (ltb 0 (offer_of jm).pcm))
  pub access_b5 : in_set (offer_of jm).access_options 0 ≡ both (offer_of jm).access (says_cellular caller function)
  pub access_b6 : in_set (offer_of jm).access_options 1 ≡ both (offer_of jm).access (flag answerer.cellular)
  pub access_b7 : in_set (offer_of jm).access_options 2 ≡ both (offer_of jm).access (flag answerer.digital)

-- a menu that the writer accepts, and that is read as what was meant
pub record IsReadBack (menu : List ℕ) (meant : Offer) : Type 0 where
  pub written : list_fault (Writing Menu) menu ≡ 0
  pub read : menu_read menu ≡ offers meant
