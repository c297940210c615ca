-- Document 01, 'Menus we make': CM, JM and the call function octet.
use Rattle.std.specs.Prelude.{ℕ, zero, suc, Bool, List, [], ◌∷◌, ◌++◌, ltb, length, take}
use Rattle.laws.specs.Logic.{when, both}
use Rattle.laws.specs.Joined.{joined}
use Rattle.refusals.specs.Refusals.{before}
use Rattle.refusals.specs.Lent.{WriteOutcome, room_fault, put}
use Rattle.octets.specs.declared.Purpose.TheVariants.{Reading}
use Rattle.octets.specs.Octets.{call_function_tag, category_octet}
use Rattle.octets.specs.Lists.{most_octets, list_fault, readable}
use Rattle.items.specs.Items.{modulation, modulation_octet}
use Rattle.menus.specs.declared.Offer.{Offer}
use Rattle.menus.specs.Groups.{group_of, options_in}
use Rattle.menus.specs.Offer.{pcm_tag, protocol, lapm_option, access, offer_of}
use Rattle.fields.specs.Blocks.{blocks_fault}
use Rattle.fields.specs.Field.{field_of}
use Rattle.records.specs.declared.Record.{Record}
use Rattle.records.specs.Record.{flag, in_use, bad_record}
use Rattle.offers.specs.declared.Source.{Source}
use Rattle.offers.specs.declared.Source.TheVariants.{Neither, Heard, Own}
use Rattle.offers.specs.Offering.{cm_offer, jm_offer}

-- a group of one octet, if it is there
abbrev pub one_octet : Bool → ℕ → List ℕ
one_octet there octet = when there (octet ∷ []) []

-- octets of a modulation group from one on, so many of them
unfoldable pub modulation_from : ℕ → ℕ → ℕ → List ℕ
modulation_from items octet zero = []
modulation_from items octet (suc more) = modulation_octet items octet ∷ modulation_from items (suc octet) more

-- a modulation group of so many octets; document 02, Req 03: "extra ones are 10 hex"
abbrev pub modulation_group : ℕ → ℕ → List ℕ
modulation_group count items = modulation_from items 0 count

-- "The modulation group has always three octets (house).": in CM, and in JM "With a mode in common"
abbrev pub house_count : ℕ
house_count = 3

-- "Group order is house: call function, modulation, PCM, protocol, access."
abbrev pub groups_of : ℕ → Offer → List (List ℕ)
groups_of count offer =
    (category_octet call_function_tag offer.function ∷ [])
    ∷ modulation_group count offer.items
    ∷ one_octet (ltb 0 offer.pcm) (category_octet pcm_tag offer.pcm)
    ∷ one_octet offer.lapm (category_octet protocol lapm_option)
    ∷ one_octet offer.access (category_octet access offer.access_options)
    ∷ []

-- the menu that says an offer, with so many octets in its modulation group
abbrev pub menu_of : ℕ → Offer → List ℕ
menu_of count offer = joined (groups_of count offer)

-- "the first octet of the heard CM, or of our own CM for the home function. With a bad record, or where reading either menu refuses, it is
-- the empty part and no number; our own CM's function isn't tested."
unfoldable pub source_of : Record → List ℕ → List ℕ → Source
source_of own heard_cm ownCm =
    when (bad_record own) Neither
    (when (both (readable heard_cm) (readable ownCm))
    (when (flag (in_use own (options_in heard_cm)).available) Heard Own)
    Neither)

-- the first octet of that menu, or the empty part
abbrev pub first_octet_of : Source → List ℕ → List ℕ → List ℕ
first_octet_of Neither heard_cm ownCm = []
first_octet_of Heard heard_cm ownCm = take 1 heard_cm
first_octet_of Own heard_cm ownCm = take 1 ownCm

-- "The call function octet is handed back as a part of one of two lent menus"
abbrev pub call_function : Record → List ℕ → List ℕ → List ℕ
call_function own heard_cm ownCm = first_octet_of (source_of own heard_cm ownCm) heard_cm ownCm

-- .. and it stands there: at the front of that menu, and the empty part at the front of the heard one
abbrev pub front_of : Source → ℕ × ℕ → ℕ × ℕ → ℕ × ℕ
front_of Neither heard_cm ownCm = heard_cm
front_of Heard heard_cm ownCm = heard_cm
front_of Own heard_cm ownCm = ownCm

-- 10, "bad record", or 0
abbrev pub record_fault : Record → ℕ
record_fault own = when (bad_record own) 10 0

-- 5, "a CM asked for a function not available (0 and from 7 up too)", or 0
abbrev pub function_fault : Record → ℕ → ℕ
function_fault own function = when (flag (in_use own function).available) 0 5

-- document 02, Req 02: "The field stands last in CM"; "With no blocks CM has no field."
abbrev pub with_field : Offer → List ℕ → List ℕ
with_field offer blocks = menu_of house_count offer ++ field_of blocks

-- "4 also for a CM that would pass 64 octets with the field", and "A JM that would pass 64 octets", or 0
abbrev pub size_fault : List ℕ → ℕ
size_fault menu = when (ltb most_octets (length menu)) 4 0

-- "in making a CM 10, 5, 4, 14, 6"
abbrev pub made_cm : Record → ℕ → List ℕ → List ℕ → WriteOutcome
made_cm own function blocks out =
    let menu = with_field (cm_offer own function) blocks in
    put (before (record_fault own) (before (function_fault own function) (before (size_fault menu) (before (blocks_fault blocks) (room_fault menu out))))) menu out

-- document 02, Req 03: "with no mode in common, or with another function, JM holds the same number of modulation octets as CM", "none if it had
-- none"; "With a mode in common it stays at three.": a mode is an item of JM from 1 to 12, so item 0 alone is none
abbrev pub modulation_count : Offer → List ℕ → ℕ
modulation_count jm heard_cm = when (ltb 1 jm.items) house_count (length (group_of heard_cm modulation))

-- the JM for a heard CM
abbrev pub jm_menu : Record → List ℕ → List ℕ
jm_menu own heard_cm = let jm = jm_offer own (offer_of heard_cm) in menu_of (modulation_count jm heard_cm) jm

-- "menus from records 10, then the heard CM's refusals or 5, then 6"; "A JM that would pass 64 octets is refused with 4, just before 6."; "JM never carries it"
abbrev pub made_jm : Record → List ℕ → List ℕ → WriteOutcome
made_jm own heard_cm out =
    let menu = jm_menu own heard_cm in
    put (before (record_fault own) (before (list_fault Reading heard_cm) (before (size_fault menu) (room_fault menu out)))) menu out
