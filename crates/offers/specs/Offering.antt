-- Document 01, 'Menus we make': what CM and JM offer.
use Rattle.std.specs.Prelude.{ℕ, ◌+◌, ◌*◌, ◌/◌, ◌%◌, Bool, ltb, eqb}
use Rattle.std.specs.Int.Bits.{bit_and}
use Rattle.laws.specs.Logic.{when, both, either}
use Rattle.items.specs.Items.{in_set}
use Rattle.menus.specs.declared.Offer.{Offer}
use Rattle.menus.specs.Pcm.{paired}
use Rattle.records.specs.declared.Modes.{Modes}
use Rattle.records.specs.declared.Record.{Record}
use Rattle.records.specs.Record.{flag, in_use}

-- a test as a bit
abbrev pub bit : Bool → ℕ
bit t = when t 1 0

-- item 0 as it is told, and the other items of the set
abbrev pub with_item_0 : Bool → ℕ → ℕ
with_item_0 there items = items / 2 * 2 + bit there

-- options of an access group, 0 where there is none: b5 caller cellular, b6 answerer cellular, b7 digital network
abbrev pub access_options : Bool → ℕ → ℕ → ℕ → ℕ
access_options there caller answerer digital = when there (caller + 2 * answerer + 4 * digital) 0

-- "access if wanted or PCM is there"
abbrev pub cm_access : Record → ℕ → Bool
cm_access own pcm = either (flag own.access) (ltb 0 pcm)

-- "CM for an available function: its items; PCM if its options aren't 0, with item 0 then set; LAPM if wanted; access if wanted or PCM is
-- there, b5 cellular, b6 0, b7 digital.": for modes in use
abbrev pub cm_offer_of : Record → ℕ → Modes → Offer
cm_offer_of own function modes = record {
  function = function;
  items = with_item_0 (ltb 0 modes.pcm) modes.items;
  pcm = modes.pcm;
  lapm = flag own.lapm;
  access = cm_access own modes.pcm;
  access_options = access_options (cm_access own modes.pcm) (bit (flag own.cellular)) 0 (bit (flag own.digital));
}

-- for the modes that the function has in use
abbrev pub cm_offer : Record → ℕ → Offer
cm_offer own function = cm_offer_of own function (in_use own function)

-- b5 and b6 "both only when item 1 is shared"
abbrev pub with_item_1 : Bool → ℕ → ℕ
with_item_1 shared options = when shared options (options / 4 * 4)

-- "items in both"
abbrev pub shared_items : Modes → Offer → ℕ
shared_items modes cm = bit_and modes.items cm.items

-- the PCM options of a JM
abbrev pub jm_pcm : Modes → Offer → ℕ
jm_pcm modes cm = with_item_1 (in_set (shared_items modes cm) 1) (paired cm.pcm modes.pcm)

-- "Access if wanted, if their b5 is 1, or with PCM"
abbrev pub jm_access : Record → Offer → ℕ → Bool
jm_access own cm pcm = either (flag own.access) (either (eqb (cm.access_options % 2) 1) (ltb 0 pcm))

-- "Function available: the same function, items in both. .. PCM is there when one of these is 1; item 0 goes with it." "Function not available:
-- the home function, no items, no PCM. .. LAPM if theirs says so and ours wants it. .. b5 as theirs (0 if absent), b6 cellular, b7 digital."
abbrev pub jm_offer_of : Record → Offer → Modes → Offer
jm_offer_of own cm modes = record {
  function = when (flag modes.available) cm.function own.home;
  items = with_item_0 (ltb 0 (jm_pcm modes cm)) (shared_items modes cm);
  pcm = jm_pcm modes cm;
  lapm = both cm.lapm (flag own.lapm);
  access = jm_access own cm (jm_pcm modes cm);
  access_options = access_options (jm_access own cm (jm_pcm modes cm)) (cm.access_options % 2) (bit (flag own.cellular)) (bit (flag own.digital));
}

-- the modes of a function that is not available are none
abbrev pub jm_offer : Record → Offer → Offer
jm_offer own cm = jm_offer_of own cm (in_use own cm.function)

-- an offer with other items
abbrev pub with_items : Offer → ℕ → Offer
with_items offer items = record { function = offer.function; items = items; pcm = offer.pcm; lapm = offer.lapm; access = offer.access; access_options = offer.access_options }
