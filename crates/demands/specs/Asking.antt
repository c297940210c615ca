-- Document 02, Req 06: one mode, asked without the whole menu read, said of the octets themselves and of the full menu.
use Rattle.std.specs.Prelude.{ℕ, suc, ◌+◌, ◌<◌, ◌≤◌, ◌≡◌, true, false, List, [], ◌∷◌, length, take, get_or}
use Rattle.octets.specs.Octets.{bad}
use Rattle.octets.specs.Lists.{opens}
use Rattle.items.specs.Items.{place_of, in_set, modulation}
use Rattle.menus.specs.declared.Offer.{Offer}
use Rattle.menus.specs.Groups.{part_at}
use Rattle.menus.specs.Offer.{offers, menu_read}
use Rattle.menus.specs.Asking.{answer, refusal, asked}
use Rattle.steps.specs.Session.{between}
use Rattle.demands.specs.Looking.{FirstGroup}

-- "the octet that decides", by its place from 0: "in the first modulation group" the one that holds the item, "or .. the next category octet if
-- the group is short"
pub data Decides (octets : List ℕ) (item : ℕ) : ℕ → Type 0 where
  holder : (p : ℕ) → FirstGroup octets modulation p → (place_of item).octet < length (part_at octets p) → Decides octets item (p + (place_of item).octet)
  next : (p : ℕ) → FirstGroup octets modulation p → length (part_at octets p) ≤ (place_of item).octet → p + length (part_at octets p) < length octets
      → Decides octets item (p + length (part_at octets p))

-- the octet that ends the walk: the one that decides, a bad one, or a first one that is no call function
pub data Ends (octets : List ℕ) (item : ℕ) : ℕ → Type 0 where
  decides : (n : ℕ) → Decides octets item n → Ends octets item n
  spoils : (n : ℕ) → n < length octets → bad (get_or octets n 0) ≡ true → Ends octets item n
  opens_not : 0 < length octets → opens octets ≡ false → Ends octets item 0

pub record OneModeIsAskedQuickly : Type 0 where
  -- "The answer equals that of the full menu for every octet list of valid shape with a call function first. The number of octets looked at is
  -- given too and equals the place of the deciding octet, counted from 1,"
  pub full : (octets : List ℕ) (item n : ℕ) (offer : Offer) → between 1 12 item ≡ true → menu_read octets ≡ offers offer → Decides octets item n → asked octets item ≡ answer (in_set offer.items item) (n + 1)
  -- "or the list's length where nothing decides": then the full menu has no such item
  pub undecided : (octets : List ℕ) (item : ℕ) (offer : Offer) → between 1 12 item ≡ true → menu_read octets ≡ offers offer → ((n : ℕ) → Decides octets item n → ⊥) → asked octets item ≡ answer (in_set offer.items item) (length octets)
  pub missing : (octets : List ℕ) (item : ℕ) (offer : Offer) → between 1 12 item ≡ true → menu_read octets ≡ offers offer → ((n : ℕ) → Decides octets item n → ⊥) → in_set offer.items item ≡ false
  -- "without the whole menu read": lists that agree up to and with the octet that ends the walk have one answer, whatever stands behind it
  pub stops : (a b : List ℕ) (item n : ℕ) → length a ≤ 64 → length b ≤ 64 → Ends a item n → take (suc n) a ≡ take (suc n) b → asked a item ≡ asked b item
  -- "one before it or in its place is 3"
  pub bad : (octets : List ℕ) (item n : ℕ) → between 1 12 item ≡ true → length octets ≤ 64 → opens octets ≡ true → n < length octets → bad (get_or octets n 0) ≡ true
      → ((m : ℕ) → Decides octets item m → n ≤ m) → asked octets item ≡ refusal 3
  -- a second modulation octet decides too: item 3 is asked of C1 05 45
  pub second : asked (0xC1 ∷ 0x05 ∷ 0x45 ∷ []) 3 ≡ answer false 3
