-- Document 01, 'Octets of the menu': what looking and reading find, said of the octets themselves.
use Rattle.std.specs.Prelude.{ℕ, ◌+◌, ◌<◌, ◌≤◌, ◌≡◌, Bool, true, false, not, List, [], ◌∷◌, eqb, length, take, drop, get_or}
use Rattle.laws.specs.Tests.{every}
use Rattle.octets.specs.declared.Purpose.TheVariants.{Reading}
use Rattle.octets.specs.Octets.{b0, b1, b2, b5, b6, b7, category, tag, options}
use Rattle.octets.specs.Lists.{list_fault, group_ends}
use Rattle.items.specs.Items.{modulation, has_item}
use Rattle.menus.specs.Groups.{Looked, place, nowhere, refusal, looked, part_at}
use Rattle.menus.specs.Offer.{pcm_tag, protocol, access, offer_of}
use Rattle.demands.specs.Joint.{has}

-- a group with this tag begins at this place
pub record Begins (octets : List ℕ) (t p : ℕ) : Type 0 where
  pub there : p < length octets
  pub opens : category (get_or octets p 0) ≡ true
  pub tagged : tag (get_or octets p 0) ≡ t

-- "the place of its first group"
pub record FirstGroup (octets : List ℕ) (t p : ℕ) : Type 0 where
  pub begins : Begins octets t p
  pub first : (q : ℕ) → q < p → Begins octets t q → ⊥

-- "To look for a tag gives the place of its first group, or the answer that there is none"; "Looking refuses with 4, 5 and 3 as reading does"
abbrev pub Finds : List ℕ → ℕ → Looked → Type 0
Finds octets t (place p) = FirstGroup octets t p
Finds octets t nowhere = (q : ℕ) → Begins octets t q → ⊥
Finds octets t (refusal n) = (n ≡ list_fault Reading octets) × (n ≡ 0 → ⊥)

-- "that stretch of the lent message itself, up to the next octet with b4 = 0"
pub record PartOf (octets : List ℕ) (p : ℕ) (part : List ℕ) : Type 0 where
  pub some : 0 < length part
  pub stretch : part ≡ take (length part) (drop p octets)
  pub extensions : every (λ b. not (category b)) (drop 1 part) ≡ true
  pub ends : group_ends octets (p + length part) ≡ true

-- the menu reader, where the message can be read; "The first group of a tag counts."
pub record ReadsWhatIsFound (octets : List ℕ) : Type 0 where
  -- "b5 to b7 as a number, b5 lowest"
  pub function : (offer_of octets).function ≡ options (get_or octets 0 0)
  -- the items of the first modulation group, and none without one
  pub items : (p i : ℕ) → looked octets modulation ≡ place p → has octets i ≡ has_item (part_at octets p) i
  pub no_items : (i : ℕ) → i < 13 → looked octets modulation ≡ nowhere → has octets i ≡ false
  -- "A PCM group counts only where its options are not 0 and an access group stands too"
  pub pcm : (p q : ℕ) → looked octets pcm_tag ≡ place p → looked octets access ≡ place q → (offer_of octets).pcm ≡ options (get_or octets p 0)
  pub no_pcm : looked octets pcm_tag ≡ nowhere → (offer_of octets).pcm ≡ 0
  pub pcm_alone : looked octets access ≡ nowhere → (offer_of octets).pcm ≡ 0
  -- "1 is LAPM; others skipped"
  pub lapm : (p : ℕ) → looked octets protocol ≡ place p → (offer_of octets).lapm ≡ eqb (options (get_or octets p 0)) 1
  pub no_lapm : looked octets protocol ≡ nowhere → (offer_of octets).lapm ≡ false
  -- the access group, and its options
  pub with_access : (p : ℕ) → looked octets access ≡ place p → (offer_of octets).access ≡ true
  pub access_options : (p : ℕ) → looked octets access ≡ place p → (offer_of octets).access_options ≡ options (get_or octets p 0)
  pub no_access : looked octets access ≡ nowhere → (offer_of octets).access ≡ false
  pub no_options : looked octets access ≡ nowhere → (offer_of octets).access_options ≡ 0

-- "Items 0, 1, 2 are b5, b6, b7 of the modulation category octet. Items 3 to 7 are b0, b1, b2, b6, b7 of the first extension octet, items 8 to
-- 12 the same bits of the second."; a group that is shorter lacks the others
abbrev pub is_one : ℕ → Bool
is_one bit = eqb bit 1

abbrev pub item_bits : ℕ → ℕ → ℕ → List Bool
item_bits first second third =
    is_one (b5 first) ∷ is_one (b6 first) ∷ is_one (b7 first)
    ∷ is_one (b0 second) ∷ is_one (b1 second) ∷ is_one (b2 second) ∷ is_one (b6 second) ∷ is_one (b7 second)
    ∷ is_one (b0 third) ∷ is_one (b1 third) ∷ is_one (b2 third) ∷ is_one (b6 third) ∷ is_one (b7 third)
    ∷ []

-- item after item, 0 to 12
abbrev pub from_item_0 : (ℕ → Bool) → List Bool
from_item_0 f = f 0 ∷ f 1 ∷ f 2 ∷ f 3 ∷ f 4 ∷ f 5 ∷ f 6 ∷ f 7 ∷ f 8 ∷ f 9 ∷ f 10 ∷ f 11 ∷ f 12 ∷ []

pub record LooksAndReads : Type 0 where
  pub finds : (octets : List ℕ) (t : ℕ) → Finds octets t (looked octets t)
  pub part : (octets : List ℕ) (p : ℕ) → p < length octets → category (get_or octets p 0) ≡ true → PartOf octets p (part_at octets p)
  -- "a place that holds no category octet gives the empty part"
  pub no_part : (octets : List ℕ) (p : ℕ) → p < length octets → category (get_or octets p 0) ≡ false → part_at octets p ≡ []
  pub past_the_end : (octets : List ℕ) (p : ℕ) → length octets ≤ p → part_at octets p ≡ []
  pub reads : (octets : List ℕ) → list_fault Reading octets ≡ 0 → ReadsWhatIsFound octets
  pub items : (first second third : ℕ) (more : List ℕ) → from_item_0 (has_item (first ∷ second ∷ third ∷ more)) ≡ item_bits first second third
  pub shorter : (first second : ℕ) → from_item_0 (has_item (first ∷ second ∷ [])) ≡ item_bits first second 0
  pub shortest : (first : ℕ) → from_item_0 (has_item (first ∷ [])) ≡ item_bits first 0 0
