-- The customer's incident: an octet that V.8 does not define was taken for a modulation octet. "Tags not in the table, 15 too, are skipped
-- with their extension octets, as are extension octets past those defined."
use Rattle.std.specs.Prelude.{ℕ, ◌+◌, ◌<◌, ◌≤◌, ◌≡◌, Bool, true, not, List, [], ◌∷◌, ◌++◌, ◌⊎◌, eqb, length, take, replicate}
use Rattle.laws.specs.Logic.{both}
use Rattle.laws.specs.Tests.{every}
use Rattle.octets.specs.Octets.{category, tag, extension}
use Rattle.octets.specs.Lists.{group_ends}
use Rattle.items.specs.Items.{modulation}
use Rattle.menus.specs.Groups.{group_of}
use Rattle.menus.specs.Offer.{pcm_tag, protocol, access, offer_of, menu_read}
use Rattle.records.specs.declared.Record.{Record}
use Rattle.offers.specs.Making.{made_jm}
use Rattle.choices.specs.Choosing.{choice_of}
use Rattle.demands.specs.Joint.{jm_of, has, has_for, NoModeInCommon}

-- a tag outside the table
abbrev pub unknown_tag : ℕ → Bool
unknown_tag t = every (λ known. not (eqb t known)) (1 ∷ modulation ∷ pcm_tag ∷ protocol ∷ access ∷ [])

-- a category octet with extension octets
pub record IsGroup (octet : ℕ) (extensions : List ℕ) : Type 0 where
  pub opens : category octet ≡ true
  pub extends : every extension extensions ≡ true

-- what V.8 does not define, put into a menu: a group with a tag outside the table
pub record UnknownGroup (menu longer : List ℕ) : Type 0 where
  pub front : List ℕ
  pub rest : List ℕ
  pub octet : ℕ
  pub extensions : List ℕ
  pub behind : 0 < length front
  pub ends : group_ends rest 0 ≡ true
  pub is : IsGroup octet extensions
  pub unknown : unknown_tag (tag octet) ≡ true
  pub was : menu ≡ front ++ rest
  pub becomes : longer ≡ front ++ ((octet ∷ extensions) ++ rest)

-- or extension octets past those defined, of which the modulation group has two and no other group any
pub record Surplus (menu longer : List ℕ) : Type 0 where
  pub front : List ℕ
  pub rest : List ℕ
  pub octet : ℕ
  pub extensions : List ℕ
  pub more : List ℕ
  pub ends : group_ends rest 0 ≡ true
  pub is : IsGroup octet extensions
  pub extend : every extension more ≡ true
  pub past : tag octet ≡ modulation → 2 ≤ length extensions
  pub was : menu ≡ front ++ ((octet ∷ extensions) ++ rest)
  pub becomes : longer ≡ front ++ ((octet ∷ (extensions ++ more)) ++ rest)

-- it changes nothing that the reader says, and no choice
pub record ChangesNoReading (menu longer : List ℕ) : Type 0 where
  pub read : menu_read longer ≡ menu_read menu
  pub asked : (jm : List ℕ) → choice_of longer jm ≡ choice_of menu jm
  pub answered : (cm : List ℕ) → choice_of cm longer ≡ choice_of cm menu

-- nor a JM
pub record ChangesNothing (menu longer : List ℕ) : Type 0 where
  pub reading : ChangesNoReading menu longer
  pub jm : (own : Record) (out : List ℕ) → made_jm own longer out ≡ made_jm own menu out

-- a JM with so many octets of 10 hex more behind its modulation group, and else the same
pub record LongerBy (more : ℕ) (jm longer : List ℕ) : Type 0 where
  pub behind : List ℕ
  pub was : jm ≡ (take 1 jm ++ group_of jm modulation) ++ behind
  pub becomes : longer ≡ (take 1 jm ++ group_of jm modulation) ++ (replicate more 0x10 ++ behind)

-- document 02, Req 03: "JM holds the same number of modulation octets as CM", so of a JM the count may change, and whether it passes 64 octets
pub record ChangesOnlyTheCount (menu longer : List ℕ) (surplus : Surplus menu longer) : Type 0 where
  pub reading : ChangesNoReading menu longer
  -- the first modulation group has so many octets more: all that were put in, or none, and none where they were put into a group of another tag
  pub more : ℕ
  pub counted : length (group_of longer modulation) ≡ length (group_of menu modulation) + more
  pub all : (more ≡ length surplus.more) ⊎ (more ≡ 0)
  pub elsewhere : (tag surplus.octet ≡ modulation → ⊥) → more ≡ 0
  -- where they are none, and "With a mode in common", JM is the same
  pub same : (own : Record) (out : List ℕ) → more ≡ 0 → made_jm own longer out ≡ made_jm own menu out
  pub common : (own : Record) (out : List ℕ) (i : ℕ) → 0 < i → i < 13 → both (has_for own (offer_of menu).function i) (has menu i) ≡ true → made_jm own longer out ≡ made_jm own menu out
  -- otherwise it has as many more as were heard, "extra ones are 10 hex", and nothing else is another
  pub alone : (own : Record) → NoModeInCommon own menu → LongerBy more (jm_of own menu) (jm_of own longer)
