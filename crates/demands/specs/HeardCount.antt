-- Document 02, Req 03: how many modulation octets a JM has, and that this changes nothing of what a JM settles.
use Rattle.std.specs.Prelude.{ℕ, zero, suc, ◌<◌, ◌≡◌, Bool, true, List, [], ◌∷◌, ◌++◌, ltb, length, take, drop, replicate}
use Rattle.laws.specs.Logic.{when, both}
use Rattle.items.specs.Items.{modulation}
use Rattle.menus.specs.Groups.{group_of}
use Rattle.menus.specs.Offer.{offer_of}
use Rattle.records.specs.declared.Record.{Record}
use Rattle.offers.specs.Offering.{jm_offer}
use Rattle.offers.specs.Making.{menu_of}
use Rattle.choices.specs.Choosing.{choice_of}
use Rattle.demands.specs.Joint.{jm_of, has, has_for, NoModeInCommon}
use Rattle.demands.specs.Worked.{Case, answers, for_data}

-- the JM of document 01 alone: "The modulation group has always three octets (house)."
abbrev pub jm_of_three : Record → List ℕ → List ℕ
jm_of_three own heard = menu_of 3 (jm_offer own (offer_of heard))

-- a modulation group of so many octets that says no mode: "none if it had none, extra ones are 10 hex, and item 0 still goes with PCM if a group is
-- there"
abbrev pub no_mode_group : ℕ → Bool → List ℕ
no_mode_group zero pcm = []
no_mode_group (suc more) pcm = when pcm 0x25 0x05 ∷ replicate more 0x10

pub record CountsAsHeard (own : Record) (heard : List ℕ) : Type 0 where
  -- "With a mode in common it stays at three.": JM is that of document 01
  pub common : (i : ℕ) → 0 < i → i < 13 → both (has_for own (offer_of heard).function i) (has heard i) ≡ true → jm_of own heard ≡ jm_of_three own heard
  pub three : (i : ℕ) → 0 < i → i < 13 → both (has_for own (offer_of heard).function i) (has heard i) ≡ true → length (group_of (jm_of own heard) modulation) ≡ 3
  -- "with no mode in common, or with another function, JM holds the same number of modulation octets as CM": those of its first modulation group
  pub alone : NoModeInCommon own heard → length (group_of (jm_of own heard) modulation) ≡ length (group_of heard modulation)
  pub another : ((offer_of (jm_of own heard)).function ≡ (offer_of heard).function → ⊥) → length (group_of (jm_of own heard) modulation) ≡ length (group_of heard modulation)
  -- and what JM is then, octet for octet: that of document 01 with this group in place of the three octets
  pub octets : NoModeInCommon own heard
      → jm_of own heard ≡ take 1 (jm_of_three own heard) ++ (no_mode_group (length (group_of heard modulation)) (ltb 0 (offer_of (jm_of own heard)).pcm) ++ drop 4 (jm_of_three own heard))

-- what is chosen, and what is said from which it is, does not go by the count
pub record ChoosesAsBefore (own : Record) (heard : List ℕ) : Type 0 where
  pub function : (offer_of (jm_of own heard)).function ≡ (offer_of (jm_of_three own heard)).function
  pub items : (i : ℕ) → 0 < i → i < 13 → has (jm_of own heard) i ≡ has (jm_of_three own heard) i
  pub pcm : (offer_of (jm_of own heard)).pcm ≡ (offer_of (jm_of_three own heard)).pcm
  -- from any CM: for the answerer the heard one, for the caller the one that it sent
  pub choice : (cm : List ℕ) → choice_of cm (jm_of own heard) ≡ choice_of cm (jm_of_three own heard)

-- the cases of which the request speaks, worked
abbrev pub worked_counts : List Case
worked_counts =
    -- "An older logger that sends a single modulation octet": V.34 alone, which an answerer with items 3 and 4 has not
    answers (for_data (3 ∷ 4 ∷ []) 0 0 0) (0xC1 ∷ 0x45 ∷ []) (0xC1 ∷ 0x05 ∷ [])
    -- "with another function": H.324, in place of which the home function is named
    ∷ answers (for_data (3 ∷ 4 ∷ []) 0 0 0) (0x21 ∷ 0x45 ∷ 0x10 ∷ []) (0xC1 ∷ 0x05 ∷ 0x10 ∷ [])
    -- "none if it had none"
    ∷ answers (for_data (3 ∷ 4 ∷ []) 0 0 0) (0xC1 ∷ []) (0xC1 ∷ [])
    -- "extra ones are 10 hex", whatever was heard there
    ∷ answers (for_data (4 ∷ []) 0 0 0) (0xC1 ∷ 0x45 ∷ 0x11 ∷ 0x90 ∷ 0xD7 ∷ 0x55 ∷ []) (0xC1 ∷ 0x05 ∷ 0x10 ∷ 0x10 ∷ 0x10 ∷ 0x10 ∷ [])
    -- "item 0 still goes with PCM if a group is there": V.91 in common, with a group of a single octet and without one
    ∷ answers (for_data (4 ∷ []) 4 0 0) (0xC1 ∷ 0x45 ∷ 0x87 ∷ 0x0D ∷ []) (0xC1 ∷ 0x25 ∷ 0x87 ∷ 0x0D ∷ [])
    ∷ answers (for_data (4 ∷ []) 4 0 0) (0xC1 ∷ 0x87 ∷ 0x0D ∷ []) (0xC1 ∷ 0x87 ∷ 0x0D ∷ [])
    -- "With a mode in common it stays at three."
    ∷ answers (for_data (1 ∷ []) 0 0 0) (0xC1 ∷ 0x45 ∷ []) (0xC1 ∷ 0x45 ∷ 0x10 ∷ 0x10 ∷ [])
    ∷ []
