-- Document 01, 'Menus we make': the choice from CM and JM.
use Rattle.std.specs.Prelude.{ℕ, zero, suc, ◌+◌, Bool, List, Result, Ok, Err, ltb, eqb}
use Rattle.laws.specs.Logic.{when, both}
use Rattle.refusals.specs.declared.Refusal.{Refusal}
use Rattle.refusals.specs.declared.Refusal.TheVariants.{NotOffered}
use Rattle.refusals.specs.Refusals.{number}
use Rattle.menus.specs.declared.Offer.{Offer}
use Rattle.items.specs.Items.{in_set}
use Rattle.menus.specs.Offer.{Read, menu_read}
use Rattle.menus.specs.Offer as read
use Rattle.menus.specs.Pcm.{paired}
use Rattle.choices.specs.declared.Choice.{Choice}
use Rattle.choices.specs.declared.Choice.TheVariants.{Nothing, Mode, Pcm}

-- what a choice is: none, an item, PCM options, or a refusal's number
pub data Chosen : Type 0 where
  none : Chosen
  item : ℕ → Chosen
  pcm : ℕ → Chosen
  refusal : ℕ → Chosen

-- what an answer says on paper
abbrev pub says_choice : Result Choice Refusal → Chosen
says_choice (Ok Nothing) = none
says_choice (Ok (Mode i)) = item i.0
says_choice (Ok (Pcm options)) = pcm options
says_choice (Err r) = refusal (number r)

-- the lowest of n items from i on; 0 where there is none, since item 0 is not looked at
unfoldable pub lowest_from : ℕ → ℕ → ℕ → ℕ
lowest_from items i zero = 0
lowest_from items i (suc n) = when (in_set items i) i (lowest_from items (i + 1) n)

-- "the lowest item from 1 to 12"
abbrev pub lowest : ℕ → ℕ
lowest items = lowest_from items 1 12

-- "If the functions differ, .. or no option pairs, a choice other than none is refusal 11."
unfoldable pub pcm_choice : Bool → ℕ → Chosen
pcm_choice sameFunction options = when (both sameFunction (ltb 0 options)) (pcm options) (refusal (number NotOffered))

-- "otherwise none"; "If the functions differ, the item isn't in CM, .. a choice other than none is refusal 11."
unfoldable pub item_choice : Bool → ℕ → ℕ → Chosen
item_choice sameFunction offered i = when (eqb i 0) none (when (both sameFunction (in_set offered i)) (item i) (refusal (number NotOffered)))

-- "a counted PCM group in JM gives PCM; .. PCM carries the JM options that pair with CM (b5 with b6, b6 with b5, b7 with b7)";
-- "otherwise the lowest item from 1 to 12 in JM"
unfoldable pub chosen_from : Offer → Offer → Chosen
chosen_from cm jm =
    when (ltb 0 jm.pcm)
    (pcm_choice (eqb cm.function jm.function) (paired cm.pcm jm.pcm))
    (item_choice (eqb cm.function jm.function) cm.items (lowest jm.items))

-- a menu that cannot be read gives its refusal
abbrev pub on_read : Read → (Offer → Chosen) → Chosen
on_read (read.offers offer) go = go offer
on_read (read.refusal n) go = refusal n

abbrev pub choice_for : List ℕ → Offer → Chosen
choice_for jm cm = on_read (menu_read jm) (λ offer. chosen_from cm offer)

-- "the choice CM, JM, 11"
abbrev pub choice_of : List ℕ → List ℕ → Chosen
choice_of cm jm = on_read (menu_read cm) (λ offer. choice_for jm offer)
