-- Document 01, 'Menus we make': the choice from CM and JM, and 'Mistakes to shut out'. What a choice says of the two menus, so that no
-- other choice can be named for them.
use Rattle.std.specs.Prelude.{ℕ, ◌<◌, ◌*◌, ◌≡◌, true, false, List, ◌⊎◌}
use Rattle.refusals.specs.declared.Refusal.TheVariants.{NotOffered}
use Rattle.refusals.specs.Refusals.{number}
use Rattle.octets.specs.declared.Purpose.TheVariants.{Reading}
use Rattle.octets.specs.Lists.{list_fault}
use Rattle.menus.specs.Offer.{offer_of}
use Rattle.menus.specs.Pcm.{analogue, digital, v91, paired}
use Rattle.choices.specs.Choosing.{Chosen, none, item, pcm, refusal, choice_of}
use Rattle.demands.specs.Joint.{has}

-- both menus can be read
pub record Readable (cm jm : List ℕ) : Type 0 where
  pub asked : list_fault Reading cm ≡ 0
  pub answered : list_fault Reading jm ≡ 0

-- "otherwise the lowest item from 1 to 12 in JM", where no PCM group counts; never "Item 0 chosen as the best mode"
pub record LowestItem (jm : List ℕ) (i : ℕ) : Type 0 where
  pub uncounted : (offer_of jm).pcm ≡ 0
  pub low : 0 < i
  pub high : i < 13
  pub answered : has jm i ≡ true
  pub lowest : (lower : ℕ) → 0 < lower → lower < i → has jm lower ≡ false

-- "otherwise none": JM has no PCM group that counts, and no item
pub record NothingOffered (cm jm : List ℕ) : Type 0 where
  pub readable : Readable cm jm
  pub uncounted : (offer_of jm).pcm ≡ 0
  pub items : (i : ℕ) → 0 < i → i < 13 → has jm i ≡ false

-- that item, which CM has for the same function
pub record SharedItem (cm jm : List ℕ) (i : ℕ) : Type 0 where
  pub readable : Readable cm jm
  pub item : LowestItem jm i
  pub function : (offer_of cm).function ≡ (offer_of jm).function
  pub asked : has cm i ≡ true

-- "a counted PCM group in JM gives PCM"; "PCM carries the JM options that pair with CM (b5 with b6, b6 with b5, b7 with b7)", never
-- "PCM options joined like with like"
pub record SharedPcm (cm jm : List ℕ) (options : ℕ) : Type 0 where
  pub readable : Readable cm jm
  pub counted : 0 < (offer_of jm).pcm
  pub function : (offer_of cm).function ≡ (offer_of jm).function
  pub some : 0 < options
  pub high : options < 8
  pub b5 : analogue options ≡ analogue (offer_of jm).pcm * digital (offer_of cm).pcm
  pub b6 : digital options ≡ digital (offer_of jm).pcm * analogue (offer_of cm).pcm
  pub b7 : v91 options ≡ v91 (offer_of jm).pcm * v91 (offer_of cm).pcm

-- "the choice CM, JM, 11": that CM cannot be read comes first, then that JM cannot. "If the functions differ, the item isn't in CM, or no
-- option pairs, a choice other than none is refusal 11."
pub data NotShared (cm jm : List ℕ) : ℕ → Type 0 where
  cm_unread : (list_fault Reading cm ≡ 0 → ⊥) → NotShared cm jm (list_fault Reading cm)
  jm_unread : list_fault Reading cm ≡ 0 → (list_fault Reading jm ≡ 0 → ⊥) → NotShared cm jm (list_fault Reading jm)
  item_missing : (i : ℕ) → Readable cm jm → LowestItem jm i → ((offer_of cm).function ≡ (offer_of jm).function → ⊥) ⊎ (has cm i ≡ false) → NotShared cm jm (number NotOffered)
  none_pairs : Readable cm jm → 0 < (offer_of jm).pcm → ((offer_of cm).function ≡ (offer_of jm).function → ⊥) ⊎ (paired (offer_of cm).pcm (offer_of jm).pcm ≡ 0) → NotShared cm jm (number NotOffered)

abbrev pub Shared : List ℕ → List ℕ → Chosen → Type 0
Shared cm jm none = NothingOffered cm jm
Shared cm jm (item i) = SharedItem cm jm i
Shared cm jm (pcm options) = SharedPcm cm jm options
Shared cm jm (refusal n) = NotShared cm jm n

-- the choice is what these lay down, and nothing else is
pub record ChoiceIsShared (cm jm : List ℕ) : Type 0 where
  pub shared : Shared cm jm (choice_of cm jm)
  pub alone : (chosen : Chosen) → Shared cm jm chosen → choice_of cm jm ≡ chosen
