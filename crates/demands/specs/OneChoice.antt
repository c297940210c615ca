-- Demand 2: "Where both menus arrive as they were sent, both ends name the same choice, and by it they clear exactly when no mode and no PCM
-- pairing is shared for that function."
use Rattle.std.specs.Prelude.{ℕ, ◌<◌, ◌≤◌, ◌*◌, ◌≡◌, true, false, List, length}
use Rattle.laws.specs.Logic.{both}
use Rattle.records.specs.declared.Record.{Record}
use Rattle.menus.specs.Offer.{offer_of}
use Rattle.menus.specs.Pcm.{v91, paired}
use Rattle.choices.specs.Choosing.{Chosen, none, item, pcm, refusal, choice_of}
use Rattle.demands.specs.Joint.{AcceptedRecord, cm_of, jm_of, is_available, has_for, pcm_for, NoModeInCommon}

-- "no mode and no PCM pairing is shared for that function": no item from 1 to 12, and no PCM option that pairs
pub record NothingShared (caller answerer : Record) (function : ℕ) : Type 0 where
  pub items : (i : ℕ) → 0 < i → i < 13 → both (has_for caller function i) (has_for answerer function i) ≡ false
  pub pcm : paired (pcm_for caller function) (pcm_for answerer function) ≡ 0

-- "otherwise the lowest item from 1 to 12": of those that both have, where no PCM option pairs
pub record LowestOfBoth (caller answerer : Record) (function i : ℕ) : Type 0 where
  pub unpaired : paired (pcm_for caller function) (pcm_for answerer function) ≡ 0
  pub low : 0 < i
  pub high : i < 13
  pub shared : both (has_for caller function i) (has_for answerer function i) ≡ true
  pub lowest : (lower : ℕ) → 0 < lower → lower < i → both (has_for caller function lower) (has_for answerer function lower) ≡ false

-- a call between two records that are accepted, for a function that the caller has, with octets of its own blocks in a CM that does not "pass 64
-- octets with the field"
pub record Call (caller answerer : Record) (function : ℕ) (blocks : List ℕ) : Type 0 where
  pub calling : AcceptedRecord caller
  pub answering : AcceptedRecord answerer
  pub available : is_available caller function ≡ true
  pub fits : length (cm_of caller function blocks) ≤ 64

-- what the caller names: from the CM it sent and the JM it heard
abbrev pub caller_names : Record → ℕ → List ℕ → List ℕ → Chosen
caller_names caller function blocks heard_jm = choice_of (cm_of caller function blocks) heard_jm

-- what the answerer names: from the CM it heard and the JM it sent for that
abbrev pub answerer_names : Record → List ℕ → Chosen
answerer_names answerer heard_cm = choice_of heard_cm (jm_of answerer heard_cm)

-- for menus that were heard
pub record BothNameOneChoice (caller answerer : Record) (function : ℕ) (blocks heard_cm heard_jm : List ℕ) : Type 0 where
  -- "both ends name the same choice"
  pub same : caller_names caller function blocks heard_jm ≡ answerer_names answerer heard_cm
  -- it is no refusal
  pub offered : (n : ℕ) → caller_names caller function blocks heard_jm ≡ refusal n → ⊥
  -- "they clear exactly when no mode and no PCM pairing is shared"
  pub clears : caller_names caller function blocks heard_jm ≡ none → NothingShared caller answerer function
  pub cleared : NothingShared caller answerer function → caller_names caller function blocks heard_jm ≡ none
  -- otherwise it is what both records have
  pub as_item : (i : ℕ) → caller_names caller function blocks heard_jm ≡ item i → LowestOfBoth caller answerer function i
  pub as_pcm : (options : ℕ) → caller_names caller function blocks heard_jm ≡ pcm options → options ≡ paired (pcm_for caller function) (pcm_for answerer function)

-- nothing for a JM, from our record and a CM that another maker's modem sent. PCM b5 and b6 go in "only when item 1 is shared", so where no
-- item is, "b7 if both have V.91" is left
pub record NothingInBoth (answerer : Record) (heard_cm : List ℕ) : Type 0 where
  pub items : NoModeInCommon answerer heard_cm
  pub b7 : v91 (pcm_for answerer (offer_of heard_cm).function) * v91 (offer_of heard_cm).pcm ≡ 0

-- for any CM that can be read, whoever sent it, and a JM that does not "pass 64 octets". What our JM then holds is `HoldsWhatBothHave`
pub record AnswersAnyCm (answerer : Record) (heard_cm : List ℕ) : Type 0 where
  -- our JM is never one from which the choice is refused
  pub offered : (n : ℕ) → answerer_names answerer heard_cm ≡ refusal n → ⊥
  -- and it leaves no choice exactly where there is nothing for it
  pub clears : answerer_names answerer heard_cm ≡ none → NothingInBoth answerer heard_cm
  pub cleared : NothingInBoth answerer heard_cm → answerer_names answerer heard_cm ≡ none
