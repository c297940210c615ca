-- Calls that happen: records, events and bits that are asked for that meet all that the whole call assumes, so that it speaks of something. The records are those of
-- document 01, 'Worked values'.
use Rattle.std.specs.Prelude.{ℕ, ◌≡◌, true, false, List, [], ◌∷◌, replicate}
use Rattle.fields.specs.Blocks.{blocks_fault}
use Rattle.records.specs.declared.Record.{Record}
use Rattle.cadence.specs.Cadence.{is_cadence}
use Rattle.cadence.specs.Giving.{begun}
use Rattle.steps.specs.declared.Session.{Session}
use Rattle.steps.specs.Table.{ansam, agreed_jm, cj_sent, agreed_cm, sig_c, cj, tick}
use Rattle.steps.specs.Session.{is_te, caller_from, answerer_from}
use Rattle.steps.specs.Runs.{Act, happens, asks}
use Rattle.demands.specs.Worked.{for_data}
use Rattle.demands.specs.Joint.{cm_of, jm_of}
use Rattle.demands.specs.OneChoice.{Call, caller_names}
use Rattle.demands.specs.WholeCall.{carried, Due, InOrder, caller_order, EndsJoint, answerer_order}
use Rattle.demands.specs.AnyEvents.{Carrying}

-- a call for data, with these octets of blocks, both ends from time 0 on, Te 500, and CI for three sequences on and 120 bits off: what
-- `both_ends_end_with_the_named_choice` assumes
abbrev pub starts : Session
starts = caller_from 0 500 (begun 6 3 120)

pub record Happens (choice : ℕ) (caller answerer : Record) (blocks : List ℕ) (last : Due) (callerActs answererActs : List Act) : Type 0 where
  pub call : Call caller answerer 6 blocks
  pub sent : blocks_fault blocks ≡ 0
  pub named : carried (caller_names caller 6 blocks (jm_of answerer (cm_of caller 6 blocks))) ≡ choice
  pub te : is_te 500 ≡ true
  pub cadence : is_cadence 3 120 ≡ true
  pub calling : InOrder starts (caller_order 500 choice) callerActs
  pub closing : EndsJoint choice last
  pub answering : InOrder (answerer_from 0) (answerer_order last choice) answererActs
  -- and what `no_end_goes_on_otherwise` assumes
  pub caller_carries : Carrying choice starts callerActs
  pub answerer_carries : Carrying choice (answerer_from 0) answererActs

abbrev at : ℕ → ℕ → ℕ → Act
at now event value = happens (record { event = event; value = value; now = now })

abbrev asks_for : ℕ → Act
asks_for n = asks (replicate n 0)

-- the caller's events: a tick that comes early, ANSam in the second sequence and heard again, a tick before the third is sent, and one behind it
abbrev pub caller_has : ℕ → List Act
caller_has choice =
    at 500 tick 0 ∷ at 1000 tick 0 ∷ asks_for 31 ∷ at 1100 ansam 0 ∷ at 1150 ansam 0 ∷ asks_for 30 ∷ at 1200 tick 0 ∷ asks_for 40 ∷ at 1300 tick 0
    ∷ at 1800 tick 0 ∷ at 2500 agreed_jm choice ∷ at 2600 cj_sent 0 ∷ at 2674 tick 0 ∷ at 2675 tick 0 ∷ []

-- the same where ANSam comes in silence, and nothing is left to send
abbrev pub caller_has_silence : ℕ → List Act
caller_has_silence choice =
    at 1000 tick 0 ∷ asks_for 100 ∷ at 1400 ansam 0 ∷ asks_for 10 ∷ at 1900 tick 0 ∷ at 2500 agreed_jm choice ∷ at 2600 cj_sent 0 ∷ at 2675 tick 0 ∷ []

-- the answerer's, with CM agreed again, and what ends joint
abbrev pub answerer_has : ℕ → ℕ → ℕ → List Act
answerer_has choice event value = at 199 tick 0 ∷ at 200 tick 0 ∷ at 2000 agreed_cm choice ∷ at 2100 agreed_cm choice ∷ at 2600 event value ∷ at 2675 tick 0 ∷ []

abbrev lastly : ℕ → ℕ → Due
lastly event value = record { event = event; value = value; least = 0; sent = false }

pub record CallsHappen : Type 0 where
  -- "Record A, data: items 1, 3, 4, 12, LAPM."; "answerer with items 3, 4, 8, no LAPM: .. choice item 3."
  pub goes_on : Happens 3 (for_data (1 ∷ 3 ∷ 4 ∷ 12 ∷ []) 0 1 0) (for_data (3 ∷ 4 ∷ 8 ∷ []) 0 0 0) [] (lastly cj 0) (caller_has 3) (answerer_has 3 cj 0)
  -- the same with a block in CM: its country code B5, an empty provider code, and 31 2E 34 as the rest
  pub with_blocks : Happens 3 (for_data (1 ∷ 3 ∷ 4 ∷ 12 ∷ []) 0 1 0) (for_data (3 ∷ 4 ∷ 8 ∷ []) 0 0 0) (5 ∷ 0xB5 ∷ 0 ∷ 0x31 ∷ 0x2E ∷ 0x34 ∷ []) (lastly cj 0) (caller_has 3) (answerer_has 3 cj 0)
  -- where ANSam comes in the off period
  pub in_silence : Happens 3 (for_data (1 ∷ 3 ∷ 4 ∷ 12 ∷ []) 0 1 0) (for_data (3 ∷ 4 ∷ 8 ∷ []) 0 0 0) [] (lastly cj 0) (caller_has_silence 3) (answerer_has 3 cj 0)
  -- without one, where "sigC of the chosen item" comes for CJ
  pub by_sig_c : Happens 3 (for_data (1 ∷ 3 ∷ 4 ∷ 12 ∷ []) 0 1 0) (for_data (3 ∷ 4 ∷ 8 ∷ []) 0 0 0) [] (lastly sig_c 3) (caller_has 3) (answerer_has 3 sig_c 3)
  -- "caller with item 1, analogue PCM"; "Answerer with items 1, 3, digital PCM, digital line: .. choice PCM, b6."
  pub by_pcm : Happens 18 (for_data (1 ∷ []) 1 0 0) (for_data (1 ∷ 3 ∷ []) 2 0 1) [] (lastly cj 0) (caller_has 18) (answerer_has 18 cj 0)
  -- "answerer with item 5 only: .. choice none."
  pub clears : Happens 0 (for_data (1 ∷ 3 ∷ 4 ∷ 12 ∷ []) 0 1 0) (for_data (5 ∷ []) 0 0 0) [] (lastly cj 0) (caller_has 0) (answerer_has 0 cj 0)
