-- Document 02, Req 04: what comes out of a caller that is asked for bits, whatever events come between, and what comes out behind ANSam or ANS.
use Rattle.std.specs.Prelude.{ℕ, ◌+◌, ◌*◌, ◌-◌, ◌%◌, ◌<◌, ◌≤◌, min, ◌≡◌, List, [], ◌∷◌, ◌++◌, map, ◌⊎◌, ltb, eqb, length, replicate}
use Rattle.laws.specs.Logic.{when}
use Rattle.laws.specs.Joined.{joined}
use Rattle.octets.specs.declared.Kind.TheVariants.{Ci}
use Rattle.octets.specs.Octets.{call_function_tag, category_octet}
use Rattle.sequences.specs.Line.{sequence, copies}
use Rattle.cadence.specs.Cadence.{on_bits, period, silence, bits_from}
use Rattle.steps.specs.declared.Session.{Session}
use Rattle.steps.specs.Table.{calling, quiet, over, ansam, ans, tick}
use Rattle.steps.specs.Session.{answerer_from}
use Rattle.steps.specs.Stepping.{elapsed}
use Rattle.steps.specs.Runs.{Timed, Act, happens, asks, next, run, bits_of, given_out}

-- how many bits come in all where n came before: "At ANSam or ANS the sequence being sent is finished, and if fewer than three were sent since the
-- call began, the third is."
unfoldable pub ends_at : ℕ → ℕ → ℕ → ℕ
ends_at on off n =
    let within = n % period on off in
    when (ltb n 90) 90 (when (ltb within (on_bits on)) (n + (30 - within % 30) % 30) n)

-- "bits asked in turn": each time as many as are lent
abbrev pub in_turn : List (List ℕ) → List Act
in_turn outs = map asks outs

-- "ANSam or ANS"
abbrev pub IsTone : ℕ → Type 0
IsTone event = (event ≡ ansam) ⊎ (event ≡ ans)

-- a caller in calling that remembers none of them
pub record IsSending (s : Session) : Type 0 where
  pub sends : s.state ≡ calling
  pub none : s.cadence.tone ≡ 0

-- an event that is not refused for its time: "2^31 or more is refusal 8"
abbrev pub IsInTime : Session → Timed → Type 0
IsInTime s t = elapsed t.now s.entry < 2147483648

-- "Quiet begins, or the machine leaves"
abbrev pub changes_to : ℕ → ℕ
changes_to tone = when (eqb tone ansam) quiet over

-- a session in this state since this time
pub record Entered (at now : ℕ) (s : Session) : Type 0 where
  pub state : s.state ≡ at
  pub entry : s.entry ≡ now

-- what comes behind the first ANSam or ANS that is accepted in calling, where n bits came before it
pub record EndsBehind (s : Session) (on off n : ℕ) (before : List Act) (t : Timed) : Type 0 where
  -- whatever is done, no more come than finish the sequence; all of these come for bits asked in turn
  pub most : (acts : List Act) → length (given_out s (before ++ happens t ∷ acts)) ≤ ends_at on off n
  pub all : (outs : List (List ℕ)) → length (given_out s (before ++ happens t ∷ in_turn outs)) ≡ min (n + length (joined outs)) (ends_at on off n)
  -- these are 90 at most
  pub ninety : ends_at on off n ≤ n + 90
  -- "with that event if nothing is left to send"
  pub at_once : ends_at on off n ≡ n → Entered (changes_to t.event) t.now (run s (before ++ happens t ∷ []))
  -- "else with the first tick after the last such bit": with this, and with none before it
  pub with_tick : (outs : List (List ℕ)) (u : Timed) → let met = run s (before ++ happens t ∷ in_turn outs) in
      u.event ≡ tick → IsInTime met u → n < ends_at on off n → ends_at on off n ≤ n + length (joined outs) → Entered (changes_to t.event) u.now (next met (happens u)).session
  pub not_sooner : (outs : List (List ℕ)) (u : Timed) → let met = run s (before ++ happens t ∷ in_turn outs) in
      u.event ≡ tick → IsInTime met u → n + length (joined outs) < ends_at on off n → Entered calling (run s before).entry (next met (happens u)).session
  -- so 90 bits and a tick are enough
  pub leaves : (outs : List (List ℕ)) (u : Timed) → let met = run s (before ++ happens t ∷ in_turn outs) in
      u.event ≡ tick → IsInTime met u → 90 ≤ length (joined outs) → (next met (happens u)).session.state ≡ calling → ⊥
  -- "a later ANS or ANSam changes nothing"
  pub later : (acts : List Act) (u : Timed) → let met = run s (before ++ happens t ∷ acts) in IsTone u.event → (next met (happens u)).session ≡ met

-- the cadence itself, so many periods of it
pub record OnAndOff (function on off : ℕ) : Type 0 where
  -- "an on period of three to twenty whole CI sequences of 30 bits, an off period of 120 to 600 bits", one behind the other
  pub periods : (n : ℕ) → bits_from function on off 0 (n * (on * 30 + off)) ≡ copies n (copies on (sequence Ci (category_octet call_function_tag function ∷ [])) ++ replicate off silence)
  -- silence is no bit
  pub no_bit : 1 < silence

-- a caller that was started with this cadence
pub record OneCadence (function on off : ℕ) (s : Session) : Type 0 where
  -- "For any number of bits asked in turn, what comes out is the beginning of that one cadence."
  pub beginning : (acts : List Act) → given_out s acts ≡ bits_from function on off 0 (length (given_out s acts))
  -- "Calling now gives out a cadence": as many bits as are asked for, until ANSam or ANS, and none in another state
  pub as_asked : (acts : List Act) (out : List ℕ) → IsSending (run s acts) → length (bits_of (run s acts) (asks out)) ≡ length out
  pub elsewhere : (acts : List Act) (out : List ℕ) → ((run s acts).state ≡ calling → ⊥) → bits_of (run s acts) (asks out) ≡ []
  -- "At ANSam or ANS"
  pub ends : (before : List Act) (t : Timed) → IsSending (run s before) → IsTone t.event → IsInTime (run s before) t → EndsBehind s on off (length (given_out s before)) before t

-- "Calling now gives out a cadence", which is the caller's: an answerer gives out nothing, whatever happens and is asked for
abbrev pub AnswererIsSilent : Type 0
AnswererIsSilent = (start : ℕ) (acts : List Act) → given_out (answerer_from start) acts ≡ []
