-- What comes out is the beginning of one cadence: whatever is done, the session's cadence stands as many bits from its beginning as came out. So
-- what is left at ANSam or ANS goes by how many came, and every bit that comes behind it leaves one less.
-- Assumes nothing.
use Prim.Native.Nat.{ℕ, ◌+◌, ◌<◌, ◌≤◌}
use native.Mathlib.Omega.{arith}
use mathlib.Core.Path.{◌≡◌, refl, sym, ap, ◌∙◌, ap₂}
use mathlib.Core.Bool.{true}
use mathlib.Core.List.{List, [], ◌∷◌, ◌++◌}
use mathlib.Core.Logic.{◌⊎◌, inl, inr, ⊎_elim}
use lib.ListN.{length, length-append}
use Rattle.laws.specs.Logic.{when}
use Rattle.laws.specs.Joined.{joined}
use Rattle.cadence.specs.declared.Cadence.{Cadence}
use Rattle.cadence.specs.Cadence.{is_function, is_cadence}
use Rattle.cadence.specs.Giving.{begun, left}
use Rattle.cadence.proofs.Ranges.{function_small, cadence_lasts}
use Rattle.cadence.proofs.Left.{left_most}
use Rattle.cadence.proofs.Placed.{begun_placed, left_placed}
use Rattle.steps.specs.declared.Session.{Session}
use Rattle.steps.specs.Table.{calling, tick}
use Rattle.steps.specs.Session.{is_te, caller_from, caller, answerer, in_range, answerer_from}
use Rattle.steps.specs.Stepping.{StepOutcome, stepped}
use Rattle.steps.specs.Runs.{Timed, Act, happens, asks, next, run, bits_of, given_out}
use Rattle.steps.proofs.Ranges.{caller_start_is_in_range, caller_calls, answerer_start_is_in_range}
use Rattle.steps.proofs.Drawings.{run_joined, given_joined, count_calling, bits_elsewhere, Along, Goes, run_goes, ends_in, by_tone, Ending, Gone, gone_elsewhere, gone_next, Behind, run_behind, later_tone, ending_in_turn, gone_in_turn, changes_at_once, hears, changes_at_last, waits_for_bits}
use Rattle.steps.proofs.Runs.{next_keeps_range, next_keeps_te}
use borrow.Author.Tests.{eqb-true}
use Rattle.demands.specs.OneCadence.{ends_at, in_turn, IsTone, IsSending, IsInTime, changes_to, Entered, EndsBehind, OnAndOff, OneCadence, AnswererIsSilent}
use Rattle.demands.proofs.Sounding.{periods}

-- where a tone leads is no calling
changes : (tone : ℕ) → IsTone tone → ((ends_in tone).0 ≡ changes_to tone) × (changes_to tone ≡ calling → ⊥)
unfolding when
changes = by_tone (λ (e : ℕ). ((ends_in e).0 ≡ changes_to e) × (changes_to e ≡ calling → ⊥)) (refl, λ z. omega (arith, z)) (refl, λ z. omega (arith, z))

module _ (s : Session) (function on off : ℕ) (before : List Act) (t : Timed) (along : Along function on off (length (given_out s before)) (run s before)) (sending : IsSending (run s before)) (tone : IsTone t.event) (soon : IsInTime (run s before) t) where
  abbrev n : ℕ
  n = length (given_out s before)

  abbrev here : Session
  here = run s before

  abbrev heard : Session
  heard = (next here (happens t)).session

  -- what is left
  abbrev rest : ℕ
  rest = left here.cadence

  ends_at_lem : ends_at on off n ≡ n + rest
  unfolding ends_at
  ends_at_lem = sym (ap (λ (c : Cadence). n + left c) along.cadence ∙ left_placed function on off n here.cadence.tone)

  -- what is done behind the tone
  runs : (acts : List Act) → run s (before ++ happens t ∷ acts) ≡ run heard acts
  unfolding run
  runs acts = run_joined s before (happens t ∷ acts)

  counts : (acts : List Act) → length (given_out s (before ++ happens t ∷ acts)) ≡ n + length (given_out heard acts)
  unfolding given_out
  counts acts = ap length (given_joined s before (happens t ∷ acts)) ∙ length-append (given_out s before) (given_out heard acts)

  -- it left calling with nothing left, or remembers the tone
  then_is : ((rest ≡ 0) × Gone heard) ⊎ Ending t.event here.entry rest heard
  then_is = hears here t.value t.now along.inside sending.sends soon t.event tone sending.none

  behind : Behind t.event here.entry tone rest heard
  behind = ⊎_elim (λ gone. inr gone.1) (λ e. inl e) then_is

  at_once_lem : ends_at on off n ≡ n → Entered (changes_to t.event) t.now (run s (before ++ happens t ∷ []))
  unfolding run
  at_once_lem none =
      let changed = changes_at_once here t.value t.now along.inside sending.sends soon t.event tone sending.none (omega (arith, none, ends_at_lem)) in
      rw (runs []) (record { state = ap (λ (o : StepOutcome). o.session.state) changed ∙ (changes t.event tone).0; entry = ap (λ (o : StepOutcome). o.session.entry) changed })

  -- a tick behind bits that were asked for in turn
  module _ (outs : List (List ℕ)) (u : Timed) (ticks : u.event ≡ tick) (timely : IsInTime (run s (before ++ happens t ∷ in_turn outs)) u) where
    abbrev met : Session
    met = run heard (in_turn outs)

    in_time : IsInTime met u
    in_time = rw (runs (in_turn outs)) at timely

    ticked : (next (run s (before ++ happens t ∷ in_turn outs)) (happens u)).session ≡ (stepped met tick u.value u.now).session
    ticked = rw (runs (in_turn outs), ticks) refl

    waits : length (joined outs) < rest → Ending t.event here.entry rest heard → Entered calling here.entry (stepped met tick u.value u.now).session
    waits fewer e =
        let left-now = (ending_in_turn t.event here.entry tone outs rest heard e).leaves in
        let same = waits_for_bits met u.value u.now left-now.inside left-now.sends in_time (λ z. omega (arith, z, left-now.rest, fewer)) in
        record { state = ap (λ (x : Session). x.state) same ∙ left-now.sends; entry = ap (λ (x : Session). x.entry) same ∙ left-now.since }

    goes : rest ≤ length (joined outs) → Ending t.event here.entry rest heard → Entered (changes_to t.event) u.now (stepped met tick u.value u.now).session
    goes enough e =
        let left-now = (ending_in_turn t.event here.entry tone outs rest heard e).leaves in
        let at_last = changes_at_last met u.value u.now left-now.inside left-now.sends in_time t.event tone left-now.heard (omega (arith, left-now.rest, enough)) in
        record { state = ap (λ (o : StepOutcome). o.session.state) at_last ∙ (changes t.event tone).0; entry = ap (λ (o : StepOutcome). o.session.entry) at_last }

    leaves_by : rest ≤ length (joined outs) → (stepped met tick u.value u.now).session.state ≡ calling → ⊥
    leaves_by enough =
        ⊎_elim
        (λ gone. gone_elsewhere _ (gone_next met (happens (record { event = tick; value = u.value; now = u.now })) (gone_in_turn outs heard gone.1).1))
        (λ e c. (changes t.event tone).1 (sym (goes enough e).state ∙ c))
        then_is

  -- where some bits are left it remembers the tone
  ending : {A : Type 0} → n < n + rest → (Ending t.event here.entry rest heard → A) → A
  ending some f = ⊎_elim (λ gone. absurd (let z : ⊥ = omega (arith, some, gone.0) in z)) f then_is

  ends_behind : EndsBehind s on off n before t
  ends_behind = record {
    most = λ acts. omega (arith, counts acts, ends_at_lem, (run_behind t.event here.entry tone acts rest heard behind).most);
    all = λ outs.
        ⊎_elim
        (λ gone. omega (arith, counts (in_turn outs), ends_at_lem, gone.0, ap length (gone_in_turn outs heard gone.1).0))
        (λ e. omega (arith, counts (in_turn outs), ends_at_lem, (ending_in_turn t.event here.entry tone outs rest heard e).count))
        then_is;
    ninety = omega (arith, ends_at_lem, left_most here.cadence);
    at_once = at_once_lem;
    with_tick = λ outs u ticks timely some enough. rw (ticked outs u ticks timely) (ending (omega (arith, some, ends_at_lem)) (goes outs u ticks timely (omega (arith, enough, ends_at_lem))));
    not_sooner = λ outs u ticks timely fewer. rw (ticked outs u ticks timely) (ending (omega (arith, fewer, ends_at_lem)) (waits outs u ticks timely (omega (arith, fewer, ends_at_lem))));
    leaves = λ outs u ticks timely enough. rw (ticked outs u ticks timely) (leaves_by outs u ticks timely (omega (arith, enough, left_most here.cadence)));
    later = λ acts u again. rw (runs acts) (later_tone t.event here.entry tone _ (run heard acts) u.event u.value u.now again (run_behind t.event here.entry tone acts rest heard behind).behind);
  }

pub one_cadence : (start te function on off : ℕ) → is_te te ≡ true → is_function function ≡ true → is_cadence on off ≡ true → OneCadence function on off (caller_from start te (begun function on off))
unfolding when
one_cadence start te function on off timed named lasting = record {
  beginning = λ acts. (goes acts).bits;
  as_asked = λ acts out sending. count_calling (run s acts) out (along acts).inside sending.sends ∙ rw sending.none refl;
  elsewhere = λ acts out elsewhere. bits_elsewhere (run s acts) out (along acts).inside elsewhere;
  ends = λ before t sending tone soon. ends_behind s function on off before t (along before) sending tone soon;
}
  where
    s : Session
    s = caller_from start te (begun function on off)

    goes : (acts : List Act) → Goes function on off 0 (given_out s acts) (run s acts)
    goes acts = run_goes function on off 0 s acts (record { inside = caller_start_is_in_range start te function on off timed named lasting; cadence = begun_placed function on off })

    along : (acts : List Act) → Along function on off (length (given_out s acts)) (run s acts)
    along acts = rw (let z : 0 + length (given_out s acts) ≡ length (given_out s acts) = omega arith in z) at (goes acts).along

-- and what that cadence is
pub on_and_off : (function on off : ℕ) → is_function function ≡ true → is_cadence on off ≡ true → OnAndOff function on off
on_and_off function on off named lasting = record { periods = periods function on off (function_small function named) (cadence_lasts on off lasting); no_bit = omega arith }

-- calling is the caller's, and no session of an answerer becomes one
silent_run : (s : Session) (acts : List Act) → in_range s ≡ true → s.end ≡ answerer → given_out s acts ≡ []
unfolding given_out
silent_run s [] inside own = refl
silent_run s (a ∷ acts) inside own = ap₂ ◌++◌ (no_bits a) (silent_run (next s a).session acts (next_keeps_range s a inside) ((next_keeps_te s a).1 ∙ own))
  where
    elsewhere : s.state ≡ calling → ⊥
    elsewhere c = let z : answerer ≡ caller = sym own ∙ eqb-true s.end caller (caller_calls s inside c) in omega (arith, z)

    no_bits : (b : Act) → bits_of s b ≡ []
    no_bits (happens t) = refl
    no_bits (asks out) = bits_elsewhere s out inside elsewhere

pub answerer_is_silent : AnswererIsSilent
answerer_is_silent start acts = silent_run (answerer_from start) acts (answerer_start_is_in_range start) refl
