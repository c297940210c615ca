-- No event changes Te, and a session in range that is quiet has chosen nothing: so wherever events lead a caller to quiet it is the same session but for
-- its entry time, and the table's line for quiet says what a tick does to it.
-- Assumes nothing.
use Prim.Native.Nat.{ℕ, ◌+◌, ◌%◌, ◌-◌, ◌<◌, ◌≤◌, ◌^◌}
use native.Mathlib.Nat.{mod-eq_of_lt}
use native.Mathlib.Omega.{arith}
use mathlib.Core.Path.{◌≡◌, refl, sym, ap, subst, ◌∙◌}
use mathlib.Core.Bool.{true, false}
use mathlib.Core.List.{List}
use mathlib.Core.Logic.{⊎_elim}
use borrow.Author.Tests.{le-ltb, ltb-false, le-leb, lt-leb, eqb-true}
use lib.Dec.{ltb, leb, eqb}
use lib.ListN.{length}
use Rattle.laws.specs.Logic.{when, both, either}
use Rattle.laws.proofs.Logic.{either_way}
use Rattle.cadence.specs.declared.Cadence.{Cadence}
use Rattle.cadence.specs.Cadence.{is_function, is_cadence}
use Rattle.cadence.specs.Giving.{cadence_fits, begun, left, remembering, due, moved_on}
use Rattle.cadence.proofs.Ranges.{cadence_lasts}
use Rattle.cadence.proofs.Moves.{begun_fits, remembering_fits}
use Rattle.cadence.proofs.Left.{left_moved}
use Rattle.cadence.proofs.Outcomes.{given_in}
use Rattle.steps.specs.declared.Session.{Session}
use Rattle.steps.specs.Table.{calling, quiet, menu, going, ansam, tick}
use Rattle.steps.specs.Session.{caller, is_te, choice_fits, ended_fits, in_range, default_te, caller_from}
use Rattle.steps.specs.Stepping.{StepOutcome, elapsed, timed, stepped_in, stepped}
use Rattle.steps.specs.Drawing.{drawn}
use Rattle.steps.specs.Runs.{Act, run}
use Rattle.steps.proofs.Ranges.{range_fits, caller_start_is_in_range, step_keeps_range, draw_keeps_range}
use Rattle.steps.proofs.Runs.{run_keeps_range, run_keeps_te}
use Rattle.steps.proofs.Ticks.{between_true}
use Rattle.demands.specs.Worked.{quiet_from}
use Rattle.demands.specs.TableLines.{session, enters, stays}
use Rattle.demands.specs.QuietBeforeCm.{later, EachTick, finishes_ci, behind_three, IsQuietFor, QuietGoesByTheStart}
use Rattle.demands.proofs.TableLines.{caller_goes_by_the_table}

-- a caller in quiet is known by its Te and its entry time
as_quiet : (te : ℕ) (s : Session) → in_range s ≡ true → s.te ≡ te → s.end ≡ caller → s.state ≡ quiet → s ≡ quiet_from te s.entry s.cadence
unfolding when both either
as_quiet te s inside te-is end_is state-is =
    let fits = range_fits s inside in
    let chosen_is : s.chosen ≡ 0 = eqb-true _ _ (sym (ap (λ (state : ℕ). choice_fits state (eqb s.chosen 0)) state-is) ∙ fits.chosen) in
    let ended_is : s.ended ≡ going = eqb-true _ _ (sym (ap (λ (state : ℕ). ended_fits state (eqb s.chosen 0) s.ended) state-is) ∙ fits.ended) in
    rw (te-is, end_is, state-is, chosen_is, ended_is)

-- the difference that wraps is the elapsed time
pub difference_is_elapsed : (now entry d : ℕ) → now < 2 ^ 32 → entry < 2 ^ 32 → d < 2 ^ 32 → (d + entry) % 2 ^ 32 ≡ now → d ≡ elapsed now entry
unfolding elapsed
difference_is_elapsed now entry d n e h w = omega arith

-- what has passed by the clock is elapsed
by_the_clock : (passed time : ℕ) → passed < 2 ^ 32 → time < 2 ^ 32 → elapsed (later passed time) time ≡ passed
by_the_clock passed time short of-the-clock = sym (difference_is_elapsed (later passed time) time passed (omega arith) of-the-clock short refl)

module _ (te : ℕ) (is-te : is_te te ≡ true) where
  -- Te is within half the clock
  te_small : te < 2 ^ 31
  te_small = omega (arith, (between_true 500 5000 te is-te).1)

  -- a tick within half the clock, by the table
  in_quiet_lem : (entry passed value : ℕ) (c : Cadence) → in_range (quiet_from te entry c) ≡ true → entry < 2 ^ 32 → passed < 2 ^ 31
      → stepped (quiet_from te entry c) tick value (later passed entry) ≡ when (leb te passed) (enters (quiet_from te entry c) menu 0 (later passed entry)) (stays (quiet_from te entry c))
  in_quiet_lem entry passed value c inside of-the-clock soon =
      let is-passed = by_the_clock passed entry (omega (arith, soon)) of-the-clock in
      (caller_goes_by_the_table te 0 entry (later passed entry) c).in_quiet value (record { inside = inside; soon = omega (arith, is-passed, soon) }) ∙ rw is-passed

  each_tick : (entry passed value : ℕ) (c : Cadence) → in_range (quiet_from te entry c) ≡ true → entry < 2 ^ 32 → EachTick te (quiet_from te entry c) passed value
  unfolding stepped_in timed when both either
  each_tick entry passed value c inside of-the-clock = record {
    waits = λ sooner. in_quiet_lem entry passed value c inside of-the-clock (omega (arith, sooner, te_small)) ∙ rw (lt-leb te passed sooner);
    ends = λ due soon. in_quiet_lem entry passed value c inside of-the-clock soon ∙ rw (le-leb te passed due);
    refuses = λ late fits. simp (inside, le-ltb (elapsed (later passed entry) entry) 2147483648 (omega (arith, by_the_clock passed entry fits of-the-clock, late)));
  }

  module _ (start function on off : ℕ) (named : is_function function ≡ true) (lasting : is_cadence on off ≡ true) where
    abbrev started : Session
    started = caller_from start te (begun function on off)

    inside_at_start : in_range started ≡ true
    inside_at_start = caller_start_is_in_range start te function on off is-te named lasting

    -- the cadence as ANSam finds it, and as it is once three sequences were sent
    abbrev heard_ansam : Cadence
    heard_ansam = remembering (begun function on off) ansam

    begun_in_range : cadence_fits (begun function on off) ≡ true
    begun_in_range = begun_fits function on off named lasting

    heard_in_range : cadence_fits heard_ansam ≡ true
    heard_in_range = remembering_fits (begun function on off) ansam begun_in_range refl

    ninety_left : left heard_ansam ≡ 90
    unfolding left when
    ninety_left = refl

    three_sent : moved_on heard_ansam 90 ≡ behind_three function on off
    unfolding moved_on when
    three_sent = ap (λ (p : ℕ). record { off = off; place = p; on = on; function = function; sent = 90; tone = ansam }) (mod-eq_of_lt (omega (arith, (cadence_lasts on off lasting).some, (cadence_lasts on off lasting).long)))

    nothing_left : left (behind_three function on off) ≡ 0
    nothing_left = ap left (sym three_sent) ∙ left_moved heard_ansam 90 heard_in_range (omega (arith, ninety_left)) ∙ (let z : left heard_ansam - 90 ≡ 0 = omega (arith, ninety_left) in z)

    abbrev in_calling : ℕ → Cadence → Session
    in_calling entry c = session caller te c calling 0 entry

    gets_calling : (waited : ℕ) → start < 2 ^ 32 → 1000 ≤ waited → waited < 2 ^ 31 → (stepped started tick 0 (later waited start)).session ≡ in_calling (later waited start) (begun function on off)
    unfolding when
    gets_calling waited of-the-clock due soon =
        let is-waited = by_the_clock waited start (omega (arith, soon)) of-the-clock in
        ap (λ (o : StepOutcome). o.session) ((caller_goes_by_the_table te 0 start (later waited start) (begun function on off)).still 0 (record { inside = inside_at_start; soon = omega (arith, is-waited, soon) }))
        ∙ rw (le-leb 1000 (elapsed (later waited start) start) (omega (arith, is-waited, due)))

    hears_ansam : (entry more : ℕ) → entry < 2 ^ 32 → more < 2 ^ 31 → in_range (in_calling entry (begun function on off)) ≡ true → (stepped (in_calling entry (begun function on off)) ansam 0 (later more entry)).session ≡ in_calling entry heard_ansam
    unfolding left when
    hears_ansam entry more of-the-clock soon inside =
        ap (λ (o : StepOutcome). o.session) ((caller_goes_by_the_table te 0 entry (later more entry) (begun function on off)).on_ansam 0 (record { inside = inside; soon = omega (arith, by_the_clock more entry (omega (arith, soon)) of-the-clock, soon) }))

    sends_three : (entry : ℕ) (out : List ℕ) → 90 ≤ length out → in_range (in_calling entry heard_ansam) ≡ true → (drawn (in_calling entry heard_ansam) out).session ≡ in_calling entry (behind_three function on off)
    unfolding drawn when
    sends_three entry out room inside =
        rw (inside, given_in heard_ansam out heard_in_range) (ap (in_calling entry) (ap (moved_on heard_ansam) ninety ∙ three_sent))
      where
        ninety : due heard_ansam (length out) ≡ 90
        ninety = either_way (λ (n : ℕ). n ≡ 90) (ltb (left heard_ansam) (length out)) (left heard_ansam) (length out) (λ _. ninety_left) (λ full. omega (arith, room, ninety_left, ltb-false (left heard_ansam) (length out) full))

    falls_quiet : (entry finished : ℕ) → entry < 2 ^ 32 → finished < 2 ^ 31 → in_range (in_calling entry (behind_three function on off)) ≡ true → (stepped (in_calling entry (behind_three function on off)) tick 0 (later finished entry)).session ≡ quiet_from te (later finished entry) (behind_three function on off)
    unfolding when
    falls_quiet entry finished of-the-clock soon inside =
        ap (λ (o : StepOutcome). o.session) ((caller_goes_by_the_table te 0 entry (later finished entry) (behind_three function on off)).in_calling 0 (record { inside = inside; soon = omega (arith, by_the_clock finished entry (omega (arith, soon)) of-the-clock, soon) }))
        ∙ rw nothing_left

    gets_quiet : (waited more finished : ℕ) (out : List ℕ) → start < 2 ^ 32 → 1000 ≤ waited → waited < 2 ^ 31 → more < 2 ^ 31 → finished < 2 ^ 31 → 90 ≤ length out
        → let ticked = later waited start in run started (finishes_ci ticked (later more ticked) out (later finished ticked)) ≡ quiet_from te (later finished ticked) (behind_three function on off)
    unfolding run
    gets_quiet waited more finished out of-the-clock due soon then-soon last-soon room =
        let ticked = later waited start in
        let calls = gets_calling waited of-the-clock due soon in
        let calls-in = subst (λ (s : Session). in_range s ≡ true) calls (step_keeps_range started tick 0 ticked inside_at_start) in
        let heard = hears_ansam ticked more (omega arith) then-soon calls-in in
        let heard-in = subst (λ (s : Session). in_range s ≡ true) heard (step_keeps_range (in_calling ticked (begun function on off)) ansam 0 (later more ticked) calls-in) in
        let sent = sends_three ticked out room heard-in in
        let sent-in = subst (λ (s : Session). in_range s ≡ true) sent (draw_keeps_range (in_calling ticked heard_ansam) out heard-in) in
        ap (λ (s : Session). (stepped (drawn (stepped s ansam 0 (later more ticked)).session out).session tick 0 (later finished ticked)).session) calls
        ∙ ap (λ (s : Session). (stepped (drawn s out).session tick 0 (later finished ticked)).session) heard
        ∙ ap (λ (s : Session). (stepped s tick 0 (later finished ticked)).session) sent
        ∙ falls_quiet ticked finished (omega arith) last-soon sent-in

    quiet_again : (acts : List Act) → (run started acts).state ≡ quiet → run started acts ≡ quiet_from te (run started acts).entry (run started acts).cadence
    quiet_again acts is-quiet =
        let kept = run_keeps_te started acts in
        as_quiet te (run started acts) (run_keeps_range started acts inside_at_start) kept.0 kept.1 is-quiet

    is_quiet_for : IsQuietFor te start function on off started
    is_quiet_for = record {
      reaches = gets_quiet;
      is_quiet = quiet_again;
      lasts = λ acts is-quiet of-the-clock passed value.
          let same = quiet_again acts is-quiet in
          let inside = subst (λ (s : Session). in_range s ≡ true) same (run_keeps_range started acts inside_at_start) in
          subst (λ (s : Session). EachTick te s passed value) (sym same) (each_tick (run started acts).entry passed value (run started acts).cadence inside of-the-clock);
    }

pub quiet_goes_by_the_start : (start function on off : ℕ) → is_function function ≡ true → is_cadence on off ≡ true → QuietGoesByTheStart start function on off
unfolding when both
quiet_goes_by_the_start start function on off named lasting = record {
  without_value = is_quiet_for default_te refl start function on off named lasting;
  given = λ te least most. let is-te : is_te te ≡ true = simp (le-leb 500 te (omega (arith, least)), le-leb te 5000 (omega (arith, most))) in (rw (is-te, named, lasting), is_quiet_for te is-te start function on off named lasting);
  outside = λ te out. let is_none : is_te te ≡ false = ⊎_elim (λ less. rw (lt-leb 500 te (omega (arith, less)))) (λ more. rw (le-leb 500 te (omega (arith, more)), lt-leb te 5000 (omega (arith, more)))) out in rw is_none;
}
