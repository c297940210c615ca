-- Events in their order lead each end to the end of its session, stage by stage: what comes before the event that is due changes nothing,
-- and that event leads by its row to the next state. With the menus as sent both ends are carried the same choice, so both end with it.
-- Assumes nothing.
use Prim.Native.Nat.{ℕ, zero, suc, ◌<◌}
use native.Mathlib.Omega.{arith}
use mathlib.Core.Path.{◌≡◌, refl, sym, ap, ap₂, subst, ◌∙◌}
use mathlib.Core.Bool.{Bool, true, false}
use mathlib.Core.List.{List, [], ◌∷◌}
use mathlib.Core.Logic.{⊎_elim}
use borrow.Author.Tests.{eq-eqb, ne_eqb, eqb-true, eqb-false, leb-true, leb-false, le-leb, ltb-true, ltb-false}
use lib.Dec.{T, leb, ltb, eqb}
use Rattle.steps.proofs.Known.{is_so, decide}
use Rattle.laws.specs.Logic.{when, both, either}
use Rattle.laws.specs.Tests.{all_below}
use Rattle.laws.proofs.Computed.{below}
use Rattle.laws.proofs.Logic.{either_way, both_true, clash}
use Rattle.choices.specs.Choosing.{Chosen, none, item, pcm, choice_of}
use Rattle.choices.specs.Choosing as choosing
use Rattle.cadence.specs.declared.Cadence.{Cadence}
use Rattle.cadence.specs.Cadence.{is_function, is_cadence}
use Rattle.cadence.specs.Giving.{begun, no_cadence, left, remembering}
use Rattle.steps.specs.declared.Session.{Session}
use Rattle.steps.specs.Table.{caller_still, calling, quiet, menu, closing, pause, answerer_still, answering, joint, over, going, cleared, goes_on, ansam, agreed_jm, cj_sent, agreed_cm, sig_c, cj, tick}
use Rattle.steps.specs.Session.{is_item, is_choice, is_mode, is_te, caller, answerer, in_range, caller_from, answerer_from}
use Rattle.steps.specs.Stepping.{Answered, same, entered, ended, go_on, refusal, StepOutcome, chosen_after, ended_as, answer_of, with_cadence, elapsed, stepped}
use Rattle.steps.specs.Runs.{Act, happens, asks, next, run}
use Rattle.steps.proofs.Rows.{any_row, step_case}
use Rattle.steps.proofs.Ranges.{step_keeps_range, caller_start_is_in_range, answerer_start_is_in_range}
use Rattle.steps.proofs.Runs.{stays_over, next_keeps_range, only_drawn}
use Rattle.records.specs.declared.Modes.{Modes}
use Rattle.records.specs.declared.Record.{Record}
use Rattle.records.specs.Record.{flag, modes_at}
use Rattle.records.proofs.Functions.{modes_past}
use Rattle.offers.specs.Offering.{cm_offer}
use Rattle.offers.proofs.Making.{size_fits}
use Rattle.offers.proofs.Fields.{with_readable}
use Rattle.demands.specs.Joint.{cm_of, jm_of}
use Rattle.demands.specs.OneChoice.{Call, NothingShared, caller_names, answerer_names, BothNameOneChoice}
use Rattle.demands.specs.TableLines.{InTime, enters, at_tone}
use Rattle.demands.proofs.Joint.{available_used}
use Rattle.demands.proofs.TableLines.{caller_goes_by_the_table, answerer_goes_by_the_table, pause_goes_by_the_table}
use Rattle.demands.proofs.OneChoice.{kind_of, choice_case, both_ends_name_one_choice, answered_fits}
use Rattle.demands.specs.WholeCall.{carried, Due, sent_tick, IsInTime, behind, InOrder, waiting, comes, last_tick, caller_order, EndsJoint, by_cj, by_sig_c, answerer_order, EndsWith, BothEndWith}

-- an event that is answered "same" leaves the session as it is
abbrev moves : Answered → ℕ
moves same = 0
moves (entered state) = 1
moves (ended how) = 1
moves (go_on choice) = 1
moves (refusal n) = 1

module _ (s : Session) (e v now : ℕ) where
  row_moves_lem : (state how choice : ℕ) → moves (answer_of state how choice) ≡ 1
  row_moves_lem state how choice =
      either_way (λ (a : Answered). moves a ≡ 1) (eqb state over) _ _
      (λ _. either_way (λ (a : Answered). moves a ≡ 1) (eqb how goes_on) _ _ (λ _. refl) (λ _. refl)) (λ _. refl)

  keeps : (stepped s e v now).answer ≡ same → (stepped s e v now).session ≡ with_cadence s (stepped s e v now).session.cadence
  keeps =
      step_case s e v now (λ (o : StepOutcome). o.answer ≡ same → o.session ≡ with_cadence s o.session.cadence) (λ r. true) any_row (λ _ _ _ _. refl) (λ _. refl) (λ _ _ _ _ _. refl)
      (λ r _ _ _ h. absurd (let z : ⊥ = omega (arith, ap moves h, row_moves_lem r.to.0 (ended_as r.to.1 (chosen_after e v s.chosen)) (chosen_after e v s.chosen)) in z))

-- what stands while the order waits: the session is the same but for the bits of its cadence that were given out
pub record Waited (s later : Session) : Type 0 where
  pub session : later ≡ with_cadence s later.cadence
  pub tone : later.cadence.tone ≡ s.cadence.tone
  pub inside : in_range later ≡ true

waits : (s : Session) (a : Act) → in_range s ≡ true → (next s a).answer ≡ same → (next s a).session.cadence.tone ≡ s.cadence.tone → Waited s (next s a).session
waits s (happens t) inside answered tone = record { session = keeps s t.event t.value t.now answered; tone = tone; inside = next_keeps_range s (happens t) inside }
waits s (asks out) inside answered tone = record { session = (only_drawn s out).session; tone = tone; inside = next_keeps_range s (asks out) inside }

waited_on : (s between later : Session) → Waited s between → Waited between later → Waited s later
waited_on s between later first then = record {
  session = then.session ∙ ap (λ (x : Session). with_cadence x later.cadence) first.session;
  tone = then.tone ∙ first.tone;
  inside = then.inside;
}

-- the next event that the order waits for
pub record Reached (s : Session) (d : Due) (ds : List Due) (acts : List Act) : Type 0 where
  pub at : Session
  pub waited : Waited s at
  pub now : ℕ
  pub rest : List Act
  pub time : IsInTime at d now ≡ true
  pub order : InOrder (stepped at d.event d.value now).session (behind at d ds) rest
  pub same : run s acts ≡ run (stepped at d.event d.value now).session rest

reached : (s : Session) (d : Due) (ds : List Due) (acts : List Act) → in_range s ≡ true → InOrder s (d ∷ ds) acts → Reached s d ds acts
unfolding run
reached s d ds [] inside order = elim order [ ]
reached s d ds (a ∷ acts) inside (waiting answered tone order) =
    let here = waits s a inside answered tone in
    let later = reached (next s a).session d ds acts here.inside order in
    record { at = later.at; waited = waited_on s (next s a).session later.at here later.waited; now = later.now; rest = later.rest; time = later.time; order = later.order; same = later.same }
reached s d ds (happens t ∷ acts) inside (comes is-event is-value time order) =
    let as-due : (stepped s t.event t.value t.now).session ≡ (stepped s d.event d.value t.now).session = ap₂ (λ (event value : ℕ). (stepped s event value t.now).session) is-event is-value in
    record {
      at = s;
      waited = record { session = refl; tone = refl; inside = inside };
      now = t.now;
      rest = acts;
      time = time;
      order = subst (λ (x : Session). InOrder x (behind s d ds) acts) as-due order;
      same = ap (λ (x : Session). run x acts) as-due;
    }

-- one event of the order, and the session that it leads to
pub record Stage (s : Session) (leading : ℕ → Cadence → Session) (ds : List Due) (acts : List Act) : Type 0 where
  pub now : ℕ
  pub cadence : Cadence
  pub rest : List Act
  pub inside : in_range (leading now cadence) ≡ true
  pub order : InOrder (leading now cadence) ds rest
  pub same : run s acts ≡ run (leading now cadence) rest

-- where it leads to, whatever bits were given out of the cadence before it
abbrev Leads : Session → (ℕ → Cadence → Session) → Due → Type 0
Leads s leading d = (c : Cadence) → c.tone ≡ s.cadence.tone → in_range (with_cadence s c) ≡ true → (now : ℕ) → IsInTime (with_cadence s c) d now ≡ true → (stepped (with_cadence s c) d.event d.value now).session ≡ leading now c

toned_stage : (s : Session) (leading : ℕ → Cadence → Session) (d : Due) (ds rest : List Due) (acts : List Act) → in_range s ≡ true → ((c : Cadence) → behind (with_cadence s c) d ds ≡ rest) → Leads s leading d → InOrder s (d ∷ ds) acts
    → (led : Stage s leading rest acts) × (led.cadence.tone ≡ s.cadence.tone)
toned_stage s leading d ds rest acts inside next-due leads order =
    let here = reached s d ds acts inside order in
    let c = here.at.cadence in
    let is = here.waited.session in
    let led : (stepped here.at d.event d.value here.now).session ≡ leading here.now c =
    ap (λ (x : Session). (stepped x d.event d.value here.now).session) is
    ∙ leads c here.waited.tone (subst (λ (x : Session). in_range x ≡ true) is here.waited.inside) here.now (subst (λ (x : Session). IsInTime x d here.now ≡ true) is here.time) in (
      record {
        now = here.now;
        cadence = c;
        rest = here.rest;
        inside = subst (λ (x : Session). in_range x ≡ true) led (step_keeps_range here.at d.event d.value here.now here.waited.inside);
        order = subst (λ (ds' : List Due). InOrder (leading here.now c) ds' here.rest) (ap (λ (x : Session). behind x d ds) is ∙ next-due c) (subst (λ (x : Session). InOrder x (behind here.at d ds) here.rest) led here.order);
        same = here.same ∙ ap (λ (x : Session). run x here.rest) led;
      },
      here.waited.tone,
    )

stage : (s : Session) (leading : ℕ → Cadence → Session) (d : Due) (ds rest : List Due) (acts : List Act) → in_range s ≡ true → ((c : Cadence) → behind (with_cadence s c) d ds ≡ rest) → Leads s leading d → InOrder s (d ∷ ds) acts → Stage s leading rest acts
stage s leading d ds rest acts inside next-due leads order = (toned_stage s leading d ds rest acts inside next-due leads order).0

-- the sessions that the order leads through
abbrev at : ℕ → ℕ → ℕ → ℕ → ℕ → ℕ → Cadence → Session
at end te state choice how entry c = record { entry = entry; te = te; cadence = c; end = end; state = state; chosen = choice; ended = how }

-- a row that asks for time, by what has passed: not sooner, and within half the clock
abbrev After : ℕ → ℕ → ℕ → Type 0
After least start now = both (leb least (elapsed now start)) (both (ltb (elapsed now start) 2147483648) true) ≡ true

module _ (start now least : ℕ) (time : After least start now) where
  waited : leb least (elapsed now start) ≡ true
  waited = (both_true _ _ time).0

  early : ltb (elapsed now start) 2147483648 ≡ true
  early = (both_true _ _ (both_true _ _ time).1).0

abbrev session_of : StepOutcome → Session
session_of o = o.session

module _ (start now least : ℕ) (time : After least start now) where
  timely : (s : Session) → s.entry ≡ start → in_range s ≡ true → InTime s now
  timely s since inside = record { inside = inside; soon = rw since (ltb-true _ _ (early start now least time)) }

-- an event that the order waits for, whatever was sent
abbrev awaits : ℕ → ℕ → ℕ → Due
awaits event value least = record { event = event; value = value; least = least; sent = false }

-- a session that is over stays as it ended
over_ends : (s : Session) (choice : ℕ) (acts : List Act) → in_range s ≡ true → EndsWith choice s → EndsWith choice (run s acts)
over_ends s choice acts inside ends = subst (EndsWith choice) (sym (stays_over s acts inside ends.state)) ends

-- the pause, and going on
module _ (end te choice : ℕ) (some : eqb choice 0 ≡ false) where
  goes_on_lem : (start : ℕ) (c : Cadence) (acts : List Act) → in_range (at end te pause choice going start c) ≡ true → InOrder (at end te pause choice going start c) (last_tick choice) acts
      → EndsWith choice (run (at end te pause choice going start c) acts)
  unfolding when both
  goes_on_lem start c acts inside order =
      let last = stage (at end te pause choice going start c) (at end te over choice goes_on) (awaits tick 0 75) [] [] acts inside (λ _. refl)
      (λ c' _ inside' now time. ap session_of ((pause_goes_by_the_table te choice start now c' end).in_pause 0 (timely start now 75 time _ refl inside')) ∙ rw (waited start now 75 time, some))
      (subst (λ (b : Bool). InOrder (at end te pause choice going start c) (when b [] (awaits tick 0 75 ∷ [])) acts) some order) in
      subst (EndsWith choice) (sym last.same)
      (over_ends (at end te over choice goes_on last.now last.cadence) choice last.rest last.inside (record { state = refl; chosen = refl; ended = rw some }))

-- CJ, sent or heard: with no choice the session is cleared
abbrev on_cj : ℕ → Due
on_cj event = awaits event 0 0

module _ (end te state event choice start : ℕ) (c : Cadence) (inside : in_range (at end te state choice going start c) ≡ true) (other : eqb event ansam ≡ false)
    (clears : eqb choice 0 ≡ true → Leads (at end te state choice going start c) (at end te over choice cleared) (on_cj event))
    (pauses : eqb choice 0 ≡ false → Leads (at end te state choice going start c) (at end te pause choice going) (on_cj event))
  where
    closes_by : (t : Bool) → eqb choice 0 ≡ t → (acts : List Act) → InOrder (at end te state choice going start c) (on_cj event ∷ last_tick choice) acts → EndsWith choice (run (at end te state choice going start c) acts)
    unfolding when both
    closes_by true nothing acts order =
        let last = stage (at end te state choice going start c) (at end te over choice cleared) (on_cj event) (last_tick choice) (last_tick choice) acts inside (λ _. rw other refl) (clears nothing) order in
        subst (EndsWith choice) (sym last.same)
        (over_ends (at end te over choice cleared last.now last.cadence) choice last.rest last.inside (record { state = refl; chosen = refl; ended = rw nothing }))
    closes_by false some acts order =
        let last = stage (at end te state choice going start c) (at end te pause choice going) (on_cj event) (last_tick choice) (last_tick choice) acts inside (λ _. rw other refl) (pauses some) order in
        subst (EndsWith choice) (sym last.same) (goes_on_lem end te choice some last.now last.cadence last.rest last.inside last.order)

-- what each event of the order leads to, by its line of the table, whatever the cadence gave out
module _ (te choice start : ℕ) (c₀ : Cadence) where
  to_calling : Leads (at caller te caller_still 0 going start c₀) (at caller te calling 0 going) (awaits tick 0 1000)
  unfolding when
  to_calling c _ inside now time = ap session_of ((caller_goes_by_the_table te 0 start now c).still 0 (timely start now 1000 time _ refl inside)) ∙ rw (waited start now 1000 time)

  to_menu : Leads (at caller te quiet 0 going start c₀) (at caller te menu 0 going) (awaits tick 0 te)
  unfolding when
  to_menu c _ inside now time = ap session_of ((caller_goes_by_the_table te 0 start now c).in_quiet 0 (timely start now te time _ refl inside)) ∙ rw (waited start now te time)

  to_closing : is_choice choice ≡ true → Leads (at caller te menu 0 going start c₀) (at caller te closing choice going) (awaits agreed_jm choice 0)
  unfolding when
  to_closing okay c _ inside now time = ap session_of ((caller_goes_by_the_table te 0 start now c).on_jm choice okay (timely start now 0 time _ refl inside))

  closing_clears : eqb choice 0 ≡ true → Leads (at caller te closing choice going start c₀) (at caller te over choice cleared) (on_cj cj_sent)
  unfolding when
  closing_clears nothing c _ inside now time = ap session_of ((caller_goes_by_the_table te choice start now c).on_cj_sent 0 (timely start now 0 time _ refl inside)) ∙ rw nothing

  closing_pauses : eqb choice 0 ≡ false → Leads (at caller te closing choice going start c₀) (at caller te pause choice going) (on_cj cj_sent)
  unfolding when
  closing_pauses some c _ inside now time = ap session_of ((caller_goes_by_the_table te choice start now c).on_cj_sent 0 (timely start now 0 time _ refl inside)) ∙ rw some

  to_answering : Leads (at answerer 0 answerer_still 0 going start c₀) (at answerer 0 answering 0 going) (awaits tick 0 200)
  unfolding when
  to_answering c _ inside now time = ap session_of ((answerer_goes_by_the_table 0 0 start now c).still 0 (timely start now 200 time _ refl inside)) ∙ rw (waited start now 200 time)

  to_joint : is_choice choice ≡ true → Leads (at answerer 0 answering 0 going start c₀) (at answerer 0 joint choice going) (awaits agreed_cm choice 0)
  unfolding when
  to_joint okay c _ inside now time = ap session_of ((answerer_goes_by_the_table 0 0 start now c).on_cm choice okay (timely start now 0 time _ refl inside))

  joint_clears : eqb choice 0 ≡ true → Leads (at answerer 0 joint choice going start c₀) (at answerer 0 over choice cleared) (on_cj cj)
  unfolding when
  joint_clears nothing c _ inside now time = ap session_of ((answerer_goes_by_the_table 0 choice start now c).on_cj 0 (timely start now 0 time _ refl inside)) ∙ rw nothing

  joint_pauses : eqb choice 0 ≡ false → Leads (at answerer 0 joint choice going start c₀) (at answerer 0 pause choice going) (on_cj cj)
  unfolding when
  joint_pauses some c _ inside now time = ap session_of ((answerer_goes_by_the_table 0 choice start now c).on_cj 0 (timely start now 0 time _ refl inside)) ∙ rw some

  joint_to_pause : is_item choice ≡ true → Leads (at answerer 0 joint choice going start c₀) (at answerer 0 pause choice going) (awaits sig_c choice 0)
  unfolding when
  joint_to_pause chosen c _ inside now time = ap session_of ((answerer_goes_by_the_table 0 choice start now c).on_chosen_sig_c choice chosen (timely start now 0 time _ refl inside)) ∙ rw (eq-eqb choice choice refl)

-- from calling to quiet: with ANSam where nothing is left to send, and otherwise with the tick behind the last bit
module _ (te start : ℕ) where
  abbrev called : Cadence → Session
  called c = at caller te calling 0 going start c

  finishes : (c : Cadence) (ds : List Due) (acts : List Act) → c.tone ≡ ansam → in_range (called c) ≡ true → InOrder (called c) (sent_tick ∷ ds) acts → Stage (called c) (at caller te quiet 0 going) ds acts
  unfolding when both
  finishes c ds acts tone inside order =
      stage (called c) (at caller te quiet 0 going) sent_tick ds ds acts inside (λ _. refl)
      (λ c' same inside' now time.
      let sent = both_true (ltb (elapsed now start) 2147483648) (eqb (left c') 0) (both_true (leb 0 (elapsed now start)) _ time).1 in
      ap session_of ((caller_goes_by_the_table te 0 start now c').in_calling 0 (record { inside = inside'; soon = ltb-true (elapsed now start) 2147483648 sent.0 })) ∙ rw (sent.1, eq-eqb c'.tone ansam (same ∙ tone)))
      order

  -- what ANSam leaves, by what is left to send
  heard_by : (t : Bool) (now : ℕ) (c : Cadence) (ds : List Due) (rest : List Act) (after : Session) → ltb 0 (left c) ≡ t → eqb c.tone 0 ≡ true → after ≡ (at_tone (called c) ansam (enters (called c) quiet 0 now)).session → in_range after ≡ true
      → InOrder after (when (both true t) (sent_tick ∷ ds) ds) rest → Stage after (at caller te quiet 0 going) ds rest
  unfolding when both
  heard_by true now c ds rest after some toneless is inside order =
      let left-some : eqb (left c) 0 ≡ false = ne_eqb (left c) 0 (λ z. omega (arith, z, ltb-true 0 (left c) some)) in
      let remembers : after ≡ called (remembering c ansam) = is ∙ rw (toneless, left-some) in
      subst (λ (x : Session). Stage x (at caller te quiet 0 going) ds rest) (sym remembers)
      (finishes (remembering c ansam) ds rest refl (subst (λ (x : Session). in_range x ≡ true) remembers inside) (subst (λ (x : Session). InOrder x (sent_tick ∷ ds) rest) remembers order))
  heard_by false now c ds rest after nothing toneless is inside order =
      let left_none : eqb (left c) 0 ≡ true = eq-eqb (left c) 0 (omega (arith, ltb-false 0 (left c) nothing)) in
      let quiets : after ≡ at caller te quiet 0 going now c = is ∙ rw (toneless, left_none) in
      record { now = now; cadence = c; rest = rest; inside = subst (λ (x : Session). in_range x ≡ true) quiets inside; order = subst (λ (x : Session). InOrder x ds rest) quiets order; same = ap (λ (x : Session). run x rest) quiets }

  hears : (c₀ : Cadence) (ds : List Due) (acts : List Act) → c₀.tone ≡ 0 → in_range (called c₀) ≡ true → InOrder (called c₀) (awaits ansam 0 0 ∷ ds) acts → Stage (called c₀) (at caller te quiet 0 going) ds acts
  hears c₀ ds acts toneless inside order =
      let here = reached (called c₀) (awaits ansam 0 0) ds acts inside order in
      let c = here.at.cadence in
      let is = here.waited.session in
      let after = (stepped here.at ansam 0 here.now).session in
      let soon = (both_true _ _ (both_true _ _ (subst (λ (x : Session). IsInTime x (awaits ansam 0 0) here.now ≡ true) is here.time)).1).0 in
      let led : after ≡ (at_tone (called c) ansam (enters (called c) quiet 0 here.now)).session =
      ap (λ (x : Session). (stepped x ansam 0 here.now).session) is
      ∙ ap session_of ((caller_goes_by_the_table te 0 start here.now c).on_ansam 0 (record { inside = subst (λ (x : Session). in_range x ≡ true) is here.waited.inside; soon = ltb-true _ _ soon })) in
      let stood = heard_by (ltb 0 (left c)) here.now c ds here.rest after refl (eq-eqb c.tone 0 (here.waited.tone ∙ toneless)) led (step_keeps_range here.at ansam 0 here.now here.waited.inside) here.order in
      record { now = stood.now; cadence = stood.cadence; rest = stood.rest; inside = stood.inside; order = stood.order; same = here.same ∙ stood.same }

-- the caller's order leads it to its end
module _ (start te choice : ℕ) (c₀ : Cadence) (toneless : c₀.tone ≡ 0) (starts : in_range (caller_from start te c₀) ≡ true) (okay : is_choice choice ≡ true) where
  pub caller_ends : (acts : List Act) → InOrder (caller_from start te c₀) (caller_order te choice) acts → EndsWith choice (run (caller_from start te c₀) acts)
  unfolding when both
  caller_ends acts order =
      let toned = toned_stage (caller_from start te c₀) (at caller te calling 0 going) _ _ _ acts starts (λ _. refl) (to_calling te choice start c₀) order in
      let at-calling = toned.0 in
      let at-quiet = hears te at-calling.now at-calling.cadence _ at-calling.rest (toned.1 ∙ toneless) at-calling.inside at-calling.order in
      let at-menu = stage (at caller te quiet 0 going at-quiet.now at-quiet.cadence) (at caller te menu 0 going) _ _ _ at-quiet.rest at-quiet.inside (λ _. refl) (to_menu te choice at-quiet.now at-quiet.cadence) at-quiet.order in
      let at-closing = stage (at caller te menu 0 going at-menu.now at-menu.cadence) (at caller te closing choice going) _ _ _ at-menu.rest at-menu.inside (λ _. refl) (to_closing te choice at-menu.now at-menu.cadence okay) at-menu.order in
      subst (EndsWith choice) (sym (at-calling.same ∙ at-quiet.same ∙ at-menu.same ∙ at-closing.same))
      (closes_by caller te closing cj_sent choice at-closing.now at-closing.cadence at-closing.inside refl
      (closing_clears te choice at-closing.now at-closing.cadence)
      (closing_pauses te choice at-closing.now at-closing.cadence)
      (eqb choice 0) refl at-closing.rest at-closing.order)

-- and the answerer's order the answerer
module _ (start choice : ℕ) (okay : is_choice choice ≡ true) where
  -- from joint, by CJ or by sigC of the chosen item
  joint_ends : (since : ℕ) (c : Cadence) (last : Due) (acts : List Act) → EndsJoint choice last → in_range (at answerer 0 joint choice going since c) ≡ true → InOrder (at answerer 0 joint choice going since c) (last ∷ last_tick choice) acts
      → EndsWith choice (run (at answerer 0 joint choice going since c) acts)
  unfolding when both
  joint_ends since c last acts by_cj inside order =
      closes_by answerer 0 joint cj choice since c inside refl (joint_clears 0 choice since c) (joint_pauses 0 choice since c) (eqb choice 0) refl acts order
  joint_ends since c last acts (by_sig_c chosen) inside order =
      let at_pause = stage (at answerer 0 joint choice going since c) (at answerer 0 pause choice going) _ _ _ acts inside (λ _. refl) (joint_to_pause 0 choice since c chosen) order in
      subst (EndsWith choice) (sym at_pause.same)
      (goes_on_lem answerer 0 choice (ne_eqb choice 0 (λ z. omega (arith, z, leb-true 1 choice (both_true _ _ chosen).0))) at_pause.now at_pause.cadence at_pause.rest at_pause.inside at_pause.order)

  pub answerer_ends : (last : Due) (acts : List Act) → EndsJoint choice last → InOrder (answerer_from start) (answerer_order last choice) acts → EndsWith choice (run (answerer_from start) acts)
  unfolding when both
  answerer_ends last acts closing order =
      let at-answering = stage (answerer_from start) (at answerer 0 answering 0 going) _ _ _ acts (answerer_start_is_in_range start) (λ _. refl) (to_answering 0 choice start no_cadence) order in
      let at-joint = stage (at answerer 0 answering 0 going at-answering.now at-answering.cadence) (at answerer 0 joint choice going) _ _ _ at-answering.rest at-answering.inside (λ _. refl) (to_joint 0 choice at-answering.now at-answering.cadence okay) at-answering.order in
      subst (EndsWith choice) (sym (at-answering.same ∙ at-joint.same)) (joint_ends at-joint.now at-joint.cadence last at-joint.rest closing at-joint.inside at-joint.order)

-- what a choice is carried with can be carried, is not "refused with 11", and is 0 for none alone
abbrev fits : Chosen → Bool
fits c = both (is_choice (carried c)) (when (eqb (carried c) 0) (eqb (kind_of c) 0) (is_mode (carried c)))

item_fits : (i : ℕ) → 0 < i → i < 13 → fits (item i) ≡ true
unfolding when both either all_below
item_fits i low high =
    either_way (λ (b : Bool). T b → fits (item i) ≡ true) (eqb i 0) true (fits (item i)) (λ t _. absurd (omega (arith, low, eqb-true i 0 t))) (λ _ t. is_so (fits (item i)) t)
    (below (λ (n : ℕ). when (eqb n 0) true (fits (item n))) 13 tt i high)

pcm_fits : (options : ℕ) → 0 < options → options < 8 → fits (pcm options) ≡ true
unfolding when both either all_below
pcm_fits options low high =
    either_way (λ (b : Bool). T b → fits (pcm options) ≡ true) (eqb options 0) true (fits (pcm options)) (λ t _. absurd (omega (arith, low, eqb-true options 0 t))) (λ _ t. is_so (fits (pcm options)) t)
    (below (λ (n : ℕ). when (eqb n 0) true (fits (pcm n))) 8 tt options high)

none_fits : fits none ≡ true
unfolding when both either
none_fits = refl

none_carried : carried none ≡ 0
unfolding when
none_carried = refl

-- none is carried as 0, and nothing else is
kind_none : (c : Chosen) → kind_of c ≡ 0 → c ≡ none
kind_none none h = refl
kind_none (item i) h = absurd (omega (arith, h))
kind_none (pcm options) h = absurd (omega (arith, h))
kind_none (choosing.refusal n) h = absurd (omega (arith, h))

fits_mode : (c : Chosen) → fits c ≡ true → when (eqb (carried c) 0) (eqb (kind_of c) 0) (is_mode (carried c)) ≡ true
fits_mode c fit = (both_true _ _ fit).1

none_by : (c : Chosen) → fits c ≡ true → carried c ≡ 0 → c ≡ none
none_by c fit z =
    either_way (λ (b : Bool). b ≡ true → c ≡ none) (eqb (carried c) 0) (eqb (kind_of c) 0) (is_mode (carried c))
    (λ _ h. kind_none c (eqb-true _ _ h)) (λ t _. absurd (eqb-false _ _ t z)) (fits_mode c fit)

mode_by : (c : Chosen) → fits c ≡ true → (c ≡ none → ⊥) → is_mode (carried c) ≡ true
mode_by c fit some =
    either_way (λ (b : Bool). b ≡ true → is_mode (carried c) ≡ true) (eqb (carried c) 0) (eqb (kind_of c) 0) (is_mode (carried c))
    (λ _ h. absurd (some (kind_none c (eqb-true _ _ h)))) (λ _ h. h) (fits_mode c fit)

-- a function that a caller has is one that CI may name
pub call_names : (calls answers : Record) (function : ℕ) (blocks : List ℕ) → Call calls answers function blocks → is_function function ≡ true
unfolding modes_at both
call_names calls answers zero blocks call = clash (sym call.available ∙ available_used calls 0)
call_names calls answers (suc n) blocks call =
    ⊎_elim (λ few. rw (le-leb 1 (suc n) (omega arith), few) refl)
    (λ many. clash (sym call.available ∙ available_used calls (suc n) ∙ ap (λ (m : Modes). flag m.available) (modes_past calls.functions (suc n) (omega (arith, call.calling.six, leb-false (suc n) 6 many)))))
    (decide (leb (suc n) 6))

-- both ends
module _ (calls answers : Record) (function : ℕ) (blocks : List ℕ) (call : Call calls answers function blocks) (heard_cm heard_jm : List ℕ) (asSent : heard_cm ≡ cm_of calls function blocks) (asAnswered : heard_jm ≡ jm_of answers heard_cm) where
  abbrev named : Chosen
  named = caller_names calls function blocks heard_jm

  settles : BothNameOneChoice calls answers function blocks heard_cm heard_jm
  settles = both_ends_name_one_choice calls answers function blocks call heard_cm heard_jm asSent asAnswered

  named_fits : fits named ≡ true
  named_fits =
      subst (λ (jm : List ℕ). fits (choice_of (cm_of calls function blocks) jm) ≡ true) (sym (asAnswered ∙ ap (jm_of answers) asSent))
      (choice_case answers call.answering (cm_of calls function blocks) (with_readable (cm_offer calls function) blocks (size_fits (cm_of calls function blocks) call.fits)) (answered_fits calls answers function blocks call) (λ (c : Chosen). fits c ≡ true) none_fits item_fits pcm_fits)

  -- none is carried exactly where nothing is shared, and otherwise a mode
  pub nothing_carried_lem : carried (caller_names calls function blocks heard_jm) ≡ 0 → NothingShared calls answers function
  nothing_carried_lem z = settles.clears (none_by named named_fits z)

  pub carries_nothing : NothingShared calls answers function → carried (caller_names calls function blocks heard_jm) ≡ 0
  carries_nothing nothing = ap carried (settles.cleared nothing) ∙ none_carried

  pub carried_alike : carried (caller_names calls function blocks heard_jm) ≡ carried (answerer_names answers heard_cm)
  carried_alike = ap carried settles.same

  pub both_ends_end_with_the_named_choice : (on off callerStart te answererStart : ℕ) (callerActs answererActs : List Act) (last : Due) → is_te te ≡ true → is_cadence on off ≡ true
      → InOrder (caller_from callerStart te (begun function on off)) (caller_order te (carried (caller_names calls function blocks heard_jm))) callerActs
      → EndsJoint (carried (answerer_names answers heard_cm)) last
      → InOrder (answerer_from answererStart) (answerer_order last (carried (answerer_names answers heard_cm))) answererActs
      → BothEndWith (carried (caller_names calls function blocks heard_jm)) calls answers function on off callerStart te answererStart callerActs answererActs
  both_ends_end_with_the_named_choice on off callerStart te answererStart callerActs answererActs last timed lasting callerOrdered closing answererOrdered =
      let tests = both_true _ _ named_fits in
      record {
        calling = caller_ends callerStart te (carried named) (begun function on off) refl (caller_start_is_in_range callerStart te function on off timed (call_names calls answers function blocks call) lasting) tests.0 callerActs callerOrdered;
        answering =
            subst (λ (choice : ℕ). EndsWith choice (run (answerer_from answererStart) answererActs)) (sym carried_alike)
            (answerer_ends answererStart (carried (answerer_names answers heard_cm)) (sym (ap is_choice carried_alike) ∙ tests.0) last answererActs closing answererOrdered);
        mode = λ some. mode_by named named_fits (λ e. some (settles.clears e));
        clears = nothing_carried_lem;
        cleared = carries_nothing;
      }
