-- A session goes on with exactly the choice that the agreed menu brought, and with an item from 1 to 12 or PCM options from 1 to 7; one that
-- is cleared was brought none. What each row does to the choice is a test computed over the table.
-- Assumes nothing.
use Rattle.std.proofs.Common.{◌≡◌, ℕ, Bool, true, false, not, T, eqb, ◌⊎◌, List, [], ◌∷◌, sym, refl, ap, ◌∙◌, subst, ap₂, inl, inr, ⊎_elim, arith, eqb→eq, eq-eqb, ne_eqb, eqb-true, le-leb}
use borrow.Author.Tests.{eqb-false}
use Rattle.laws.specs.Logic.{when, both, either}
use Rattle.laws.specs.Tests.{every}
use Rattle.laws.proofs.Logic.{either_way, clash}
use Rattle.laws.proofs.Computed.{both_left, both_right}
use Rattle.cadence.specs.declared.Cadence.{Cadence}
use Rattle.steps.specs.declared.Session.{Session}
use Rattle.steps.specs.declared.Row.{Row}
use Rattle.steps.specs.declared.To.{To}
use Rattle.std.specs.Prelude.{Option, Some}
use Rattle.steps.specs.Table.{menu, over, going, left, cleared, not_offered, goes_on, agreed_jm, agreed_cm, tick, rows, same_condition}
use Rattle.steps.specs.declared.Condition.{Condition}
use Rattle.steps.specs.declared.Condition.TheVariants.{JmRefused, NoneChosen}
use Rattle.steps.proofs.Known.{asked_is}
use Rattle.steps.specs.Session.{between, is_mode, is_choice, early, in_range}
use Rattle.steps.specs.Stepping.{same, entered, ended, go_on, StepOutcome, refused_with_11, holds, elapsed, applies, find_row, chosen_after, renewed, ended_as, row_taken, remembered, moved, refused_step, timed, stepped_in, stepped}
use Rattle.steps.specs.Runs.{Timed, Act, happens, asks, next, value_of, run, enters_agreed, none_agreed, Brought, here, later}
use Rattle.steps.proofs.Known.{is_so, is_not, decide, taken_if, left_if, either_right}
use Rattle.steps.proofs.Rows.{Taken, step_case}
use Rattle.steps.proofs.Ranges.{range_fits}
use Rattle.steps.proofs.Runs.{run_keeps_range, only_drawn}

-- what a row says of the choice: whether closing or joint is next, and whether its event is an agreed menu
abbrev agrees : Row → Bool
agrees r = when (eqb r.to.0 over) false (enters_agreed (entered r.to.0))

abbrev by_menu : ℕ → Bool
by_menu event = either (eqb event agreed_jm) (eqb event agreed_cm)

-- behind an agreed menu there is no other, and no way back to before it
abbrev once : Row → Bool
once r = when (early r.state) true (both (not (agrees r)) (both (not (early r.to.0)) (not (by_menu r.event))))

-- an agreed menu leads behind it, an agreed JM from menu, or was refused with 11
abbrev brings : Row → Bool
brings r = when (agrees r) (both (by_menu r.event) (both (not (early r.to.0)) (when (eqb r.event agreed_jm) (eqb r.state menu) true))) (when (by_menu r.event) (both (same_condition r.condition JmRefused) (eqb r.event agreed_jm)) true)

-- going on is for a tick
abbrev on_tick : Row → Bool
on_tick r = when (eqb r.to.1 goes_on) (eqb r.event tick) true

abbrev row_chooses : Row → Bool
row_chooses r = both (once r) (both (brings r) (on_tick r))

rows_choose : T (every row_chooses rows)
unfolding when both either every rows
rows_choose = tt

-- the choice once an event is taken: kept without an agreed menu; with one, what it carries, or none
kept_by : (a b : Bool) (x y was : ℕ) → either a b ≡ false → when a x (when b y was) ≡ was
unfolding when either
kept_by true b x y was e = clash e
kept_by false true x y was e = clash e
kept_by false false x y was e = refl

brought_by : (a b w : Bool) (value was : ℕ) → ((a ≡ true) × (w ≡ true)) ⊎ ((when a (when w 0 value) (when b value was) ≡ value) ⊎ (either a b ≡ false))
unfolding when either
brought_by true b true value was = inl (refl, refl)
brought_by true b false value was = inr (inl refl)
brought_by false true w value was = inr (inl refl)
brought_by false false w value was = inr (inr refl)

none_by : (a b w : Bool) (value was : ℕ) → a ≡ true → w ≡ true → when a (when w 0 value) (when b value was) ≡ 0
unfolding when
none_by a b w value was e f = simp (e, f)

refused_by : (condition : Condition) (s : Session) (value passed : ℕ) → T (same_condition condition JmRefused) → holds condition s value passed ≡ true → eqb value refused_with_11 ≡ true
unfolding when
refused_by condition s value passed t h = subst (λ (w : Condition). holds w s value passed ≡ true) (asked_is condition JmRefused (is_so _ t)) h

-- what a row is answered
agreed_by : (o g : Bool) (state how chosen : ℕ) → enters_agreed (when o (when g (go_on chosen) (ended how)) (entered state)) ≡ when o false (enters_agreed (entered state))
unfolding when
agreed_by true true state how chosen = refl
agreed_by true false state how chosen = refl
agreed_by false g state how chosen = refl

-- an agreed JM that carries 'refused with 11'
record RefusedJm (s : Session) (event value : ℕ) : Type 0 where
  waits : s.state ≡ menu
  jm : event ≡ agreed_jm
  refused : value ≡ refused_with_11

-- what one event does to the choice
record Chooses (s : Session) (event value : ℕ) (o : StepOutcome) : Type 0 where
  -- behind an agreed menu
  settled : early s.state ≡ false → (enters_agreed o.answer ≡ false) × ((early o.session.state ≡ false) × (o.session.chosen ≡ s.chosen))
  -- at an agreed menu, unless it is a JM from which the choice is refused with 11
  agreeing : enters_agreed o.answer ≡ true → (early o.session.state ≡ false) × (RefusedJm s event value ⊎ (o.session.chosen ≡ value))
  -- at any other event
  waiting : enters_agreed o.answer ≡ false → (o.session.chosen ≡ 0) ⊎ (o.session.chosen ≡ s.chosen)

module _ (s : Session) (event value now : ℕ) where
  unchanged : (o : StepOutcome) → enters_agreed o.answer ≡ false → o.session.state ≡ s.state → o.session.chosen ≡ s.chosen → Chooses s event value o
  unchanged o a state chosen = record {
    settled = λ h. (a, (ap early state ∙ h, chosen));
    agreeing = λ h. clash (sym h ∙ a);
    waiting = λ _. inr chosen;
  }

  row_chooses_lem : (r : Row) → Taken s event value now r → T (row_chooses r) → Chooses s event value (row_taken (renewed s event value now) r.to)
  row_chooses_lem r taking tested =
      let brought : T (brings r) = both_left (brings r) (on_tick r) (both_right (once r) _ tested) in
      let answered : enters_agreed (row_taken (renewed s event value now) r.to).answer ≡ agrees r = agreed_by (eqb r.to.0 over) _ r.to.0 _ _ in
      let event-is = ap by_menu taking.row.on in
      let keeps : by_menu r.event ≡ false → chosen_after event value s.chosen ≡ s.chosen = λ e. kept_by _ _ _ _ s.chosen (sym event-is ∙ e) in
      record {
        settled = λ late.
            let row = left_if (early r.state) true _ (both_left (once r) _ tested) (ap early taking.row.state ∙ late) in
            let rest = both_right (not (agrees r)) _ row in
            (answered ∙ is_not _ (both_left _ _ row), (is_not _ (both_left _ _ rest), keeps (is_not _ (both_right _ _ rest))));
        agreeing = λ a.
            let row = taken_if (agrees r) _ _ brought (sym answered ∙ a) in
            let leads = both_right (by_menu r.event) _ row in (
              is_not _ (both_left _ _ leads),
              ⊎_elim
                  (λ refused. inl (record {
                    waits = sym taking.row.state ∙ eqb→eq _ _ (taken_if (eqb r.event agreed_jm) (eqb r.state menu) true (both_right (not (early r.to.0)) _ leads) (ap (λ (e : ℕ). eqb e agreed_jm) taking.row.on ∙ refused.0));
                    jm = eqb-true event agreed_jm refused.0;
                    refused = eqb-true value refused_with_11 refused.1;
                  }))
                  (⊎_elim (λ v. inr v) (λ none. clash (sym (is_so _ (both_left _ _ row)) ∙ event-is ∙ none)))
                  (brought_by (eqb event agreed_jm) (eqb event agreed_cm) (eqb value refused_with_11) value s.chosen),
            );
        waiting = λ a.
            let row = left_if (agrees r) _ _ brought (sym answered ∙ a) in
            ⊎_elim
            (λ m.
            let refused = taken_if (by_menu r.event) _ _ row m in
            let jm = sym (ap (λ (e : ℕ). eqb e agreed_jm) taking.row.on) ∙ is_so _ (both_right _ _ refused) in
            inl (none_by _ _ _ value s.chosen jm (refused_by r.condition s value _ (both_left _ _ refused) taking.row.holding)))
            (λ m. inr (keeps m))
            (decide (by_menu r.event));
      }

  chooses : Chooses s event value (stepped s event value now)
  chooses =
      step_case s event value now (Chooses s event value) row_chooses rows_choose (λ n _ _. unchanged (refused_step n s) refl refl refl) (unchanged (record { answer = same; session = s }) refl refl refl)
      (λ _ _ _ _. unchanged (remembered s event) refl refl refl) (λ r taking tested _. row_chooses_lem r taking tested)

-- the same of what a host does; asking for bits is no event
abbrev event_of : Act → ℕ
event_of (happens t) = t.event
event_of (asks out) = 0

chooses_next : (s : Session) (a : Act) → Chooses s (event_of a) (value_of a) (next s a)
chooses_next s (happens t) = chooses s t.event t.value t.now
chooses_next s (asks out) = let only = (only_drawn s out).session in unchanged s 0 0 0 (next s (asks out)) refl (ap (λ (x : Session). x.state) only) (ap (λ (x : Session). x.chosen) only)

abbrev Apart : StepOutcome → Type 0
Apart o = enters_agreed o.answer ≡ false

-- menu, at an agreed JM that is refused with 11: over, not offered
module _ (entry te end chosen how now : ℕ) (c : Cadence) where
  abbrev in_menu : Session
  in_menu = record { entry = entry; te = te; cadence = c; end = end; state = menu; chosen = chosen; ended = how }

  first_row : (passed : ℕ) → find_row in_menu agreed_jm refused_with_11 passed rows ≡ Some (record { 0 = over; 1 = not_offered })
  unfolding find_row applies rows when both either
  first_row passed = rw (le-leb 0 passed (omega arith))

  not_offered_lem : Apart (moved in_menu agreed_jm refused_with_11 now (Some (record { 0 = over; 1 = not_offered })))
  unfolding when
  not_offered_lem = refl

  over_at_11 : Apart (stepped in_menu agreed_jm refused_with_11 now)
  unfolding stepped_in timed
  over_at_11 =
      either_way Apart (in_range in_menu) _ _
      (λ _. either_way Apart _ (refused_step 7 in_menu) _ (λ _. refl)
      (λ _. either_way Apart _ (timed in_menu agreed_jm refused_with_11 now) (refused_step 9 in_menu)
      (λ _. either_way Apart _ _ (refused_step 8 in_menu) (λ _. subst (λ (found : Option To). Apart (moved in_menu agreed_jm refused_with_11 now found)) (sym (first_row (elapsed now entry))) not_offered_lem) (λ _. refl))
      (λ _. refl)))
      (λ _. refl)

-- an agreed menu brings what its event carries
agreed_brings : (s : Session) (a : Act) → enters_agreed (next s a).answer ≡ true → (next s a).session.chosen ≡ value_of a
agreed_brings s (asks out) agreed = clash (sym agreed)
agreed_brings s (happens t) agreed =
    ⊎_elim
    (λ refused. clash (
    sym agreed
    ∙ ap (λ (x : Session). enters_agreed (stepped x t.event t.value t.now).answer) (ap (λ (state : ℕ). record { entry = s.entry; te = s.te; cadence = s.cadence; end = s.end; state = state; chosen = s.chosen; ended = s.ended }) refused.waits)
    ∙ ap₂ (λ (event value : ℕ). enters_agreed (stepped (in_menu s.entry s.te s.end s.chosen s.ended t.now s.cadence) event value t.now).answer) refused.jm refused.refused
    ∙ over_at_11 s.entry s.te s.end s.chosen s.ended t.now s.cadence))
    (λ brought. brought)
    ((chooses s t.event t.value t.now).agreeing agreed).1

-- behind an agreed menu the choice stays
settled_run : (s : Session) (acts : List Act) → early s.state ≡ false → (none_agreed s acts ≡ true) × ((run s acts).chosen ≡ s.chosen)
unfolding run none_agreed both
settled_run s [] h = (refl, refl)
settled_run s (a ∷ acts) h =
    let now = (chooses_next s a).settled h in
    let rest = settled_run (next s a).session acts now.1.0 in
    (rw now.0 rest.0, rest.1 ∙ now.1.1)

-- what is chosen once a menu is agreed
brought_here : (s : Session) (a : Act) (acts : List Act) → enters_agreed (next s a).answer ≡ true → Brought s (a ∷ acts) (run s (a ∷ acts)).chosen
unfolding run
brought_here s a acts agreed =
    let rest = settled_run (next s a).session acts ((chooses_next s a).agreeing agreed).0 in
    subst (Brought s (a ∷ acts)) (sym (rest.1 ∙ agreed_brings s a agreed)) (here agreed rest.0)

-- what is chosen was brought by an agreed menu
brought_run : (s : Session) (acts : List Act) → s.chosen ≡ 0 → ((run s acts).chosen ≡ 0) ⊎ Brought s acts (run s acts).chosen
unfolding run
brought_run s [] h = inl h
brought_run s (a ∷ acts) h =
    ⊎_elim
    (λ agreed. inr (brought_here s a acts agreed))
    (λ apart.
    let none = ⊎_elim (λ z. z) (λ z. z ∙ h) ((chooses_next s a).waiting apart) in
    ⊎_elim (λ z. inl z) (λ b. inr (later apart b)) (brought_run (next s a).session acts none))
    (decide (enters_agreed (next s a).answer))

-- only a row that goes on is answered so, and with a choice
goes_by : (o g : Bool) (state how chosen c : ℕ) → when o (when g (go_on chosen) (ended how)) (entered state) ≡ go_on c → (g ≡ true) × (c ≡ chosen)
unfolding when
goes_by true true state how chosen c e = (refl, cc)
goes_by true false state how chosen c e = clash (cc)
goes_by false g state how chosen c e = clash (cc)

gone_by : (g none : Bool) (how : ℕ) → eqb how goes_on ≡ g → eqb (when g (when none left goes_on) how) goes_on ≡ true → (g ≡ true) × (none ≡ false)
unfolding when
gone_by true true how is e = clash (sym e)
gone_by true false how is e = (refl, refl)
gone_by false none how is e = clash (sym e ∙ is)

-- an event that is answered 'go on' goes on with what the session has chosen
goes_on_lem : (s : Session) (event value now c : ℕ) → (stepped s event value now).answer ≡ go_on c → (c ≡ s.chosen) × (c ≡ 0 → ⊥)
unfolding either
goes_on_lem s event value now c =
    step_case s event value now (λ (o : StepOutcome). o.answer ≡ go_on c → (c ≡ s.chosen) × (c ≡ 0 → ⊥)) row_chooses rows_choose
    (λ n _ _ e. clash (cc)) (λ e. clash (cc)) (λ _ _ _ _ e. clash (cc))
    (λ r taking tested _ e.
    let chosen = chosen_after event value s.chosen in
    let gone = goes_by (eqb r.to.0 over) _ r.to.0 _ chosen c e in
    let some = gone_by (eqb r.to.1 goes_on) (eqb chosen 0) r.to.1 refl gone.0 in
    let on : event ≡ tick = sym taking.row.on ∙ eqb→eq _ _ (taken_if (eqb r.to.1 goes_on) (eqb r.event tick) true (both_right (brings r) (on_tick r) (both_right (once r) _ tested)) some.0) in
    (gone.1 ∙ kept_by _ _ _ _ s.chosen (ap by_menu on), λ z. eqb-false chosen 0 some.1 (sym gone.1 ∙ z)))

pub goes_on_as_brought : (s : Session) (acts : List Act) (t : Timed) (c : ℕ) → in_range s ≡ true → s.chosen ≡ 0 → (next (run s acts) (happens t)).answer ≡ go_on c → Brought s acts c × (is_mode c ≡ true)
goes_on_as_brought s acts t c h none e =
    let gone = goes_on_lem (run s acts) t.event t.value t.now c e in
    let choice : is_choice c ≡ true = ap is_choice gone.0 ∙ (range_fits (run s acts) (run_keeps_range s acts h)).choice in (
      ⊎_elim (λ z. absurd (gone.1 (gone.0 ∙ z))) (λ b. subst (Brought s acts) (sym gone.0) b) (brought_run s acts none),
      either_right (eqb c 0) (is_mode c) choice (ne_eqb c 0 gone.1),
    )

-- closing and joint, which an agreed menu leads to, alone lead to cleared, and only where none is chosen
abbrev clears_on_none : Row → Bool
clears_on_none r = when (eqb r.to.1 cleared) (both (same_condition r.condition NoneChosen) (not (by_menu r.event))) true

abbrev clears_settled : Row → Bool
clears_settled r = when (enters_agreed (entered r.state)) true (when (agrees r) true (both (not (eqb r.to.1 cleared)) (not (enters_agreed (entered r.to.0)))))

abbrev row_clears : Row → Bool
row_clears r = both (clears_on_none r) (clears_settled r)

rows_clear : T (every row_clears rows)
unfolding when both either every rows
rows_clear = tt

-- only a row that says so clears
cleared_by : (g none : Bool) (how : ℕ) → eqb (when g (when none left goes_on) how) cleared ≡ true → eqb how cleared ≡ true
unfolding when
cleared_by true true how e = clash (sym e)
cleared_by true false how e = clash (sym e)
cleared_by false none how e = e

none_chosen_lem : (condition : Condition) (s : Session) (value passed : ℕ) → T (same_condition condition NoneChosen) → holds condition s value passed ≡ true → eqb s.chosen 0 ≡ true
unfolding when
none_chosen_lem condition s value passed t h = subst (λ (w : Condition). holds w s value passed ≡ true) (asked_is condition NoneChosen (is_so _ t)) h

-- no menu is agreed yet, and the session is not cleared
record Waits (s : Session) : Type 0 where
  before : enters_agreed (entered s.state) ≡ false
  goes : s.ended ≡ cleared → ⊥

-- one that is cleared has none
abbrev HasNone : Session → Type 0
HasNone s = s.ended ≡ cleared → s.chosen ≡ 0

record Clears (s : Session) (o : StepOutcome) : Type 0 where
  none : HasNone s → HasNone o.session
  waits : enters_agreed o.answer ≡ false → Waits s → Waits o.session

module _ (s : Session) (event value now : ℕ) where
  row_clears_lem : (r : Row) → Taken s event value now r → T (row_clears r) → Clears s (row_taken (renewed s event value now) r.to)
  row_clears_lem r taking tested =
      let chosen = chosen_after event value s.chosen in
      let says : ended_as r.to.1 chosen ≡ cleared → eqb r.to.1 cleared ≡ true = λ e. cleared_by (eqb r.to.1 goes_on) (eqb chosen 0) r.to.1 (eq-eqb _ _ e) in
      let answered : enters_agreed (row_taken (renewed s event value now) r.to).answer ≡ agrees r = agreed_by (eqb r.to.0 over) _ r.to.0 _ _ in
      record {
        none = λ _ e.
            let row = taken_if (eqb r.to.1 cleared) _ true (both_left (clears_on_none r) (clears_settled r) tested) (says e) in
            kept_by _ _ _ _ s.chosen (sym (ap by_menu taking.row.on) ∙ is_not _ (both_right (same_condition r.condition NoneChosen) _ row))
            ∙ eqb-true _ _ (none_chosen_lem r.condition s value _ (both_left _ _ row) taking.row.holding);
        waits = λ a w.
            let row = left_if (agrees r) true _ (left_if (enters_agreed (entered r.state)) true _ (both_right (clears_on_none r) (clears_settled r) tested) (ap (λ (state : ℕ). enters_agreed (entered state)) taking.row.state ∙ w.before)) (sym answered ∙ a) in
            record { before = is_not _ (both_right (not (eqb r.to.1 cleared)) _ row); goes = λ e. clash (sym (says e) ∙ is_not _ (both_left _ _ row)) };
      }

  clears : Clears s (stepped s event value now)
  clears =
      step_case s event value now (Clears s) row_clears rows_clear
      (λ n _ _. record { none = λ h. h; waits = λ _ w. w }) (record { none = λ h. h; waits = λ _ w. w }) (λ _ _ _ _. record { none = λ h. h; waits = λ _ w. record { before = w.before; goes = w.goes } }) (λ r taking tested _. row_clears_lem r taking tested)

clears_next : (s : Session) (a : Act) → Clears s (next s a)
clears_next s (happens t) = clears s t.event t.value t.now
clears_next s (asks out) =
    let only = (only_drawn s out).session in
    let ended = ap (λ (x : Session). x.ended) only in
    record {
      none = λ h e. ap (λ (x : Session). x.chosen) only ∙ h (sym ended ∙ e);
      waits = λ _ w. record { before = ap (λ (x : Session). enters_agreed (entered x.state)) only ∙ w.before; goes = λ e. w.goes (sym ended ∙ e) };
    }

none_run : (s : Session) (acts : List Act) → HasNone s → HasNone (run s acts)
unfolding run
none_run s [] h = h
none_run s (a ∷ acts) h = none_run (next s a).session acts ((clears_next s a).none h)

cleared_run : (s : Session) (acts : List Act) → Waits s → (run s acts).ended ≡ cleared → Brought s acts (run s acts).chosen
unfolding run
cleared_run s [] w e = absurd (w.goes e)
cleared_run s (a ∷ acts) w e =
    ⊎_elim (λ agreed. brought_here s a acts agreed)
    (λ apart. later apart (cleared_run (next s a).session acts ((clears_next s a).waits apart w) e))
    (decide (enters_agreed (next s a).answer))

-- a session that is cleared was brought none
pub cleared_as_brought : (s : Session) (acts : List Act) → enters_agreed (entered s.state) ≡ false → s.ended ≡ going → (run s acts).ended ≡ cleared → Brought s acts 0
cleared_as_brought s acts before goes e =
    let open-yet : s.ended ≡ cleared → ⊥ = λ c. let z : ◌≡◌ {A = ℕ} going cleared = sym goes ∙ c in let w : ⊥ = omega (arith, z) in w in
    subst (Brought s acts) (none_run s acts (λ c. absurd (open-yet c)) e) (cleared_run s acts (record { before = before; goes = open-yet }) e)

-- going on needs a choice
some_by : (o none : Bool) → when o (not none) false ≡ true → none ≡ false
unfolding when
some_by true true h = clash (sym h)
some_by true false h = refl
some_by false none h = clash (sym h)

some_chosen : (o none : Bool) (how : ℕ) → how ≡ goes_on → when o (when (eqb how goes_on) (not none) (between left not_offered how)) (eqb how going) ≡ true → none ≡ false
unfolding when
some_chosen o none how e h = some_by o none (sym (ap (λ (n : ℕ). when o (when (eqb n goes_on) (not none) (between left not_offered n)) (eqb n going)) e) ∙ h)

-- and one that went on has what it was brought
pub went_on_as_brought : (s : Session) (acts : List Act) → in_range s ≡ true → s.chosen ≡ 0 → (run s acts).ended ≡ goes_on → Brought s acts (run s acts).chosen × (is_mode (run s acts).chosen ≡ true)
went_on_as_brought s acts h none e =
    let end = run s acts in
    let fits = range_fits end (run_keeps_range s acts h) in
    let some : eqb end.chosen 0 ≡ false = some_chosen (eqb end.state over) (eqb end.chosen 0) end.ended e fits.ended in (
      ⊎_elim (λ z. absurd (eqb-false _ _ some z)) (λ b. b) (brought_run s acts none),
      either_right (eqb end.chosen 0) (is_mode end.chosen) fits.choice some,
    )
