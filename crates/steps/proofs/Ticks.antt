-- Ticks: elapsed time is asked for on a tick only, the first tick at or past a state's limit leaves it, and one tick makes one
-- change at most.
-- Assumes nothing.
use Rattle.std.proofs.Common.{◌≡◌, ℕ, ◌<◌, ◌≤◌, Bool, true, false, not, T, eqb, ltb, leb, ◌⊎◌, List, [], ◌∷◌, sym, refl, ap, ◌∙◌, subst, inl, inr, ⊎_elim, arith, eqb→eq, ltb→lt, lt-ltb, eq-eqb, ne_eqb, eqb-true, le-leb, leb-true}
use borrow.Author.Tests.{eqb-false}
use Rattle.laws.specs.Logic.{when, both, either}
use Rattle.laws.specs.Tests.{all_below, every}
use Rattle.laws.proofs.Logic.{either_way, both_true, clash}
use Rattle.laws.proofs.Computed.{both_left, both_right, below}
use Rattle.cadence.specs.Giving.{cadence_fits, is_none}
use Rattle.steps.specs.declared.Session.{Session}
use Rattle.steps.specs.declared.Row.{Row}
use Rattle.steps.specs.declared.To.{To}
use Rattle.std.specs.Prelude.{Option, Some}
use Rattle.steps.specs.Table.{caller_still, calling, quiet, over, tick, rows, same_condition}
use Rattle.steps.specs.declared.Condition.{Condition}
use Rattle.steps.specs.declared.Condition.TheVariants.{Always, TeElapsed, NoneChosen, JmRefused, ChosenItem, NothingLeft, NoTone, BehindAnsam, BehindAns}
use Rattle.steps.proofs.Known.{asked_is}
use Rattle.steps.specs.Session.{between, is_te, state_fits, end_fits, cadence_of, in_range, caller}
use Rattle.steps.specs.Stepping.{StepOutcome, elapsed, is_sent, holds, applies, find_row, renewed, row_taken, remembered, moved, timed, stepped_in, stepped}
use Rattle.steps.specs.Runs.{least, ticks, limit_in, limit, passes}
use Rattle.steps.proofs.Known.{is_so, is_not, decide, taken_if, left_if, either_true, both_with}
use Rattle.steps.proofs.Rows.{Applies, Taken, step_case}
use Rattle.steps.proofs.Ranges.{range_fits, calls_by}

-- "'Elapsed' is tested on a tick only": a row for a tick asks for elapsed time, Te or more than none, and for nothing else; and
-- a row for another event asks for none. In calling a tick asks for a tone that is remembered, and for no time
abbrev asks_time : Row → Bool
asks_time r = when (same_condition r.condition TeElapsed) (eqb r.least 0) (both (same_condition r.condition Always) (ltb 0 r.least))

abbrev asks_none : Row → Bool
asks_none r = both (eqb r.least 0) (not (same_condition r.condition TeElapsed))

abbrev asks_tone : Row → Bool
asks_tone r = either (same_condition r.condition BehindAnsam) (same_condition r.condition BehindAns)

abbrev timely : Row → Bool
timely r = when (eqb r.event tick) (when (eqb r.state calling) (both (asks_none r) (asks_tone r)) (asks_time r)) (asks_none r)

-- Te is asked for in quiet alone
abbrev te_in_quiet : Row → Bool
te_in_quiet r = when (same_condition r.condition TeElapsed) (eqb r.state quiet) true

-- a row for a tick leaves its state, and leads to calling from the start alone
abbrev leaves : Row → Bool
leaves r = when (eqb r.event tick) (both (not (eqb r.to.0 r.state)) (when (eqb r.to.0 calling) (eqb r.state caller_still) true)) true

abbrev row_ticks : Row → Bool
row_ticks r = both (timely r) (both (te_in_quiet r) (leaves r))

pub rows_tick : T (every row_ticks rows)
unfolding when both either every rows
rows_tick = tt

-- every state but calling, closing and over has a row for a tick
unfoldable has_tick : ℕ → List Row → Bool
has_tick state [] = false
has_tick state (r ∷ rs) = either (ticks state r) (has_tick state rs)

abbrev passing : ℕ → Bool
passing n = when (both (ltb 0 n) (passes n)) (has_tick n rows) true

states_tick : T (all_below passing 11)
unfolding when both either all_below rows has_tick
states_tick = tt

-- what a row for a tick asks for comes to its time
least_by : (te : Bool) (condition : Condition) (n wait passed : ℕ) (rest : Bool) → T (when te (eqb n 0) (both (same_condition condition Always) (ltb 0 n))) → (same_condition condition Always ≡ true → rest ≡ true) → both (leb n passed) (when te (leb wait passed) rest) ≡ leb (when te wait n) passed
unfolding when both
least_by true condition n wait passed rest t e = rw (le-leb n passed (omega (arith, eqb→eq n 0 t)))
least_by false condition n wait passed rest t e = rw (e (is_so _ (both_left (same_condition condition Always) (ltb 0 n) t))) (both_with (leb n passed))

te_or : (c : Condition) (s : Session) (value passed : ℕ) → holds c s value passed ≡ when (same_condition c TeElapsed) (leb s.te passed) (holds c s value passed)
unfolding when
te_or Always s value passed = refl
te_or TeElapsed s value passed = refl
te_or NoneChosen s value passed = refl
te_or JmRefused s value passed = refl
te_or ChosenItem s value passed = refl
te_or NothingLeft s value passed = refl
te_or NoTone s value passed = refl
te_or BehindAnsam s value passed = refl
te_or BehindAns s value passed = refl

holds_least : (r : Row) (s : Session) (value passed : ℕ) → T (asks_time r) → both (leb r.least passed) (holds r.condition s value passed) ≡ leb (least r s) passed
holds_least r s value passed t =
    ap (both (leb r.least passed)) (te_or r.condition s value passed)
    ∙ least_by (same_condition r.condition TeElapsed) r.condition r.least s.te passed _ t (λ a. rw (asked_is r.condition Always a) refl)

-- one row of the search for a tick's row, by its tests: of the state, of the tick, of the time
tick_by : (a b h k : Bool) (P : Option To → Type 0) (x y : Option To) (m n passed : ℕ) → (a ≡ true → b ≡ true → h ≡ leb m passed) → T (either (both a b) k) → leb (when (both a b) m n) passed ≡ true → (a ≡ true → b ≡ true → h ≡ true → P x) → (T k → leb n passed ≡ true → P y) → P (when (both a (both b h)) x y)
unfolding when both either
tick_by true true true k P x y m n passed e t l at on = at refl refl refl
tick_by true true false k P x y m n passed e t l at on = clash (sym l ∙ sym (e refl refl))
tick_by true false h k P x y m n passed e t l at on = on t l
tick_by false b h k P x y m n passed e t l at on = on t l

module _ (s : Session) (value passed : ℕ) (elsewhere : eqb s.state calling ≡ false) where
  -- outside of calling, once the limit has passed, the row for a tick is found
  tick_case : (P : Option To → Type 0) (rs : List Row) → T (every row_ticks rs) → T (has_tick s.state rs) → leb (limit_in rs s) passed ≡ true → ((r : Row) → Applies s tick value passed r → T (row_ticks r) → P (Some r.to)) → P (find_row s tick value passed rs)
  unfolding find_row every has_tick limit_in applies
  tick_case P [] t has l at = absurd has
  tick_case P (r ∷ rs) t has l at =
      let row = both_left (row_ticks r) (every row_ticks rs) t in
      tick_by (eqb r.state s.state) (eqb r.event tick) (both (leb r.least passed) (holds r.condition s value passed)) (has_tick s.state rs) P (Some r.to) (find_row s tick value passed rs) (least r s) (limit_in rs s) passed
      (λ a b. holds_least r s value passed (left_if (eqb r.state calling) _ (asks_time r) (taken_if (eqb r.event tick) _ _ (both_left (timely r) _ row) b) (ap (λ (n : ℕ). eqb n calling) (eqb-true r.state s.state a) ∙ elsewhere))) has l
      (λ a b h. let asked = both_true _ _ h in at r (record { state = eqb-true _ _ a; on = eqb-true _ _ b; waited = asked.0; holding = asked.1 }) row)
      (λ k n. tick_case P rs (both_right (row_ticks r) (every row_ticks rs) t) k n at)

-- a state that is in range is one of the ten
pub between_true : (low high n : ℕ) → between low high n ≡ true → (low ≤ n) × (n ≤ high)
between_true low high n h = let tests = both_true _ _ h in (leb-true _ _ tests.0, leb-true _ _ tests.1)

pub state_small : (end state : ℕ) → state_fits end state ≡ true → (0 < state) × (state < 11)
state_small end state h =
    ⊎_elim (λ o. let e = eqb-true state over o in (omega (arith, e), omega (arith, e)))
    (λ o. either_way (λ (v : Bool). v ≡ true → (0 < state) × (state < 11)) (eqb end caller) _ _ (λ _ b. let n = between_true _ _ state b in (omega (arith, n.0), omega (arith, n.1))) (λ _ b. let n = between_true _ _ state b in (omega (arith, n.0), omega (arith, n.1))) o)
    (either_true (eqb state over) _ h)

module _ (s : Session) (value now : ℕ) (h : in_range s ≡ true) where
  -- a tick on the clock's good side looks up the table
  ticked : (s.state ≡ over → ⊥) → elapsed now s.entry < 2147483648 → stepped s tick value now ≡ moved s tick value now (find_row s tick value (elapsed now s.entry) rows)
  unfolding stepped_in timed when both either
  ticked o e = simp (h, ne_eqb _ _ o, lt-ltb _ _ e)

  -- the first tick at or past the limit leaves the state: none of these states can last
  pub leaves_in_time : passes s.state ≡ true → limit s ≤ elapsed now s.entry → elapsed now s.entry < 2147483648 → (stepped s tick value now).session.state ≡ s.state → ⊥
  unfolding both either
  leaves_in_time p l e stays =
      let small = state_small s.end s.state (range_fits s h).state in
      let going : s.state ≡ over → ⊥ = λ o. clash (sym p ∙ ap passes o) in
      let elsewhere = ne_eqb s.state calling (λ c. clash (sym p ∙ ap passes c)) in
      let has = taken_if (both (ltb 0 s.state) (passes s.state)) (has_tick s.state rows) true (below passing 11 states_tick s.state small.1) (simp (lt-ltb _ _ small.0, p)) in
      tick_case s value (elapsed now s.entry) elsewhere (λ (found : Option To). (moved s tick value now found).session.state ≡ s.state → ⊥) rows rows_tick has (le-leb _ _ l)
      (λ r a t.
      let apart = is_not (eqb r.to.0 r.state) (both_left (not (eqb r.to.0 r.state)) (when (eqb r.to.0 calling) (eqb r.state caller_still) true) (taken_if (eqb r.event tick) _ true (both_right (te_in_quiet r) (leaves r) (both_right (timely r) _ t)) (eq-eqb _ _ a.on))) in
      let moves : eqb r.to.0 s.state ≡ false = ap (eqb r.to.0) (sym a.state) ∙ apart in
      either_way (λ (o : StepOutcome). o.session.state ≡ s.state → ⊥) (eqb r.to.0 s.state) (remembered s tick) (row_taken (renewed s tick value now) r.to) (λ m. clash (sym m ∙ moves)) (λ _ m. eqb-false _ _ moves m))
      (sym (ap (λ (o : StepOutcome). o.session.state) (ticked going e)) ∙ stays)

-- behind a tick: in calling no tone is remembered that this tick could act on
abbrev Fresh : Session → ℕ → Type 0
Fresh s now = (s.entry ≡ now) × (s.state ≡ calling → s.cadence.tone ≡ 0)

-- the start of a caller has heard no tone
tone_by : (e f g : Bool) (n : Bool) (tone : ℕ) → e ≡ true → when e (both f (both g (eqb tone 0))) n ≡ true → tone ≡ 0
unfolding when
tone_by true f g n tone e h = eqb-true tone 0 (both_true g _ (both_true f _ h).1).1
tone_by false f g n tone e h = clash (sym e)

start_tone : (s : Session) → in_range s ≡ true → s.state ≡ caller_still → s.cadence.tone ≡ 0
unfolding both either when
start_tone s inside still =
    let f = range_fits s inside in
    let own = calls_by (eqb s.end caller) (sym (ap (state_fits s.end) still) ∙ f.state) in
    tone_by (eqb s.end caller) (cadence_fits s.cadence) (eqb s.cadence.sent 0) (is_none s.cadence) s.cadence.tone own (ap (λ (state : ℕ). cadence_of s.end state s.cadence) (sym still) ∙ f.cadence)

module _ (s : Session) (value now : ℕ) where
  -- what the table says of a row for a tick
  said : (r : Row) → Taken s tick value now r → T (row_ticks r) → T (both (not (eqb r.to.0 r.state)) (when (eqb r.to.0 calling) (eqb r.state caller_still) true))
  said r taking tested = taken_if (eqb r.event tick) _ true (both_right (te_in_quiet r) (leaves r) (both_right (timely r) _ tested)) (eq-eqb _ _ taking.row.on)

  -- none of them remembers its event
  moves : {A : Type 0} (r : Row) → Taken s tick value now r → T (row_ticks r) → eqb r.to.0 s.state ≡ true → A
  moves r taking tested stays = clash (sym stays ∙ ap (eqb r.to.0) (sym taking.row.state) ∙ is_not (eqb r.to.0 r.state) (both_left _ _ (said r taking tested)))

  -- a tick leaves the session as it was, or its time is the entry time
  pub same_or_entered_now : ((stepped s tick value now).session ≡ s) ⊎ Fresh (stepped s tick value now).session now
  same_or_entered_now =
      step_case s tick value now (λ (o : StepOutcome). (o.session ≡ s) ⊎ Fresh o.session now) row_ticks rows_tick (λ _ _ _. inl refl) (inl refl) moves
      (λ r taking tested _. inr (refl, λ c. start_tone s taking.inside (sym taking.row.state ∙ eqb→eq _ _ (taken_if (eqb r.to.0 calling) (eqb r.state caller_still) true (both_right _ _ (said r taking tested)) (eq-eqb _ _ c)))))

-- quiet is the caller's, whose Te is more than none
te_by : (t : Bool) (te : ℕ) (x : Bool) → when t true false ≡ true → when t (is_te te) x ≡ true → is_te te ≡ true
unfolding when
te_by true te x c e = e
te_by false te x c e = clash (sym c)

quiet_te : (end te state : ℕ) → state_fits end state ≡ true → end_fits end te ≡ true → state ≡ quiet → 0 < te
unfolding both either
quiet_te end te state f e q =
    let own : when (eqb end caller) true false ≡ true = sym (ap (state_fits end) q) ∙ f in
    omega (arith, (between_true 500 5000 te (te_by (eqb end caller) te _ own e)).0)

-- at the entry time no row for a tick applies that asks for time
least_some : (te : Bool) (condition : Condition) (n wait : ℕ) → T (when te (eqb n 0) (both (same_condition condition Always) (ltb 0 n))) → (te ≡ true → 0 < wait) → 0 < when te wait n
unfolding when
least_some true condition n wait t q = q refl
least_some false condition n wait t q = ltb→lt 0 n (both_right (same_condition condition Always) (ltb 0 n) t)

-- nor one that asks for a tone where none is remembered
toneless : (r : Row) (s : Session) (value passed : ℕ) → T (asks_tone r) → s.cadence.tone ≡ 0 → holds r.condition s value passed ≡ true → ⊥
unfolding when
toneless r s value passed asked none h =
    ⊎_elim
    (λ e. tone_apart 1 (λ z. omega (arith, z)) (subst (λ (w : Condition). holds w s value passed ≡ true) (asked_is r.condition BehindAnsam e) h))
    (λ e. tone_apart 2 (λ z. omega (arith, z)) (subst (λ (w : Condition). holds w s value passed ≡ true) (asked_is r.condition BehindAns e) h))
    (either_true (same_condition r.condition BehindAnsam) (same_condition r.condition BehindAns) (is_so _ asked))
  where
    tone_apart : (tone : ℕ) → (tone ≡ 0 → ⊥) → is_sent tone s.cadence ≡ true → ⊥
    tone_apart tone some sent = some (sym (eqb-true _ _ (both_true (eqb s.cadence.tone tone) _ sent).0) ∙ none)

tick_at_entry : (s : Session) (value now : ℕ) → Fresh s now → (stepped s tick value now).session ≡ s
unfolding elapsed both
tick_at_entry s value now fresh =
    step_case s tick value now (λ (o : StepOutcome). o.session ≡ s) row_ticks rows_tick (λ _ _ _. refl) refl (moves s value now)
    (λ r taking tested _.
    let asked = taken_if (eqb r.event tick) (when (eqb r.state calling) (both (asks_none r) (asks_tone r)) (asks_time r)) _ (both_left (timely r) _ tested) (eq-eqb _ _ taking.row.on) in
    absurd (⊎_elim
    (λ c. toneless r s value (elapsed now s.entry) (both_right (asks_none r) (asks_tone r) (taken_if (eqb r.state calling) _ (asks_time r) asked c)) (fresh.1 (sym taking.row.state ∙ eqb-true _ _ c)) taking.row.holding)
    (λ c. untimely r taking tested (left_if (eqb r.state calling) _ (asks_time r) asked c))
    (decide (eqb r.state calling))))
  where
    none : elapsed now s.entry ≡ 0
    none = simp fresh.0 (omega arith)

    untimely : (r : Row) → Taken s tick value now r → T (row_ticks r) → T (asks_time r) → ⊥
    untimely r taking tested asked =
        let f = range_fits s taking.inside in
        let te = both_left (te_in_quiet r) (leaves r) (both_right (timely r) _ tested) in
        let some = least_some (same_condition r.condition TeElapsed) r.condition r.least s.te asked (λ q. quiet_te s.end s.te s.state f.state f.end (sym taking.row.state ∙ eqb→eq _ _ (taken_if (same_condition r.condition TeElapsed) (eqb r.state quiet) true te q))) in
        let passed : leb (least r s) (elapsed now s.entry) ≡ true = sym (holds_least r s value (elapsed now s.entry) asked) ∙ simp (taking.row.waited, taking.row.holding) in
        omega (arith, some, none, leb-true (least r s) (elapsed now s.entry) passed)

-- "one tick makes one change at most": the same tick again changes nothing
pub tick_once : (s : Session) (value now : ℕ) → (stepped (stepped s tick value now).session tick value now).session ≡ (stepped s tick value now).session
tick_once s value now =
    ⊎_elim (λ e. ap (λ (x : Session). (stepped x tick value now).session) e)
    (λ fresh. tick_at_entry (stepped s tick value now).session value now fresh)
    (same_or_entered_now s value now)
