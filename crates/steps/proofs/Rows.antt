-- What an event leads to, by the row that is taken: one law for every promise about steps.
-- Assumes nothing.
use Rattle.std.proofs.Common.{◌≡◌, ℕ, ◌+◌, ◌<◌, ◌≤◌, Bool, true, false, T, eqb, leb, List, [], ◌∷◌, ◌++◌, length, get_or, drop, sym, refl, ◌∙◌, add-one, lit≤, drop-cons, eqb-true}
use Rattle.laws.specs.Logic.{when, both}
use Rattle.laws.specs.Tests.{every}
use Rattle.laws.proofs.Logic.{either_way, both_true}
use Rattle.laws.proofs.Computed.{both_left, both_right}
use Rattle.steps.specs.declared.Session.{Session}
use Rattle.steps.specs.declared.Row.{Row}
use Rattle.steps.specs.declared.To.{To}
use Rattle.std.specs.Prelude.{Option, Some, None}
use Rattle.steps.specs.Table.{condition_number, rows}
use Rattle.steps.specs.declared.Condition.{Condition}
use Rattle.steps.specs.declared.Condition.TheVariants.{Always, TeElapsed, NoneChosen, JmRefused, ChosenItem, NothingLeft, NoTone, BehindAnsam, BehindAns}
use Rattle.steps.specs.Session.{in_range}
use Rattle.steps.specs.Inner.{what_holds, find_held}
use Rattle.steps.specs.Stepping.{same, StepOutcome, elapsed, owns, carries, holds, row_fits, applies, find_row, renewed, row_taken, remembered, moved, refused_step, timed, stepped_in, stepped}

-- what a condition comes to stands at its number
held_at : (c : Condition) (s : Session) (value passed : ℕ) → get_or (what_holds s value passed) (condition_number c) false ≡ holds c s value passed
held_at Always s value passed = refl
held_at TeElapsed s value passed = refl
held_at NoneChosen s value passed = refl
held_at JmRefused s value passed = refl
held_at ChosenItem s value passed = refl
held_at NothingLeft s value passed = refl
held_at NoTone s value passed = refl
held_at BehindAnsam s value passed = refl
held_at BehindAns s value passed = refl

-- looking rows up by what was found of each condition finds the first that applies
held_finds : (s : Session) (event value passed : ℕ) (rs : List Row) → find_held s.state event passed (what_holds s value passed) rs ≡ find_row s event value passed rs
unfolding find_held find_row applies
held_finds s event value passed [] = refl
held_finds s event value passed (r ∷ rs) = rw (held_at r.condition s value passed, held_finds s event value passed rs) refl

-- the first of two, where there is one
abbrev or_else : Option To → Option To → Option To
or_else (Some to) behind = Some to
or_else None behind = behind

by_test : (t : Bool) (to : To) (all first behind : Option To) → all ≡ or_else first behind → when t (Some to) all ≡ or_else (when t (Some to) first) behind
unfolding when
by_test true to all first behind e = refl
by_test false to all first behind e = e

module _ (state event passed : ℕ) (held : List Bool) where
  -- row i is found where its test says that it applies, and where not, the first behind it
  module _ (part : List Row) (i : ℕ) (d : Row) (within : i < length part) (test : Bool) (says : test ≡ row_fits (get_or part i d) state event passed (get_or held (condition_number (get_or part i d).condition) false)) where
    row_at : drop i part ≡ get_or part i d ∷ drop (i + 1) part
    row_at = rw add-one (drop-cons part i d within)

    pub found_at : test ≡ true → find_held state event passed held (drop i part) ≡ Some (get_or part i d).to
    unfolding find_held when
    found_at applies = rw (row_at, ← says, applies) refl

    pub found_behind : test ≡ false → find_held state event passed held (drop i part) ≡ find_held state event passed held (drop (i + 1) part)
    unfolding find_held when
    found_behind not = rw (row_at, ← says, not) refl

  -- what is found in a first part is found, and what is not there is looked for behind it
  at_first : (first behind : List Row) → find_held state event passed held (first ++ behind) ≡ or_else (find_held state event passed held first) (find_held state event passed held behind)
  unfolding find_held
  at_first [] behind = refl
  at_first (r ∷ rs) behind =
      let holding = row_fits r state event passed (get_or held (condition_number r.condition) false) in
      by_test holding r.to _ _ _ (at_first rs behind)

module _ (s : Session) (event value passed : ℕ) (held : List Bool) (is : held ≡ what_holds s value passed) (first behind : List Row) (parts : first ++ behind ≡ rows) where
  in_parts : or_else (find_held s.state event passed held first) (find_held s.state event passed held behind) ≡ find_row s event value passed rows
  in_parts = sym (at_first s.state event passed held first behind) ∙ rw (is, parts) (held_finds s event value passed rows)

  pub found_early : (early : Option To) (to : To) → early ≡ find_held s.state event passed held first → early ≡ Some to → Some to ≡ find_row s event value passed rows
  found_early early to found at = rw (← found, at) at in_parts

  pub found_late : (early late : Option To) → early ≡ find_held s.state event passed held first → early ≡ None → late ≡ find_held s.state event passed held behind → late ≡ find_row s event value passed rows
  found_late early late found none later = later ∙ rw (← found, none) at in_parts

-- a row that applies is one of this state and this event, and what it asks for holds
pub record Applies (s : Session) (event value passed : ℕ) (r : Row) : Type 0 where
  pub state : r.state ≡ s.state
  pub on : r.event ≡ event
  pub waited : leb r.least passed ≡ true
  pub holding : holds r.condition s value passed ≡ true

module _ (s : Session) (event value passed : ℕ) where
  pub applied : (r : Row) → applies s event value passed r ≡ true → Applies s event value passed r
  unfolding applies
  applied r a =
      let tests = both_true _ _ a in
      let rest = both_true _ _ tests.1 in
      let asked = both_true _ _ rest.1 in
      record { state = eqb-true _ _ tests.0; on = eqb-true _ _ rest.0; waited = asked.0; holding = asked.1 }

  -- what holds of every row that applies, where each may use a test computed over the table, and of no row, holds of the search
  found_case : (P : Option To → Type 0) (p : Row → Bool) (rs : List Row) → T (every p rs) → ((r : Row) → Applies s event value passed r → T (p r) → P (Some r.to)) → P None → P (find_row s event value passed rs)
  unfolding find_row every
  found_case P p [] t at none = none
  found_case P p (r ∷ rs) t at none =
      either_way P (applies s event value passed r) (Some r.to) (find_row s event value passed rs)
      (λ a. at r (applied r a) (both_left (p r) (every p rs) t))
      (λ _. found_case P p rs (both_right (p r) (every p rs) t) at none)

-- where nothing is to be computed of the rows
pub any_row : T (every (λ r. true) rows)
unfolding every rows both
any_row = tt

module _ (s : Session) (event value now : ℕ) where
  -- a row that is taken: the session is in range, the event is its end's, and it may carry its value
  pub record Taken (r : Row) : Type 0 where
    pub inside : in_range s ≡ true
    pub own : owns s.end event ≡ true
    pub fit : carries event value ≡ true
    pub row : Applies s event value (elapsed now s.entry) r

  -- an event is refused with 7 to 10, or changes nothing, or one row remembers it or is taken, and that may use a test computed over the table
  pub step_case : (P : StepOutcome → Type 0) (p : Row → Bool) → T (every p rows) → ((n : ℕ) → 7 ≤ n → n ≤ 10 → P (refused_step n s)) → P (record { answer = same; session = s })
      → ((r : Row) → Taken r → T (p r) → eqb r.to.0 s.state ≡ true → P (remembered s event)) → ((r : Row) → Taken r → T (p r) → eqb r.to.0 s.state ≡ false → P (row_taken (renewed s event value now) r.to)) → P (stepped s event value now)
  unfolding stepped_in timed
  step_case P p t refused none remembers at =
      either_way P (in_range s) (stepped_in s event value now) (refused_step 10 s)
      (λ inside. either_way P _ (refused_step 7 s) _ (λ _. refused 7 (lit≤ tt) (lit≤ tt))
      (λ _. either_way P _ (timed s event value now) (refused_step 9 s)
      (λ tests. either_way P _ _ (refused_step 8 s)
      (λ _. found_case s event value (elapsed now s.entry) (λ (found : Option To). P (moved s event value now found)) p rows t
      (λ r row tested.
      let taking : Taken r = record { inside = inside; own = (both_true _ _ tests).0; fit = (both_true _ _ tests).1; row = row } in
      either_way P (eqb r.to.0 s.state) (remembered s event) (row_taken (renewed s event value now) r.to) (remembers r taking tested) (at r taking tested)) none)
      (λ _. refused 8 (lit≤ tt) (lit≤ tt)))
      (λ _. refused 9 (lit≤ tt) (lit≤ tt))))
      (λ _. refused 10 (lit≤ tt) (lit≤ tt))
