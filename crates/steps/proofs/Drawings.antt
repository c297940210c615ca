-- What comes out of a session in range: bits of its cadence in calling alone, one behind the other whatever happens between; and behind ANSam
-- or ANS no more than is left, until a tick makes the change.
-- Assumes nothing.
use Rattle.std.proofs.Common.{◌≡◌, ℕ, ◌+◌, ◌-◌, ◌<◌, ◌≤◌, min, Bool, true, T, eqb, ltb, leb, ◌⊎◌, List, [], ◌∷◌, ◌++◌, map, length, sym, refl, ap, ◌∙◌, subst, ap₂, inl, inr, ⊎_elim, append_assoc, arith, lit<, ltb→lt, length-append, take_at, ltb-false, ltb-true, lt-ltb, eq-eqb, ne_eqb, eqb-true, le-leb}
use borrow.Author.Tests.{eqb-false}
use Rattle.laws.specs.Logic.{when, both, either}
use Rattle.laws.specs.Joined.{joined}
use Rattle.laws.specs.Tests.{every}
use Rattle.laws.proofs.Logic.{either_way, both_true, both_neither}
use Rattle.laws.proofs.Computed.{both_left, both_right}
use Rattle.cadence.specs.declared.Cadence.{Cadence}
use Rattle.cadence.specs.Cadence.{bits_from}
use Rattle.cadence.specs.Giving.{left, remembering, due, moved_on, giving}
use Rattle.cadence.proofs.Bits.{bits_length, bits_joined}
use Rattle.cadence.proofs.Left.{left_moved}
use Rattle.cadence.proofs.Outcomes.{given_in}
use Rattle.cadence.proofs.Placed.{placed, moved_placed, bits_placed}
use Rattle.steps.specs.declared.Session.{Session}
use Rattle.steps.specs.declared.Row.{Row}
use Rattle.steps.specs.declared.To.{To}
use Rattle.steps.specs.Table as table
use Rattle.steps.specs.Table.{calling, quiet, over, going, ansam, ans, tick, rows, same_condition}
use Rattle.steps.specs.declared.Condition.{Condition}
use Rattle.steps.specs.declared.Condition.TheVariants.{NoTone, NothingLeft}
use Rattle.steps.proofs.Known.{asked_is}
use Rattle.steps.specs.Session.{caller, in_range}
use Rattle.steps.specs.Stepping.{StepOutcome, elapsed, holds, applies, find_row, renewed, row_taken, remembered, timed, stepped_in, stepped}
use Rattle.steps.specs.Drawing.{DrawOutcome, drawing, drawn}
use Rattle.steps.specs.Runs.{Timed, Act, happens, asks, next, run, came, bits_of, given_out}
use Rattle.steps.proofs.Known.{is_so, decide, taken_if, either_true}
use Rattle.steps.proofs.Rows.{Taken, any_row, step_case}
use Rattle.steps.proofs.Ranges.{caller_calls, calling_cadence, step_keeps_range}
use Rattle.steps.proofs.Runs.{drawn_elsewhere, next_keeps_range, only_drawn}

-- what is done in turn
pub run_joined : (s : Session) (a b : List Act) → run s (a ++ b) ≡ run (run s a) b
unfolding run
run_joined s [] b = refl
run_joined s (x ∷ a) b = run_joined (next s x).session a b

pub given_joined : (s : Session) (a b : List Act) → given_out s (a ++ b) ≡ given_out s a ++ given_out (run s a) b
unfolding run given_out
given_joined s [] b = refl
given_joined s (x ∷ a) b = rw (given_joined (next s x).session a b) (sym (append_assoc (bits_of s x) (given_out (next s x).session a) _))

-- what is asked for in calling, and elsewhere
module _ (s : Session) (out : List ℕ) (inside : in_range s ≡ true) where
  abbrev asked : ℕ
  asked = due s.cadence (length out)

  drawn_calling : s.state ≡ calling → drawn s out ≡ drawing s (giving s.cadence asked out)
  unfolding drawn when
  drawn_calling c = simp (inside, eq-eqb _ _ c, given_in s.cadence out (calling_cadence s inside c))

  bits_calling : s.state ≡ calling → bits_of s (asks out) ≡ bits_from s.cadence.function s.cadence.on s.cadence.off s.cadence.place asked
  bits_calling c =
      ap (λ (o : DrawOutcome). came o.answer o.buffer) (drawn_calling c)
      ∙ take_at (bits_from s.cadence.function s.cadence.on s.cadence.off s.cadence.place asked) _ asked (bits_length s.cadence.function s.cadence.on s.cadence.off s.cadence.place asked)

  pub count_calling : s.state ≡ calling → length (bits_of s (asks out)) ≡ asked
  count_calling c = ap length (bits_calling c) ∙ bits_length s.cadence.function s.cadence.on s.cadence.off s.cadence.place asked

  pub bits_elsewhere : (s.state ≡ calling → ⊥) → bits_of s (asks out) ≡ []
  bits_elsewhere elsewhere = ap (λ (o : DrawOutcome). came o.answer o.buffer) (drawn_elsewhere s out inside elsewhere)

-- an event changes a tone of the cadence at most
only_tone : (s : Session) (event value now : ℕ) → (stepped s event value now).session.cadence ≡ remembering s.cadence (stepped s event value now).session.cadence.tone
only_tone s event value now =
    step_case s event value now (λ (o : StepOutcome). o.session.cadence ≡ remembering s.cadence o.session.cadence.tone) (λ r. true) any_row (λ _ _ _. refl) refl (λ _ _ _ _. refl) (λ _ _ _ _. refl)

module _ (function on off : ℕ) where
  -- a session in range whose cadence gave out n bits
  pub record Along (n : ℕ) (s : Session) : Type 0 where
    pub inside : in_range s ≡ true
    pub cadence : s.cadence ≡ placed function on off n s.cadence.tone

  -- the next bits of it
  pub record Goes (n : ℕ) (out : List ℕ) (s : Session) : Type 0 where
    pub bits : out ≡ bits_from function on off n (length out)
    pub along : Along (n + length out) s

  none_goes : (n : ℕ) (s : Session) → Along n s → Goes n [] s
  unfolding bits_from
  none_goes n s along = record { bits = refl; along = rw (let z : n + 0 ≡ n = omega arith in z) along }

  next_goes : (n : ℕ) (s : Session) (a : Act) → Along n s → Goes n (bits_of s a) (next s a).session
  next_goes n s (happens t) along =
      none_goes n (next s (happens t)).session (record {
        inside = next_keeps_range s (happens t) along.inside;
        cadence = only_tone s t.event t.value t.now ∙ ap (λ (c : Cadence). remembering c (next s (happens t)).session.cadence.tone) along.cadence;
      })
  next_goes n s (asks out) along =
      ⊎_elim
      (λ c.
      let in-calling = eqb-true _ _ c in
      let m = due s.cadence (length out) in
      let count = count_calling s out along.inside in-calling in
      let place = bits_calling s out along.inside in-calling ∙ ap (λ (c : Cadence). bits_from c.function c.on c.off c.place m) along.cadence ∙ bits_placed function on off n m in
      record {
        bits = place ∙ ap (bits_from function on off n) (sym count);
        along = record {
          inside = next_keeps_range s (asks out) along.inside;
          cadence =
              ap (λ (o : DrawOutcome). o.session.cadence) (drawn_calling s out along.inside in-calling)
              ∙ ap (λ (c : Cadence). moved_on c m) along.cadence
              ∙ moved_placed function on off n m s.cadence.tone
              ∙ ap₂ (λ (k tone : ℕ). placed function on off (n + k) tone) (sym count) (sym (only_drawn s out).tone);
        };
      })
      (λ c.
      let elsewhere = eqb-false _ _ c in
      rw (bits_elsewhere s out along.inside elsewhere, drawn_elsewhere s out along.inside elsewhere) (none_goes n s along))
      (decide (eqb s.state calling))

  pub run_goes : (n : ℕ) (s : Session) (acts : List Act) → Along n s → Goes n (given_out s acts) (run s acts)
  unfolding run given_out
  run_goes n s [] along = none_goes n s along
  run_goes n s (a ∷ acts) along =
      let here = next_goes n s a along in
      let later = run_goes (n + length (bits_of s a)) (next s a).session acts here.along in
      let b = bits_of s a in
      let g = given_out (next s a).session acts in
      let count : n + length (b ++ g) ≡ n + length b + length g = omega (arith, length-append b g) in
      record {
        bits = ap₂ ◌++◌ here.bits later.bits ∙ sym (bits_joined function on off (length b) (length g) n) ∙ ap (bits_from function on off n) (sym (length-append b g));
        along = rw count later.along;
      }

-- the tones that end the cadence, and where each leads
abbrev pub Tone : ℕ → Type 0
Tone event = (event ≡ ansam) ⊎ (event ≡ ans)

abbrev pub ends_in : ℕ → To
ends_in tone = when (eqb tone ansam) (record { 0 = quiet; 1 = going }) (record { 0 = over; 1 = table.left })

pub by_tone : (P : ℕ → Type 0) → P ansam → P ans → (tone : ℕ) → Tone tone → P tone
by_tone P a b tone is = ⊎_elim (λ e. subst P (sym e) a) (λ e. subst P (sym e) b) is

some_tone : (tone : ℕ) → Tone tone → tone ≡ 0 → ⊥
some_tone = by_tone (λ (e : ℕ). e ≡ 0 → ⊥) (λ z. omega (arith, z)) (λ z. omega (arith, z))

-- the rows that ask for no tone yet
abbrev first : Row → Bool
first r = either (same_condition r.condition NothingLeft) (same_condition r.condition NoTone)

-- no row leads back to calling, one that stays there asks for no tone yet, and so does each for ANSam or ANS
abbrev row_behind : Row → Bool
row_behind r =
    both (when (ltb calling r.state) (ltb calling r.to.0) true)
    (both (when (eqb r.state calling) (either (ltb calling r.to.0) (first r)) true)
    (when (leb r.event ans) (both (eqb r.state calling) (first r)) true))

rows_behind : T (every row_behind rows)
unfolding when both either every rows
rows_behind = tt

toneless : (r : Row) (s : Session) (value passed : ℕ) → first r ≡ true → holds r.condition s value passed ≡ true → s.cadence.tone ≡ 0
unfolding when
toneless r s value passed is h =
    ⊎_elim
    (λ e. eqb-true _ _ (both_true _ _ (subst (λ (w : Condition). holds w s value passed ≡ true) (asked_is r.condition NothingLeft e) h)).0)
    (λ e. eqb-true _ _ (subst (λ (w : Condition). holds w s value passed ≡ true) (asked_is r.condition NoTone e) h))
    (either_true (same_condition r.condition NothingLeft) (same_condition r.condition NoTone) is)

-- in calling, once a tone is remembered: since when, and how many bits are left
pub record Ending (tone entry n : ℕ) (s : Session) : Type 0 where
  pub inside : in_range s ≡ true
  pub sends : s.state ≡ calling
  pub since : s.entry ≡ entry
  pub heard : s.cadence.tone ≡ tone
  pub rest : left s.cadence ≡ n

-- behind calling
pub record Gone (s : Session) : Type 0 where
  pub inside : in_range s ≡ true
  pub state : calling < s.state

pub gone_elsewhere : (s : Session) → Gone s → s.state ≡ calling → ⊥
gone_elsewhere s gone c = omega (arith, gone.state, c)

pub gone_next : (s : Session) (a : Act) → Gone s → Gone (next s a).session
gone_next s (happens t) gone = record {
  inside = next_keeps_range s (happens t) gone.inside;
  state = step_case s t.event t.value t.now (λ (o : StepOutcome). calling < o.session.state) row_behind rows_behind (λ _ _ _. gone.state) gone.state (λ _ _ _ _. gone.state)
      (λ r taking tested _. ltb→lt _ _ (taken_if (ltb calling r.state) _ true (both_left _ _ tested) (lt-ltb calling r.state (omega (arith, gone.state, taking.row.state)))));
}
gone_next s (asks out) gone = rw (drawn_elsewhere s out gone.inside (gone_elsewhere s gone)) gone

module _ (tone entry : ℕ) (is : Tone tone) where
  -- behind a tone: at most n bits are left
  abbrev pub Behind : ℕ → Session → Type 0
  Behind n s = Ending tone entry n s ⊎ Gone s

  -- a row that is taken leads behind calling
  leads : (n : ℕ) (s : Session) (t : Timed) (r : Row) → Ending tone entry n s → Taken s t.event t.value t.now r → T (row_behind r) → calling < r.to.0
  leads n s t r e taking tested =
      let said = taken_if (eqb r.state calling) (either (ltb calling r.to.0) (first r)) true (both_left _ _ (both_right _ _ tested)) (eq-eqb _ _ (taking.row.state ∙ e.sends)) in
      ⊎_elim (λ away. ltb-true calling r.to.0 away)
      (λ none. absurd (some_tone tone is (sym e.heard ∙ toneless r s t.value (elapsed t.now s.entry) none taking.row.holding)))
      (either_true (ltb calling r.to.0) (first r) (is_so _ said))

  ending_step : (n : ℕ) (s : Session) (t : Timed) → Ending tone entry n s → Behind n (next s (happens t)).session
  ending_step n s t e =
      step_case s t.event t.value t.now (λ (o : StepOutcome). in_range o.session ≡ true → Behind n o.session) row_behind rows_behind (λ _ _ _ _. inl e) (λ _. inl e)
      (λ r taking tested stays _. absurd (let z : ⊥ = omega (arith, leads n s t r e taking tested, eqb-true r.to.0 s.state stays, e.sends) in z))
      (λ r taking tested _ inside. inr (record { inside = inside; state = leads n s t r e taking tested }))
      (next_keeps_range s (happens t) e.inside)

  -- of the bits that are asked for, those that are left come
  due_ending : (n : ℕ) (s : Session) (asked : ℕ) → Ending tone entry n s → due s.cadence asked ≡ min asked n
  unfolding when
  due_ending n s asked e =
      rw (ne_eqb s.cadence.tone 0 (λ none. some_tone tone is (sym e.heard ∙ none)))
      (either_way (λ (m : ℕ). m ≡ min asked n) (ltb (left s.cadence) asked) (left s.cadence) asked
      (λ less. omega (arith, ltb-true (left s.cadence) asked less, e.rest))
      (λ all. omega (arith, ltb-false (left s.cadence) asked all, e.rest)))

  record Drawing (n : ℕ) (s : Session) (out : List ℕ) : Type 0 where
    count : length (bits_of s (asks out)) ≡ min (length out) n
    leaves : Ending tone entry (n - length out) (next s (asks out)).session

  ending_asks : (n : ℕ) (s : Session) (out : List ℕ) → Ending tone entry n s → Drawing n s out
  ending_asks n s out e =
      let m = due s.cadence (length out) in
      let few = due_ending n s (length out) e in
      let only = only_drawn s out in
      let cadence = ap (λ (o : DrawOutcome). o.session.cadence) (drawn_calling s out e.inside e.sends) in
      let less = left_moved s.cadence m (calling_cadence s e.inside e.sends) (omega (arith, few, e.rest)) in
      record {
        count = count_calling s out e.inside e.sends ∙ few;
        leaves = record {
          inside = next_keeps_range s (asks out) e.inside;
          sends = ap (λ (x : Session). x.state) only.session ∙ e.sends;
          since = ap (λ (x : Session). x.entry) only.session ∙ e.since;
          heard = only.tone ∙ e.heard;
          rest = ap left cadence ∙ less ∙ (let z : left s.cadence - m ≡ n - length out = omega (arith, few, e.rest) in z);
        };
      }

  -- no more bits come than are left, whatever is done
  pub record Rest (n : ℕ) (out : List ℕ) (s : Session) : Type 0 where
    pub most : length out ≤ n
    pub behind : Behind (n - length out) s

  none_comes : (n : ℕ) (s : Session) → Behind n s → Rest n [] s
  none_comes n s behind = record { most = omega arith; behind = rw (let z : n - 0 ≡ n = omega arith in z) behind }

  next_behind : (n : ℕ) (s : Session) (a : Act) → Behind n s → Rest n (bits_of s a) (next s a).session
  next_behind n s (happens t) behind = none_comes n (next s (happens t)).session (⊎_elim (λ e. ending_step n s t e) (λ gone. inr (gone_next s (happens t) gone)) behind)
  next_behind n s (asks out) behind =
      ⊎_elim
      (λ e.
      let here = ending_asks n s out e in
      let fewer : n - length (bits_of s (asks out)) ≡ n - length out = omega (arith, here.count) in
      record { most = omega (arith, here.count); behind = rw fewer (inl here.leaves) })
      (λ gone. rw (bits_elsewhere s out gone.inside (gone_elsewhere s gone)) (none_comes n (next s (asks out)).session (inr (gone_next s (asks out) gone))))
      behind

  pub run_behind : (acts : List Act) (n : ℕ) (s : Session) → Behind n s → Rest n (given_out s acts) (run s acts)
  unfolding run given_out
  run_behind [] n s behind = none_comes n s behind
  run_behind (a ∷ acts) n s behind =
      let here = next_behind n s a behind in
      let later = run_behind acts (n - length (bits_of s a)) (next s a).session here.behind in
      let together = length-append (bits_of s a) (given_out (next s a).session acts) in
      let fewer : n - length (bits_of s a ++ given_out (next s a).session acts) ≡ n - length (bits_of s a) - length (given_out (next s a).session acts) = omega (arith, together) in
      record { most = omega (arith, here.most, later.most, together); behind = rw fewer later.behind }

  -- "a later ANS or ANSam changes nothing"
  pub later_tone : (n : ℕ) (s : Session) (event value now : ℕ) → Tone event → Behind n s → (stepped s event value now).session ≡ s
  later_tone n s event value now tones behind =
      step_case s event value now (λ (o : StepOutcome). o.session ≡ s) row_behind rows_behind (λ _ _ _. refl) refl (λ r taking tested _. absurd (none r taking tested)) (λ r taking tested _. absurd (none r taking tested))
    where
      none : (r : Row) → Taken s event value now r → T (row_behind r) → ⊥
      none r taking tested =
          let tone-row = taken_if (leb r.event ans) (both (eqb r.state calling) (first r)) true (both_right _ _ (both_right _ _ tested)) (ap (λ (e : ℕ). leb e ans) taking.row.on ∙ by_tone (λ (e : ℕ). leb e ans ≡ true) refl refl event tones) in
          ⊎_elim
          (λ e. some_tone tone is (sym e.heard ∙ toneless r s value (elapsed now s.entry) (is_so _ (both_right _ _ tone-row)) taking.row.holding))
          (λ gone. gone_elsewhere s gone (sym taking.row.state ∙ eqb-true _ _ (is_so _ (both_left _ _ tone-row))))
          behind

  -- bits that are asked for in turn
  pub record InTurn (n : ℕ) (s : Session) (outs : List (List ℕ)) : Type 0 where
    pub count : length (given_out s (map asks outs)) ≡ min (length (joined outs)) n
    pub leaves : Ending tone entry (n - length (joined outs)) (run s (map asks outs))

  pub ending_in_turn : (outs : List (List ℕ)) (n : ℕ) (s : Session) → Ending tone entry n s → InTurn n s outs
  unfolding run given_out joined
  ending_in_turn [] n s e = record { count = omega arith; leaves = rw (let z : n - 0 ≡ n = omega arith in z) e }
  ending_in_turn (out ∷ outs) n s e =
      let here = ending_asks n s out e in
      let later = ending_in_turn outs (n - length out) (next s (asks out)).session here.leaves in
      let both_of = length-append out (joined outs) in
      let fewer : n - length (out ++ joined outs) ≡ n - length out - length (joined outs) = omega (arith, both_of) in
      record {
        count = omega (arith, length-append (bits_of s (asks out)) (given_out (next s (asks out)).session (map asks outs)), here.count, later.count, both_of);
        leaves = rw fewer later.leaves;
      }

pub gone_in_turn : (outs : List (List ℕ)) (s : Session) → Gone s → (given_out s (map asks outs) ≡ []) × Gone (run s (map asks outs))
unfolding run given_out
gone_in_turn [] s gone = (refl, gone)
gone_in_turn (out ∷ outs) s gone = rw (bits_elsewhere s out gone.inside (gone_elsewhere s gone)) (gone_in_turn outs (next s (asks out)).session (gone_next s (asks out) gone))

-- in calling, within half the clock
module _ (s : Session) (value now : ℕ) (inside : in_range s ≡ true) (in-calling : s.state ≡ calling) (soon : elapsed now s.entry < 2147483648) where
  callers : s.end ≡ caller
  callers = eqb-true s.end caller (caller_calls s inside in-calling)

  waited : leb 0 (elapsed now s.entry) ≡ true
  waited = le-leb 0 (elapsed now s.entry) (omega arith)

  -- the first tone makes the change where nothing is left, and is remembered otherwise
  pub changes_at_once : (tone : ℕ) → Tone tone → s.cadence.tone ≡ 0 → left s.cadence ≡ 0 → stepped s tone value now ≡ row_taken (renewed s tone value now) (ends_in tone)
  unfolding stepped_in timed find_row applies rows when both either
  changes_at_once tone is none nothing =
      by_tone (λ (e : ℕ). stepped s e value now ≡ row_taken (renewed s e value now) (ends_in e))
      (simp (inside, in-calling, callers, lt-ltb _ _ soon, waited, none, nothing))
      (simp (inside, in-calling, callers, lt-ltb _ _ soon, waited, none, nothing)) tone is

  pub is_remembered : (tone : ℕ) → Tone tone → s.cadence.tone ≡ 0 → (left s.cadence ≡ 0 → ⊥) → stepped s tone value now ≡ remembered s tone
  unfolding stepped_in timed find_row applies rows when both either
  is_remembered tone is none some =
      by_tone (λ (e : ℕ). stepped s e value now ≡ remembered s e)
      (simp (inside, in-calling, callers, lt-ltb _ _ soon, waited, none, ne_eqb _ _ some))
      (simp (inside, in-calling, callers, lt-ltb _ _ soon, waited, none, ne_eqb _ _ some)) tone is

  -- so it leaves calling, or some bits are left
  pub hears : (tone : ℕ) → Tone tone → s.cadence.tone ≡ 0 → ((left s.cadence ≡ 0) × Gone (stepped s tone value now).session) ⊎ Ending tone s.entry (left s.cadence) (stepped s tone value now).session
  unfolding when left
  hears tone is none =
      let kept = step_keeps_range s tone value now inside in
      ⊎_elim
      (λ z.
      let nothing = eqb-true _ _ z in
      let leads : calling < (ends_in tone).0 = by_tone (λ (e : ℕ). calling < (ends_in e).0) (lit< tt) (lit< tt) tone is in
      inl (nothing, record { inside = kept; state = rw (changes_at_once tone is none nothing) leads }))
      (λ z.
      let same = is_remembered tone is none (eqb-false _ _ z) in
      inr (record {
        inside = kept;
        sends = ap (λ (o : StepOutcome). o.session.state) same ∙ in-calling;
        since = ap (λ (o : StepOutcome). o.session.entry) same;
        heard = ap (λ (o : StepOutcome). o.session.cadence.tone) same;
        rest = ap (λ (o : StepOutcome). left o.session.cadence) same;
      }))
      (decide (eqb (left s.cadence) 0))

  -- a tick makes the change behind the last bit, and not before it
  pub changes_at_last : (tone : ℕ) → Tone tone → s.cadence.tone ≡ tone → left s.cadence ≡ 0 → stepped s tick value now ≡ row_taken (renewed s tick value now) (ends_in tone)
  unfolding stepped_in timed find_row applies rows when both either
  changes_at_last tone is heard nothing =
      by_tone (λ (e : ℕ). s.cadence.tone ≡ e → stepped s tick value now ≡ row_taken (renewed s tick value now) (ends_in e))
      (λ heard. simp (inside, in-calling, callers, lt-ltb _ _ soon, waited, heard, nothing))
      (λ heard. simp (inside, in-calling, callers, lt-ltb _ _ soon, waited, heard, nothing)) tone is heard

  pub waits_for_bits : (left s.cadence ≡ 0 → ⊥) → (stepped s tick value now).session ≡ s
  unfolding stepped_in timed find_row applies rows when both either
  waits_for_bits some = simp (inside, in-calling, lt-ltb _ _ soon, waited, ne_eqb _ _ some, both_neither)
