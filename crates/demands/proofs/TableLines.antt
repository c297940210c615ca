-- Each line of the table, by the rows: with the state and the event given, every row but the line's own is computed away, and what is left is its
-- time and what else it asks for.
-- Assumes nothing.
use Prim.Native.Nat.{ℕ}
use native.Mathlib.Omega.{arith}
use mathlib.Core.Path.{◌≡◌, refl, sym, ap, ◌∙◌}
use mathlib.Core.Bool.{Bool, true, false}
use borrow.Author.Tests.{le-leb, eqb-true}
use lib.Dec.{leb, eqb}
use Rattle.laws.specs.Logic.{when, both, either}
use Rattle.laws.proofs.Logic.{either_way, both_neither, clash}
use Rattle.cadence.specs.declared.Cadence.{Cadence}
use Rattle.cadence.specs.Giving.{left}
use Rattle.steps.specs.declared.Session.{Session}
use Rattle.steps.specs.Table.{caller_still, calling, quiet, menu, closing, pause, answerer_still, answering, joint, over, ansam, ans, sig_a, agreed_jm, cj_sent, agreed_cm, sig_c, cj, tick, rows}
use Rattle.steps.specs.Session.{caller, answerer, is_choice}
use Rattle.steps.specs.Stepping.{StepOutcome, elapsed, owns, carries, refused_with_11, applies, find_row, moved, stepped}
use Rattle.steps.proofs.Refused.{in_time}
use Rattle.demands.specs.TableLines.{session, InTime, stays, CallerGoesByTheTable, AnswererGoesByTheTable, PauseGoesByTheTable}

-- an event that goes to the table
to_the_table : (s : Session) (event value now : ℕ) → InTime s now → (s.state ≡ over → ⊥) → both (owns s.end event) (carries event value) ≡ true
    → stepped s event value now ≡ moved s event value now (find_row s event value (elapsed now s.entry) rows)
to_the_table s event value now t going own = in_time s event value now t.inside going own t.soon

-- by a test
by_test : (given outcome other : StepOutcome) (t : Bool) → (t ≡ true → given ≡ outcome) → (t ≡ false → given ≡ other) → given ≡ when t outcome other
by_test given outcome other t holds fails = either_way (λ (o : StepOutcome). given ≡ o) t outcome other holds fails

-- by the tone that was heard, and what is left
by_tone : (s : Session) (given outcome remembered : StepOutcome) → (eqb s.cadence.tone 0 ≡ true → eqb (left s.cadence) 0 ≡ true → given ≡ outcome) → (eqb s.cadence.tone 0 ≡ true → eqb (left s.cadence) 0 ≡ false → given ≡ remembered)
    → (eqb s.cadence.tone 0 ≡ false → given ≡ stays s) → given ≡ when (eqb s.cadence.tone 0) (when (eqb (left s.cadence) 0) outcome remembered) (stays s)
by_tone s given outcome remembered none some later = by_test given _ (stays s) (eqb s.cadence.tone 0) (λ e. by_test given outcome remembered (eqb (left s.cadence) 0) (none e) (some e)) later

-- any time will do
some_time : (passed : ℕ) → leb 0 passed ≡ true
some_time passed = le-leb 0 passed (omega arith)

-- no choice is the number of a refused one
not_11 : (choice : ℕ) → is_choice choice ≡ true → eqb choice refused_with_11 ≡ false
unfolding when both either
not_11 choice fits = by_number (eqb choice refused_with_11) refl
  where
    by_number : (t : Bool) → eqb choice refused_with_11 ≡ t → t ≡ false
    by_number true e = clash (sym (sym (ap is_choice (eqb-true choice refused_with_11 e)) ∙ fits))
    by_number false e = refl

module _ (te chosen entry now : ℕ) (c : Cadence) where
  pub caller_goes_by_the_table : CallerGoesByTheTable te chosen entry now c
  unfolding rows find_row applies when both either
  caller_goes_by_the_table = record {
    still = λ v t. let s = session caller te c caller_still chosen entry in let row = to_the_table s tick v now t (λ z. omega (arith, z)) refl in by_test _ _ _ (leb 1000 (elapsed now entry)) (λ e. row ∙ rw e) (λ e. row ∙ rw e);
    on_ansam = λ v t. let s = session caller te c calling chosen entry in let row = to_the_table s ansam v now t (λ z. omega (arith, z)) refl in by_tone s _ _ _ (λ e l. row ∙ rw (some_time (elapsed now entry), e, l)) (λ e l. row ∙ rw (some_time (elapsed now entry), e, l)) (λ e. row ∙ rw (some_time (elapsed now entry), e));
    on_ans = λ v t. let s = session caller te c calling chosen entry in let row = to_the_table s ans v now t (λ z. omega (arith, z)) refl in by_tone s _ _ _ (λ e l. row ∙ rw (some_time (elapsed now entry), e, l)) (λ e l. row ∙ rw (some_time (elapsed now entry), e, l)) (λ e. row ∙ rw (some_time (elapsed now entry), e));
    in_calling = λ v t.
        let s = session caller te c calling chosen entry in
        let row = to_the_table s tick v now t (λ z. omega (arith, z)) refl in
        let time = some_time (elapsed now entry) in
        by_test _ _ _ (eqb (left c) 0)
        (λ l. by_test _ _ _ (eqb c.tone ansam) (λ a. row ∙ rw (time, a, l)) (λ a. by_test _ _ _ (eqb c.tone ans) (λ b. row ∙ rw (time, a, b, l)) (λ b. row ∙ rw (time, a, b))))
        (λ l. row ∙ rw (time, l, both_neither (eqb c.tone ansam), both_neither (eqb c.tone ans)));
    on_sig_a = λ v t. to_the_table (session caller te c calling chosen entry) sig_a v now t (λ z. omega (arith, z)) refl ∙ rw (some_time (elapsed now entry));
    in_quiet = λ v t. let s = session caller te c quiet chosen entry in let row = to_the_table s tick v now t (λ z. omega (arith, z)) refl in by_test _ _ _ (leb te (elapsed now entry)) (λ e. row ∙ rw (some_time (elapsed now entry), e)) (λ e. row ∙ rw (some_time (elapsed now entry), e));
    on_jm = λ choice fits t. let not_refused = not_11 choice fits in to_the_table (session caller te c menu chosen entry) agreed_jm choice now t (λ z. omega (arith, z)) (rw (not_refused, fits)) ∙ rw (not_refused, some_time (elapsed now entry), not_refused);
    on_refused_jm = λ t. to_the_table (session caller te c menu chosen entry) agreed_jm refused_with_11 now t (λ z. omega (arith, z)) refl ∙ rw (some_time (elapsed now entry));
    in_menu = λ v t. let s = session caller te c menu chosen entry in let row = to_the_table s tick v now t (λ z. omega (arith, z)) refl in by_test _ _ _ (leb 10000 (elapsed now entry)) (λ e. row ∙ rw e) (λ e. row ∙ rw e);
    on_cj_sent = λ v t. let s = session caller te c closing chosen entry in let row = to_the_table s cj_sent v now t (λ z. omega (arith, z)) refl in by_test _ _ _ (eqb chosen 0) (λ e. row ∙ rw (some_time (elapsed now entry), e)) (λ e. row ∙ rw (some_time (elapsed now entry), e));
  }

  pub answerer_goes_by_the_table : AnswererGoesByTheTable chosen entry now c
  unfolding rows find_row applies when both either
  answerer_goes_by_the_table = record {
    still = λ v t. let s = session answerer 0 c answerer_still chosen entry in let row = to_the_table s tick v now t (λ z. omega (arith, z)) refl in by_test _ _ _ (leb 200 (elapsed now entry)) (λ e. row ∙ rw e) (λ e. row ∙ rw e);
    on_cm = λ choice fits t. to_the_table (session answerer 0 c answering chosen entry) agreed_cm choice now t (λ z. omega (arith, z)) (rw fits) ∙ rw (some_time (elapsed now entry));
    on_sig_c = λ item fits t. to_the_table (session answerer 0 c answering chosen entry) sig_c item now t (λ z. omega (arith, z)) (rw fits) ∙ rw (some_time (elapsed now entry));
    in_answering = λ v t. let s = session answerer 0 c answering chosen entry in let row = to_the_table s tick v now t (λ z. omega (arith, z)) refl in by_test _ _ _ (leb 5000 (elapsed now entry)) (λ e. row ∙ rw e) (λ e. row ∙ rw e);
    on_cj = λ v t. let s = session answerer 0 c joint chosen entry in let row = to_the_table s cj v now t (λ z. omega (arith, z)) refl in by_test _ _ _ (eqb chosen 0) (λ e. row ∙ rw (some_time (elapsed now entry), e)) (λ e. row ∙ rw (some_time (elapsed now entry), e));
    on_chosen_sig_c = λ item fits t. let s = session answerer 0 c joint chosen entry in let row = to_the_table s sig_c item now t (λ z. omega (arith, z)) (rw fits) in by_test _ _ _ (eqb item chosen) (λ e. row ∙ rw (some_time (elapsed now entry), e)) (λ e. row ∙ rw (some_time (elapsed now entry), e));
    in_joint = λ v t. let s = session answerer 0 c joint chosen entry in let row = to_the_table s tick v now t (λ z. omega (arith, z)) refl in by_test _ _ _ (leb 10000 (elapsed now entry)) (λ e. row ∙ rw e) (λ e. row ∙ rw e);
  }

  pub pause_goes_by_the_table : (end : ℕ) → PauseGoesByTheTable end te chosen entry now c
  unfolding rows find_row applies when both either
  pause_goes_by_the_table end = record {
    in_pause = λ v t.
        let s = session end te c pause chosen entry in
        let row = to_the_table s tick v now t (λ z. omega (arith, z)) refl in
        by_test _ _ _ (leb 75 (elapsed now entry)) (λ e. by_test _ _ _ (eqb chosen 0) (λ none. row ∙ rw (e, none)) (λ some. row ∙ rw (e, some))) (λ e. row ∙ rw e);
  }
