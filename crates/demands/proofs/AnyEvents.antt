-- Whatever events come and bits are asked for, an end goes on with what an agreed menu brought, or is cleared by none: by the laws of the steps over many events.
-- Where every agreed menu carries the choice from the menus as sent, what was brought is that choice.
-- Assumes nothing.
use Prim.Native.Nat.{ℕ}
use mathlib.Core.Path.{◌≡◌, refl, sym, ap, subst, ◌∙◌}
use mathlib.Core.Bool.{true, false}
use mathlib.Core.List.{List, ◌∷◌, []}
use Rattle.laws.specs.Logic.{both, either}
use Rattle.laws.proofs.Logic.{clash}
use Rattle.records.specs.declared.Record.{Record}
use Rattle.cadence.specs.Cadence.{is_cadence}
use Rattle.cadence.specs.Giving.{begun}
use Rattle.steps.specs.declared.Session.{Session}
use Rattle.steps.specs.Session.{is_mode, is_te, caller_from, answerer_from}
use Rattle.steps.specs.Runs.{Act, next, run, Brought, here, later}
use Rattle.steps.proofs.Ranges.{caller_start_is_in_range, answerer_start_is_in_range}
use Rattle.steps.proofs.Choices.{goes_on_as_brought, went_on_as_brought, cleared_as_brought}
use Rattle.demands.specs.Joint.{cm_of, jm_of}
use Rattle.demands.specs.OneChoice.{Call, caller_names, answerer_names}
use Rattle.demands.specs.WholeCall.{carried}
use Rattle.demands.specs.AnyEvents.{Starts, calling, answering, EndsAsAgreed, Carrying, more, EndsOnlyWith, NoEndGoesOnOtherwise}
use Rattle.demands.proofs.WholeCall.{call_names, nothing_carried_lem, carries_nothing, carried_alike}

-- at a start no menu is agreed and nothing chosen
pub any_end_ends_as_agreed : (start : Session) → Starts start → (acts : List Act) → EndsAsAgreed start acts
unfolding either
any_end_ends_as_agreed start (calling now te function on off timed named lasting) acts =
    let from = caller_from now te (begun function on off) in
    let inside = caller_start_is_in_range now te function on off timed named lasting in
    record {
      goes = λ t choice e. goes_on_as_brought from acts t choice inside refl e;
      went = λ e. went_on_as_brought from acts inside refl e;
      clears = λ e. cleared_as_brought from acts refl refl e;
    }
any_end_ends_as_agreed start (answering now) acts = record {
  goes = λ t choice e. goes_on_as_brought (answerer_from now) acts t choice (answerer_start_is_in_range now) refl e;
  went = λ e. went_on_as_brought (answerer_from now) acts (answerer_start_is_in_range now) refl e;
  clears = λ e. cleared_as_brought (answerer_from now) acts refl refl e;
}

-- what is brought is what every agreed menu carries
brought_is : (choice other : ℕ) (s : Session) (acts : List Act) → Carrying choice s acts → Brought s acts other → other ≡ choice
brought_is choice other s [] _ brought = elim brought [ ]
brought_is choice other s (a ∷ acts) (more carries rest) (here agreed _) = carries agreed
brought_is choice other s (a ∷ acts) (more carries rest) (later _ brought) = brought_is choice other (next s a).session acts rest brought

-- none is no mode
no_mode : is_mode 0 ≡ false
unfolding both either
no_mode = refl

module _ (caller answerer : Record) (function : ℕ) (blocks : List ℕ) (call : Call caller answerer function blocks) (heard_cm heard_jm : List ℕ) (asSent : heard_cm ≡ cm_of caller function blocks) (asAnswered : heard_jm ≡ jm_of answerer heard_cm) where
  abbrev named : ℕ
  named = carried (caller_names caller function blocks heard_jm)

  ends_only : (start : Session) (acts : List Act) → Starts start → Carrying named start acts → EndsOnlyWith named caller answerer function start acts
  ends_only start acts starts carries =
      let ends = any_end_ends_as_agreed start starts acts in
      record {
        goes = λ t other e. brought_is named other start acts carries (ends.goes t other e).0;
        went = λ e. brought_is named (run start acts).chosen start acts carries (ends.went e).0;
        shared = λ e nothing.
            let is_none = brought_is named (run start acts).chosen start acts carries (ends.went e).0 ∙ carries_nothing caller answerer function blocks call heard_cm heard_jm asSent asAnswered nothing in
            clash (sym (ends.went e).1 ∙ ap is_mode is_none ∙ no_mode);
        clears = λ e. nothing_carried_lem caller answerer function blocks call heard_cm heard_jm asSent asAnswered (sym (brought_is named 0 start acts carries (ends.clears e)));
      }

  pub no_end_goes_on_otherwise : (on off callerStart te answererStart : ℕ) (callerActs answererActs : List Act) → is_te te ≡ true → is_cadence on off ≡ true
      → Carrying (carried (caller_names caller function blocks heard_jm)) (caller_from callerStart te (begun function on off)) callerActs
      → Carrying (carried (answerer_names answerer heard_cm)) (answerer_from answererStart) answererActs
      → NoEndGoesOnOtherwise (carried (caller_names caller function blocks heard_jm)) caller answerer function on off callerStart te answererStart callerActs answererActs
  no_end_goes_on_otherwise on off callerStart te answererStart callerActs answererActs timed lasting caller_carries answerer_carries = record {
    calling = ends_only (caller_from callerStart te (begun function on off)) callerActs (calling callerStart te function on off timed (call_names caller answerer function blocks call) lasting) caller_carries;
    answering =
        ends_only (answerer_from answererStart) answererActs (answering answererStart)
        (subst (λ (choice : ℕ). Carrying choice (answerer_from answererStart) answererActs) (sym (carried_alike caller answerer function blocks call heard_cm heard_jm asSent asAnswered)) answerer_carries);
  }
