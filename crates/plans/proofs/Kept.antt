-- A text that is no mistake is a call that can be made, with the CM of a stranger where one calls: what is read stays good, line by line.
-- Assumes nothing.
use Rattle.std.proofs.Common.{◌≡◌, ℕ, ◌+◌, ◌%◌, ◌<◌, ◌≤◌, Bool, true, false, eqb, ltb, ◌⊎◌, List, [], ◌∷◌, ◌++◌, length, Option, Some, None, Result, Ok, Err, sym, refl, ◌∙◌, subst, inl, inr, append_assoc, append-nil, arith, lit<, lit≤, ltb-true, eqb-true}
use borrow.Author.Tests.{eqb-false}
use Rattle.std.specs.Bool.{⊤}
use Rattle.laws.specs.Logic.{when, both, either}
use Rattle.laws.proofs.Logic.{either_way, clash}
use Rattle.records.specs.declared.Record.{Record}
use Rattle.records.specs.Record.{in_use, bad_record}
use Rattle.cadence.specs.Cadence.{is_cadence}
use Rattle.steps.specs.Session.{is_te, default_te}
use Rattle.plans.specs.declared.Plan.{Plan}
use Rattle.plans.specs.declared.Mistake.{Mistake}
use Rattle.plans.specs.declared.Reading.{Reading}
use Rattle.plans.specs.declared.Scan.{Scan}
use Rattle.plans.specs.Text.{line_feed, word}
use Rattle.plans.specs.Reading.{beginning, in_end, bits, octets, first_octet, stranger, done, default_on, default_off, default_answer, is_on, is_answer, no_function, home_not_had, pcm_alone, no_caller, no_answerer, no_call, place, home, set_at, store, lacks_call, planning, is_stranger, is_said, record_of, record_mistake, with_home, finish_end, may_end, finish_line, between, scan_after, begins_word, read_byte, no_plan, fresh, unless, or_mistaken, missing, with_default, finished, read_from, octet_at, one_octet, octets_from, octets_in, cm_in}
use Rattle.plans.specs.Good.{GoodEnd, KnownCaller, Stranger, Good, PlansAreGood}
use Rattle.plans.proofs.Cadences.{both_periods}
use Rattle.plans.proofs.Marking.{zeros_at}
use Rattle.plans.proofs.Marks.{are_octets}
use Rattle.plans.proofs.Walk.{feeds_no_word}
use Rattle.plans.proofs.KeptSets.{Fits, Sound, sound_at, fits_home, fits_none}
use Rattle.plans.proofs.KeptLine.{Parts, Outside, within, Settled, cm_known, calling_on, settled_within, Kept, Later, not_none, call_had, no_names, kept_alone}
use Rattle.plans.proofs.KeptWords.{at_context, settled_at, kept_going, kept_word}

-- what is kept at the end of a line
abbrev Ended : List ℕ → Reading → Type 0
Ended cm r = r.what ≡ None → Kept cm r × Outside r.plan × Settled r.end r.context

no_bad : (own : Record) → record_mistake own ≡ None → bad_record own ≡ false
unfolding record_mistake when
no_bad own right = go (eqb own.home 0) (eqb (in_use own own.home).available 1) (bad_record own) right
  where
    go : (a b c : Bool) → when a (Some no_function) (when b (when c (Some pcm_alone) None) (Some home_not_had)) ≡ None → c ≡ false
    go true b c e = absurd (not_none e)
    go false true true e = absurd (not_none e)
    go false true false e = refl
    go false false c e = absurd (not_none e)

module _ (cm : List ℕ) (r : Reading) (kept : Kept cm r) where
  -- an end's line that names its home function
  kept_planning : within r.context ≡ true → record_mistake (record_of r.plan r.end) ≡ None → Ended cm (planning r r.plan.function r.plan.te beginning)
  unfolding planning both either
  kept_planning is-inside right made =
      let out : Outside r.plan = record { each = λ e low high some. go e low high some (eqb e r.end) refl; has_call = call_had (lacks_call r.plan) r.what made } in
      let calling = calling_on kept.calling (settled_within r.end r.context is-inside) r.end beginning (λ _ e. clash (sym e)) (λ _. refl) (λ e. absurd (omega (arith, e))) in
      (record { parts = kept.parts; names = kept.names; inside = λ e. clash (sym e); outside = λ _. out; calling = calling }, out, λ e. absurd (omega (arith, e)))
    where
      go : (e : ℕ) → 1 ≤ e → e ≤ 2 → 0 < set_at r.plan e home → (t : Bool) → eqb e r.end ≡ t → bad_record (record_of r.plan e) ≡ false
      go e low high some true same = rw (eqb-true e r.end same) (no_bad (record_of r.plan r.end) right)
      go e low high some false other = (kept.inside is-inside).other e low high (eqb-false e r.end other) some

  kept_home : within r.context ≡ true → Kept cm (with_home r) × (within (with_home r).context ≡ true)
  unfolding with_home both
  kept_home is-inside =
      either_way (λ (now : Reading). Kept cm now × (within now.context ≡ true)) (ltb 0 (set_at r.plan r.end home)) r (store r home r.first 0 r.first) (λ _. (kept, is-inside))
      (λ _. (kept_alone cm r kept is-inside home r.first (lit< tt) (fits_home r.first kept.names.first_one), refl))

-- the end of a line
module _ (cm : List ℕ) (r : Reading) (kept : Kept cm r) where
  kept_end : within r.context ≡ true → Ended cm (finish_end r)
  unfolding finish_end
  kept_end is-inside =
      let now = kept_home cm r kept is-inside in
      go (with_home r) (planning (with_home r) (with_home r).plan.function (with_home r).plan.te beginning) (record_mistake (record_of (with_home r).plan (with_home r).end)) (kept_planning cm (with_home r) now.0 now.1)
    where
      go : (line right : Reading) (what : Option ℕ) → (what ≡ None → Ended cm right) → Ended cm (or_mistaken line what right)
      go line right (Some what) ends none = absurd (not_none none)
      go line right None ends none = ends refl none

  -- where a line may end, it is no end's line, and no octet is asked for
  may_end_lem : may_end r.context ≡ true → (within r.context ≡ false) × Settled r.end r.context
  unfolding either both
  may_end_lem h = go (eqb r.context beginning) refl (eqb r.context bits) refl (eqb r.context octets) refl h
    where
      here : (context : ℕ) → within context ≡ false → (context ≡ first_octet → ⊥) → eqb r.context context ≡ true → (within r.context ≡ false) × Settled r.end r.context
      here context outside apart is = (at_context cm r kept context is ∙ outside, settled_at cm r kept context is apart)

      go :
          (a : Bool) → eqb r.context beginning ≡ a → (b : Bool) → eqb r.context bits ≡ b → (c : Bool) → eqb r.context octets ≡ c
          → either a (either b (either c (eqb r.context done))) ≡ true → (within r.context ≡ false) × Settled r.end r.context
      go true is b _ c _ _ = here beginning refl (λ e. omega (arith, e)) is
      go false _ true is c _ _ = here bits refl (λ e. omega (arith, e)) is
      go false _ false _ true is _ = here octets refl (λ e. omega (arith, e)) is
      go false _ false _ false _ is = here done refl (λ e. omega (arith, e)) is

  -- what does not come is a mistake, unless its number is 0, and that is none of an end's line
  kept_line : Ended cm (finish_line r)
  unfolding finish_line both either
  kept_line =
      either_way (Ended cm) (eqb r.context in_end) _ _ (λ t. kept_end (at_context cm r kept in_end t))
      (λ _. either_way (Ended cm) (may_end r.context) _ _
      (λ t _.
      let ends = may_end_lem t in
      let calling = calling_on kept.calling ends.1 r.end beginning (λ _ e. clash (sym e)) (λ _. refl) (λ e. absurd (omega (arith, e))) in
      (kept_going cm r kept cm beginning (sym ends.0) calling, kept.outside ends.0, λ e. absurd (omega (arith, e))))
      (λ _ none. absurd (not_none none)))

  kept_byte : (scan : Scan) (b : ℕ) (rest : List ℕ) → Later (cm ++ one_octet (octet_at 1 r scan b rest)) (read_byte r scan b rest)
  unfolding read_byte both when
  kept_byte scan b rest =
      let P = Later (cm ++ one_octet (octet_at 1 r scan b rest)) in
      let passed : (next : Reading) → begins_word scan b ≡ false → Later cm next → P next = λ next none later. rw (none, append-nil) later in
      either_way P (eqb b line_feed) _ _ (λ feed. passed _ (feeds_no_word scan b feed) (λ right. (kept_line right).0))
      (λ _. either_way P (begins_word scan b) _ _ (λ begins. rw begins (kept_word cm r kept (word (b ∷ rest))))
      (λ none. passed r none (λ _. kept)))

-- nothing is missing from a plan
three : (a b c : Bool) → when a (when b (when c None (Some no_call)) (Some no_answerer)) (Some no_caller) ≡ None → (a ≡ true) × (b ≡ true) × (c ≡ true)
unfolding when
three true true true e = (refl, refl, refl)
three true true false e = absurd (not_none e)
three true false c e = absurd (not_none e)
three false b c e = absurd (not_none e)

all_said : (plan : Plan) → missing plan ≡ None → (either (is_stranger plan) (ltb 0 (set_at plan 1 home)) ≡ true) × (ltb 0 (set_at plan 2 home) ≡ true) × (ltb 0 plan.function ≡ true)
unfolding missing is_said when
all_said plan none_missing = three (either (is_stranger plan) (ltb 0 (set_at plan 1 home))) (ltb 0 (set_at plan 2 home)) (ltb 0 plan.function) none_missing

-- the caller has the function called
is_called : (plan : Plan) → lacks_call plan ≡ false → ltb 0 (set_at plan 1 home) ≡ true → ltb 0 plan.function ≡ true → set_at plan 1 plan.function % 2 ≡ 1
unfolding lacks_call both
is_called plan has_call caller called =
    let odd : eqb (set_at plan 1 plan.function % 2) 0 ≡ false = simp (caller, called) at has_call in
    omega (arith, eqb-false (set_at plan 1 plan.function % 2) 0 odd)

-- Te, or the one of a start without a value
te_given : (te : ℕ) → either (eqb te 0) (is_te te) ≡ true → is_te (when (eqb te 0) default_te te) ≡ true
unfolding when either both
te_given te h = go (eqb te 0) h
  where
    go : (t : Bool) → either t (is_te te) ≡ true → is_te (when t default_te te) ≡ true
    go true _ = refl
    go false is-te = is-te

-- the time of the answer, or that of a text that gives none
answer_given : (answers : ℕ) → either (eqb answers 0) (is_answer answers) ≡ true → is_answer (when (eqb answers 0) default_answer answers) ≡ true
unfolding when either both
answer_given answers h = go (eqb answers 0) h
  where
    go : (t : Bool) → either t (is_answer answers) ≡ true → is_answer (when t default_answer answers) ≡ true
    go true _ = refl
    go false is-answer = is-answer

-- a cadence, or the one of a text that gives none
cadence_given :
    (on off : ℕ) → either (eqb on 0) (is_on on) ≡ true → either (eqb off 0) (is_cadence default_on off) ≡ true
    → is_cadence (when (eqb on 0) default_on on) (when (eqb off 0) default_off off) ≡ true
unfolding when either both
cadence_given on off is-on is-off = go (eqb on 0) (eqb off 0) is-on is-off
  where
    go : (a b : Bool) → either a (is_on on) ≡ true → either b (is_cadence default_on off) ≡ true → is_cadence (when a default_on on) (when b default_off off) ≡ true
    go true true _ _ = refl
    go true false _ off-given = off-given
    go false true on-given _ = on-given
    go false false on-given off-given = both_periods on off default_on default_off on-given off-given

good_end : (plan : Plan) (end : ℕ) → Sound plan.sets → bad_record (record_of plan end) ≡ false → GoodEnd plan end
good_end plan end sound accepted = record {
  accepted = accepted;
  sets = λ f six. go f six (eqb f 0) refl;
  nothing_else = λ f some six. (fits f (omega (arith, six))).whole some six;
  home_function = (fits 7 (lit< tt)).home refl;
  said = (fits 0 (lit< tt)).said refl;
}
  where
    fits : (k : ℕ) → k < 8 → Fits k (set_at plan end k)
    fits k h = sound_at plan.sets sound end k h

    go : (f : ℕ) → f ≤ 6 → (t : Bool) → eqb f 0 ≡ t → set_at plan end f < 65536
    go f six true none = omega (arith, (fits f (omega (arith, six))).said (eqb-true f 0 none))
    go f six false some = (fits f (omega (arith, six))).small (omega (arith, eqb-false f 0 some)) six

-- the caller is a stranger, or is known
good_caller : (plan : Plan) → Parts plan → Outside plan → ((k : ℕ) → k < 8 → plan.function ≡ stranger → set_at plan 1 k ≡ 0) → missing plan ≡ None → KnownCaller (with_default plan) ⊎ Stranger (with_default plan)
unfolding record_of either
good_caller plan parts out unsaid none_missing =
    let these = all_said plan none_missing in
    go (is_stranger plan) refl these.0 these.2
  where
    go :
        (t : Bool) → is_stranger plan ≡ t → either t (ltb 0 (set_at plan 1 home)) ≡ true → ltb 0 plan.function ≡ true → KnownCaller (with_default plan) ⊎ Stranger (with_default plan)
    go true is _ _ = let unknown = eqb-true plan.function stranger is in inr (record { unknown = unknown; nothing_said = λ k h. unsaid k h unknown })
    go false is known called =
        inl (record {
          caller = good_end (with_default plan) 1 parts.sets (out.each 1 (lit≤ tt) (lit≤ tt) (ltb-true 0 (set_at plan 1 home) known));
          function = (ltb-true 0 plan.function called, omega (arith, eqb-false plan.function stranger is, parts.function));
          called = is_called plan out.has_call known called;
        })

good_plan : (cm : List ℕ) (r : Reading) → Kept cm r → Outside r.plan → missing r.plan ≡ None → Good (with_default r.plan)
unfolding record_of
good_plan cm r kept out none_missing =
    let plan = r.plan in
    record {
      sixteen = kept.parts.sets.0;
      caller = good_caller plan kept.parts out (λ k h is. kept.calling.nothing_said is k h) none_missing;
      answerer = good_end (with_default plan) 2 kept.parts.sets (out.each 2 (lit≤ tt) (lit≤ tt) (ltb-true 0 (set_at plan 2 home) (all_said plan none_missing).1));
      te = te_given plan.te kept.parts.te;
      cadence = cadence_given plan.on plan.off kept.parts.on kept.parts.off;
      answers = answer_given plan.answers kept.parts.answers;
    }

-- a plan that a text is, and the octets of a stranger's CM: some, or none of a caller that is known
abbrev Told : List ℕ → Result Plan Mistake → Type 0
Told cm (Ok plan) = Good plan × (plan.function ≡ stranger → 0 < length cm) × ((plan.function ≡ stranger → ⊥) → cm ≡ [])
Told cm (Err wrong) = ⊤

unless_right : (cm : List ℕ) (what : Option ℕ) (at : ℕ) (right : Result Plan Mistake) → (what ≡ None → Told cm right) → Told cm (unless what at right)
unless_right cm (Some what) at right told = tt
unless_right cm None at right told = told refl

good_finish : (cm : List ℕ) (r : Reading) (at : ℕ) → Kept cm r → Told cm (finished r at)
unfolding finished
good_finish cm r at kept =
    let last = finish_line r in
    unless_right cm last.what at _
    (λ right.
    let now = kept_line cm r kept right in
    unless_right cm (missing last.plan) at _ (λ none_missing. (good_plan cm last now.0 now.1 none_missing, cm_known now.0.calling now.2, now.0.calling.none)))

good_text : (text cm : List ℕ) (r : Reading) (scan : Scan) (at : ℕ) → Kept cm r → Told (cm ++ octets_from 1 r scan text) (read_from r scan at text)
unfolding read_from octets_from
good_text [] cm r scan at kept = rw append-nil (good_finish cm r at kept)
good_text (b ∷ rest) cm r scan at kept =
    let next = read_byte r scan b rest in
    let one = one_octet (octet_at 1 r scan b rest) in
    let others = octets_from 1 next (scan_after scan b) rest in
    let all = cm ++ (one ++ others) in
    unless_right all next.what at _
    (λ right. subst (λ (list : List ℕ). Told list (read_from next (scan_after scan b) (at + 1) rest)) (append_assoc cm one others)
    (good_text rest (cm ++ one) next (scan_after scan b) (at + 1) (kept_byte cm r kept scan b rest right)))

kept_fresh : Kept [] fresh
unfolding lacks_call both either when
kept_fresh = record {
  parts = record { sets = (refl, λ p. rw (zeros_at 16 p) (fits_none (p % 8))); function = omega arith; te = refl; on = refl; off = refl; answers = refl };
  names = no_names no_plan 0;
  inside = λ e. clash (sym e);
  outside = λ _. record { each = λ e _ _ some. absurd (omega (arith, some, zeros_at 16 (place e home))); has_call = refl };
  calling = record {
    nothing_said = λ e. absurd (omega (arith, e));
    other = λ e. absurd (omega (arith, e));
    its_own = λ e. absurd (omega (arith, e));
    not_yet = λ _. refl;
    some = λ e. absurd (omega (arith, e));
    none = λ _. refl;
  };
}

pub plans_are_good : PlansAreGood
unfolding octets_in when
plans_are_good text plan right =
    let told = subst (Told (octets_from 1 fresh between text)) right (good_text text [] fresh between 0 kept_fresh) in
    let same : octets_from 1 fresh between text ≡ cm_in text = rw right in
    (told.0, record { octets = are_octets 1 text; some = λ is. rw (← same) (told.1 is); none = λ no. sym same ∙ told.2 no })
