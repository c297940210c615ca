-- What is read stays good, word by word.
-- Assumes nothing.
use Rattle.std.proofs.Common.{◌≡◌, ℕ, zero, suc, ◌<◌, ◌≤◌, Bool, true, false, eqb, ltb, ◌⊎◌, List, [], ◌∷◌, ◌++◌, Option, Some, None, length, sym, refl, ap, ◌∙◌, subst, ap₂, inl, inr, ⊎_elim, append-nil, le_refl, arith, lit<, lit≤, length-append, ltb-false, le-ltb, lt-ltb, ne_eqb, eqb-true}
use borrow.Author.Tests.{eqb-false}
use Rattle.laws.specs.Logic.{when, both, either}
use Rattle.laws.proofs.Logic.{either_way, both_true, both_neither, clash}
use Rattle.names.specs.declared.Meaning.{Meaning}
use Rattle.names.specs.Names.{end, line, function, mode, other_mode, part, wanted, quality, named}
use Rattle.records.specs.Record.{bad_record}
use Rattle.cadence.specs.Cadence.{is_cadence}
use Rattle.steps.specs.Session.{is_te}
use Rattle.plans.specs.declared.Plan.{Plan}
use Rattle.plans.specs.declared.Reading.{Reading}
use Rattle.plans.specs.Text.{number, octet}
use Rattle.plans.specs.Reading.{beginning, in_end, after_home, after_wants, after_call, after_te, after_damaged, first_bit, bits, done, first_octet, octets, sends_alone, octets_behind, cadence_behind, after_cadence, after_on, answers_behind, after_answers, default_on, default_off, stranger, twice, with_call, mistaken, going, begin_line, home, set_at, say, lacks_call, planning, cadenced, answering, all_said, nothing_yet, name_cm, part_word, end_word, is_said, begin_named, behind_name, first_word, name_call, function_word, name_word, named_word, te_word, is_on, on_word, off_word, is_answer, answer_word, one_of, bit_word, octet_word, at_bits, at_octets, at_number, number_word, asked_number, read_word, record_of, one_octet}
use Rattle.plans.proofs.Cadences.{both_periods}
use Rattle.plans.proofs.Meant.{Meant, meant}
use Rattle.plans.proofs.KeptLine.{Outside, within, Calling, Settled, calling_on, settled_within, Kept, Later, not_none, call_had, new_line, kept_wanted, kept_mode, kept_home, kept_function}

-- a part of an end's line goes on with the line, and another line is none of an end
is_within : (n : ℕ) → 2 ≤ n → n ≤ 4 → within n ≡ true
unfolding both
is_within n low high = simp (lt-ltb 1 n low, lt-ltb n 5 (omega (arith, high)))

not_within : (n : ℕ) → 5 ≤ n → within n ≡ false
not_within n high = simp (le-ltb n 5 high, both_neither)

behind_line : (n : ℕ) → 5 ≤ n → 5 ≤ behind_name n
behind_line n high =
    let P : ℕ → Type 0 = λ (k : ℕ). 5 ≤ k in
    either_way P (eqb n octets_behind) first_octet (when (eqb n cadence_behind) after_cadence (when (eqb n answers_behind) after_answers n)) (λ _. lit≤ tt)
    (λ _. either_way P (eqb n cadence_behind) after_cadence (when (eqb n answers_behind) after_answers n) (λ _. lit≤ tt)
    (λ _. either_way P (eqb n answers_behind) after_answers n (λ _. lit≤ tt) (λ _. high)))

-- what may come next is a function to call behind the name of that line alone
behind_call : (n : ℕ) → behind_name n ≡ after_call → n ≡ after_call
behind_call n =
    let P : ℕ → Type 0 = λ (k : ℕ). k ≡ after_call → n ≡ after_call in
    either_way P (eqb n octets_behind) first_octet (when (eqb n cadence_behind) after_cadence (when (eqb n answers_behind) after_answers n)) (λ _ e. absurd (omega (arith, e)))
    (λ _. either_way P (eqb n cadence_behind) after_cadence (when (eqb n answers_behind) after_answers n) (λ _ e. absurd (omega (arith, e)))
    (λ _. either_way P (eqb n answers_behind) after_answers n (λ _ e. absurd (omega (arith, e))) (λ _ e. e)))

-- so no function was called before
none_called : (plan : Plan) (name : ℕ) → is_said plan name ≡ false → name ≡ after_call → plan.function ≡ 0
unfolding is_said when
none_called plan name is-new is = let few = ltb-false 0 plan.function (rw is at is-new) in omega (arith, few)

-- and no stranger where the caller's line begins
no_stranger : (plan : Plan) (end : ℕ) → is_said plan end ≡ false → plan.function ≡ stranger → end ≡ 1 → ⊥
unfolding is_said when either
no_stranger plan end is-new is is-caller = clash (rw (is-caller, is) at is-new)

-- nothing is said of an end
unsaid : (plan : Plan) (end : ℕ) → all_said plan end ≡ 0 → (k : ℕ) → k < 8 → set_at plan end k ≡ 0
unsaid plan end none zero h = omega (arith, none)
unsaid plan end none (suc zero) h = omega (arith, none)
unsaid plan end none (suc (suc zero)) h = omega (arith, none)
unsaid plan end none (suc (suc (suc zero))) h = omega (arith, none)
unsaid plan end none (suc (suc (suc (suc zero)))) h = omega (arith, none)
unsaid plan end none (suc (suc (suc (suc (suc zero))))) h = omega (arith, none)
unsaid plan end none (suc (suc (suc (suc (suc (suc zero)))))) h = omega (arith, none)
unsaid plan end none (suc (suc (suc (suc (suc (suc (suc zero))))))) h = omega (arith, none)
unsaid plan end none (suc (suc (suc (suc (suc (suc (suc (suc k)))))))) h = absurd (omega (arith, h))

or_else : {b : Bool} (a : Bool) → b ≡ true → either a b ≡ true
unfolding either
or_else true h = refl
or_else false h = h

module _ (cm : List ℕ) (r : Reading) (kept : Kept cm r) where
  slip : (what : ℕ) → Later cm (mistaken r what)
  slip what _ = kept

  abbrev Calls : ℕ → ℕ → Type 0
  Calls end context = Calling r.plan.sets r.plan.function end context cm

  pub at_context : (context : ℕ) → eqb r.context context ≡ true → within r.context ≡ within context
  at_context context here = ap within (eqb-true r.context context here)

  -- no octet is asked for where another context is
  pub settled_at : (context : ℕ) → eqb r.context context ≡ true → (context ≡ first_octet → ⊥) → Settled r.end r.context
  settled_at context here apart is _ = apart (sym (eqb-true r.context context here) ∙ is)

  pub kept_going : (cm' : List ℕ) (context : ℕ) → within context ≡ within r.context → Calling r.plan.sets r.plan.function r.end context cm' → Kept cm' (going r context)
  kept_going cm' context same calling = record {
    parts = kept.parts;
    names = kept.names;
    inside = λ e. kept.inside (sym same ∙ e);
    outside = λ e. kept.outside (sym same ∙ e);
    calling = calling;
  }

  -- a CM that is given, where nothing is said of the caller
  kept_cm : within r.context ≡ true → Later cm (name_cm r)
  unfolding planning record_of both either
  kept_cm is-inside =
      either_way (Later cm) (nothing_yet r) (planning r stranger r.plan.te first_octet) (mistaken r sends_alone)
      (λ nothing right.
      let first = both_true (eqb r.end 1) (both (eqb (all_said r.plan 1) 0) (eqb r.plan.function 0)) nothing in
      let second = both_true (eqb (all_said r.plan 1) 0) (eqb r.plan.function 0) first.1 in
      let is-caller = eqb-true r.end 1 first.0 in
      let none_said = unsaid r.plan 1 (eqb-true (all_said r.plan 1) 0 second.0) in
      let none_called = eqb-true r.plan.function 0 second.1 in
      record {
        parts = record { sets = kept.parts.sets; function = le_refl stranger; te = kept.parts.te; on = kept.parts.on; off = kept.parts.off; answers = kept.parts.answers };
        names = record { first_one = kept.names.first_one; last_one = kept.names.last_one; odd = kept.names.odd };
        inside = λ e. clash (sym e);
        outside = λ _. record {
          each = λ e low high some. go is-caller none_said e low high some (eqb e 1) refl;
          has_call = call_had (lacks_call (with_call r.plan stranger r.plan.te)) r.what right;
        };
        calling = record {
          nothing_said = λ _. none_said;
          other = λ _ e. clash (sym e);
          its_own = λ _ _. refl;
          not_yet = λ e. absurd (omega (arith, e));
          some = λ _. inr (refl, is-caller);
          none = λ no. absurd (no refl);
        };
      })
      (λ _. slip sends_alone)
    where
      go :
          r.end ≡ 1 → ((k : ℕ) → k < 8 → set_at r.plan 1 k ≡ 0) → (e : ℕ) → 1 ≤ e → e ≤ 2 → 0 < set_at r.plan e home → (t : Bool) → eqb e 1 ≡ t
          → bad_record (record_of r.plan e) ≡ false
      go is-caller none_said e low high some true same =
          let nothing : set_at r.plan e home ≡ 0 = ap (λ (n : ℕ). set_at r.plan n home) (eqb-true e 1 same) ∙ none_said home (lit< tt) in
          absurd (omega (arith, some, nothing))
      go is-caller none_said e low high some false apart = (kept.inside is-inside).other e low high (λ same. eqb-false e 1 apart (same ∙ is-caller)) some

  -- a part of an end's line
  kept_part : within r.context ≡ true → (n : ℕ) → (eqb n octets_behind ≡ false → (3 ≤ n) × (n ≤ 4)) → Later cm (part_word r n)
  unfolding part_word both either
  kept_part is-inside n is-part =
      either_way (Later cm) (eqb n octets_behind) (name_cm r) (going r n) (λ _. kept_cm is-inside)
      (λ others _.
      let range = is-part others in
      let apart : (m : ℕ) → 5 ≤ m → eqb n m ≡ false = λ m high. ne_eqb n m (λ e. omega (arith, e, high, range.1)) in
      kept_going cm n (is_within n (omega (arith, range.0)) range.1 ∙ sym is-inside)
      (calling_on kept.calling (settled_within r.end r.context is-inside) r.end n (λ is _. kept.calling.other is is-inside)
      (λ _. ap₂ either (apart first_octet (lit≤ tt)) (apart octets (lit≤ tt))) (λ e. absurd (omega (arith, e, range.1)))))

  -- a word of an end's line
  kept_end_word : within r.context ≡ true → (m : Meaning) → Meant m → Later cm (end_word r m)
  unfolding end_word
  kept_end_word is-inside m can-be =
      either_way (Later cm) (eqb m.kind function) _ _ (λ t. kept_function cm r kept is-inside m.number (can-be.functions t).0 (can-be.functions t).1)
      (λ _. either_way (Later cm) (eqb m.kind mode) _ _ (λ _. kept_mode cm r kept is-inside m.number)
      (λ _. either_way (Later cm) (eqb m.kind other_mode) _ _ (λ _. kept_mode cm r kept is-inside m.number)
      (λ _. either_way (Later cm) (eqb m.kind quality) _ _ (λ t. kept_wanted cm r kept is-inside m.number (can-be.qualities t).1)
      (λ _. either_way (Later cm) (eqb m.kind part) (part_word r m.number) (mistaken r in_end) (λ t. kept_part is-inside m.number (λ others. can-be.parts others t))
      (λ _. slip in_end)))))

  -- the first word of a line
  kept_begin :
      Outside r.plan → (name end context : ℕ) → (within context ≡ true → (1 ≤ end) × (end ≤ 2)) → (is_said r.plan name ≡ false → Calls end context)
      → Later cm (begin_named r name end context)
  kept_begin out name end context is-end calling =
      either_way (Later cm) (is_said r.plan name) (mistaken r twice) (begin_line r end context) (λ _. slip twice)
      (λ is-new _. new_line cm r kept end context (λ t. record { low = (is-end t).0; high = (is-end t).1; other = λ e l h _. out.each e l h }) (λ _. out) (calling is-new))

  kept_first : Settled r.end r.context → Outside r.plan → (m : Meaning) → Meant m → Later cm (first_word r m)
  unfolding first_word either
  kept_first settled out m can-be =
      let n = m.number in
      let goes_on = calling_on kept.calling settled in
      either_way (Later cm) (eqb m.kind end) _ _
      (λ t. kept_begin out n n in_end (λ _. can-be.ends t) (λ is-new. goes_on n in_end (λ is _. no_stranger r.plan n is-new is) (λ _. refl) (λ e. absurd (omega (arith, e)))))
      (λ _. either_way (Later cm) (eqb m.kind line) _ _
      (λ t.
      let outside = not_within (behind_name n) (behind_line n (can-be.lines t).0) in
      kept_begin out n 0 (behind_name n) (λ e. clash (sym e ∙ outside))
      (λ is-new. goes_on 0 (behind_name n) (λ _ e. clash (sym e ∙ outside)) (λ e. absurd (omega (arith, e))) (λ e. none_called r.plan n is-new (behind_call n e))))
      (λ _. slip beginning))

  -- the call, or Te
  kept_planned :
      (f te : ℕ) → Outside r.plan → f ≤ stranger → either (eqb te 0) (is_te te) ≡ true → Calling r.plan.sets f r.end done cm → Later cm (planning r f te done)
  unfolding planning record_of both
  kept_planned f te out seven is-te calling right = record {
    parts = record { sets = kept.parts.sets; function = seven; te = is-te; on = kept.parts.on; off = kept.parts.off; answers = kept.parts.answers };
    names = record { first_one = kept.names.first_one; last_one = kept.names.last_one; odd = kept.names.odd };
    inside = λ e. clash (sym e);
    outside = λ _. record { each = out.each; has_call = call_had (lacks_call (with_call r.plan f te)) r.what right };
    calling = calling;
  }

  -- a function is called, where none was
  kept_call : eqb r.context after_call ≡ true → (f : ℕ) → f ≤ 6 → Later cm (name_call r f)
  unfolding both either
  kept_call here f six =
      let no : f ≡ stranger → ⊥ = λ e. omega (arith, e, six) in
      let none_yet = kept.calling.not_yet (eqb-true r.context after_call here) in
      kept_planned f r.plan.te (kept.outside (at_context after_call here)) (omega (arith, six)) kept.parts.te (record {
        nothing_said = λ is. absurd (no is);
        other = λ is. absurd (no is);
        its_own = λ _ e. clash (sym e);
        not_yet = λ e. absurd (omega (arith, e));
        some = λ is. absurd (no is);
        none = λ _. kept.calling.none (λ is. omega (arith, is, none_yet));
      })

  -- a function where one is asked for
  kept_asked : (f : ℕ) → f ≤ 6 → Later cm (function_word r f)
  unfolding function_word both
  kept_asked f six =
      either_way (Later cm) (eqb r.context after_home) _ _ (λ t. kept_home cm r kept (at_context after_home t) f six)
      (λ _. either_way (Later cm) (eqb r.context after_call) _ _ (λ t. kept_call t f six)
      (λ _. slip r.context))

  -- what is wanted, or an end, where it is asked for
  kept_wants : (n : ℕ) → n ≤ 3 → Later cm (when (eqb r.context after_wants) (say r 0 n 0 r.first) (mistaken r r.context))
  unfolding both
  kept_wants n is_one = either_way (Later cm) (eqb r.context after_wants) (say r 0 n 0 r.first) (mistaken r r.context) (λ t. kept_wanted cm r kept (at_context after_wants t) n is_one) (λ _. slip r.context)

  kept_damaged : (n : ℕ) → Later cm (when (eqb r.context after_damaged) (begin_line r n first_bit) (mistaken r r.context))
  unfolding both either
  kept_damaged n =
      either_way (Later cm) (eqb r.context after_damaged) (begin_line r n first_bit) (mistaken r r.context)
      (λ t _. new_line cm r kept n first_bit (λ e. clash (sym e)) (λ _. kept.outside (at_context after_damaged t))
      (calling_on kept.calling (settled_at after_damaged t (λ e. omega (arith, e))) n first_bit (λ _ e. clash (sym e)) (λ _. refl) (λ e. absurd (omega (arith, e)))))
      (λ _. slip r.context)

  kept_name : (m : Meaning) → Meant m → Later cm (name_word r m)
  unfolding name_word both
  kept_name m can-be =
      either_way (Later cm) (eqb r.context in_end) _ _ (λ t. kept_end_word (at_context in_end t) m can-be)
      (λ _. either_way (Later cm) (eqb r.context beginning) _ _ (λ t. kept_first (settled_at beginning t (λ e. omega (arith, e))) (kept.outside (at_context beginning t)) m can-be)
      (λ _. either_way (Later cm) (eqb m.kind function) _ _ (λ t. kept_asked m.number (can-be.functions t).1)
      (λ _. either_way (Later cm) (eqb m.kind wanted) _ _ (λ t. kept_wants m.number (can-be.wants t).1)
      (λ _. either_way (Later cm) (eqb m.kind end) _ _ (λ _. kept_damaged m.number)
      (λ _. slip r.context)))))

  kept_named : (m : Option Meaning) → ((n : Meaning) → m ≡ Some n → Meant n) → Later cm (named_word r m)
  kept_named (Some m) can-be = kept_name m (can-be m refl)
  kept_named None can-be = slip r.context

  kept_te : eqb r.context after_te ≡ true → (te : ℕ) → Later cm (te_word r te)
  unfolding either both
  kept_te here te =
      either_way (Later cm) (is_te te) _ _
      (λ is-te. kept_planned r.plan.function te (kept.outside (at_context after_te here)) kept.parts.function (or_else (eqb te 0) is-te)
      (calling_on kept.calling (settled_at after_te here (λ e. omega (arith, e))) r.end done (λ _ e. clash (sym e)) (λ _. refl) (λ e. absurd (omega (arith, e)))))
      (λ _. slip after_te)

  -- a cadence, or the time of the answer, changes nothing else
  module _ (here : ℕ) (is-here : eqb r.context here ≡ true) (high : 5 ≤ here) (apart : here ≡ first_octet → ⊥) (context : ℕ) (outside : within context ≡ false)
      (no_octets : one_of context first_octet octets ≡ false) (no_call : context ≡ after_call → ⊥)
    where
      out : Outside r.plan
      out = kept.outside (at_context here is-here ∙ not_within here high)

      calling : Calls r.end context
      calling = calling_on kept.calling (settled_at here is-here apart) r.end context (λ _ e. clash (sym e ∙ outside)) (λ _. no_octets) (λ e. absurd (no_call e))

      kept_cadenced : (on off : ℕ) → either (eqb on 0) (is_on on) ≡ true → either (eqb off 0) (is_cadence default_on off) ≡ true → Later cm (cadenced r on off context)
      unfolding cadenced record_of lacks_call
      kept_cadenced on off is-on is-off _ = record {
        parts = record { sets = kept.parts.sets; function = kept.parts.function; te = kept.parts.te; on = is-on; off = is-off; answers = kept.parts.answers };
        names = record { first_one = kept.names.first_one; last_one = kept.names.last_one; odd = kept.names.odd };
        inside = λ e. clash (sym e ∙ outside);
        outside = λ _. record { each = out.each; has_call = out.has_call };
        calling = calling;
      }

      kept_answering : (answers : ℕ) → either (eqb answers 0) (is_answer answers) ≡ true → Later cm (answering r answers context)
      unfolding answering record_of lacks_call
      kept_answering answers is-answer _ = record {
        parts = record { sets = kept.parts.sets; function = kept.parts.function; te = kept.parts.te; on = kept.parts.on; off = kept.parts.off; answers = is-answer };
        names = record { first_one = kept.names.first_one; last_one = kept.names.last_one; odd = kept.names.odd };
        inside = λ e. clash (sym e ∙ outside);
        outside = λ _. record { each = out.each; has_call = out.has_call };
        calling = calling;
      }

  kept_on : eqb r.context after_cadence ≡ true → (on : ℕ) → Later cm (on_word r on)
  unfolding either both
  kept_on here on =
      either_way (Later cm) (is_on on) _ _
      (λ is-on. kept_cadenced after_cadence here (lit≤ tt) (λ e. omega (arith, e)) after_on refl refl (λ e. omega (arith, e)) on r.plan.off (or_else (eqb on 0) is-on) kept.parts.off)
      (λ _. slip after_cadence)

  kept_off : eqb r.context after_on ≡ true → (off : ℕ) → Later cm (off_word r off)
  unfolding either both
  kept_off here off =
      either_way (Later cm) (is_cadence r.plan.on off) _ _
      (λ is-cadence.
      let is-off = both_periods default_on off r.plan.on default_off refl is-cadence in
      kept_cadenced after_on here (lit≤ tt) (λ e. omega (arith, e)) done refl refl (λ e. omega (arith, e)) r.plan.on off kept.parts.on (or_else (eqb off 0) is-off))
      (λ _. slip after_on)

  kept_answer : eqb r.context after_answers ≡ true → (answers : ℕ) → Later cm (answer_word r answers)
  unfolding either both
  kept_answer here answers =
      either_way (Later cm) (is_answer answers) _ _
      (λ is-answer. kept_answering after_answers here (lit≤ tt) (λ e. omega (arith, e)) done refl refl (λ e. omega (arith, e)) answers (or_else (eqb answers 0) is-answer))
      (λ _. slip after_answers)

  -- an entry of a list comes behind others: one of the two contexts is here
  one_here : (first further : ℕ) → one_of r.context first further ≡ true → (r.context ≡ first) ⊎ (r.context ≡ further)
  unfolding either
  one_here first further h = go (eqb r.context first) refl h
    where
      go : (t : Bool) → eqb r.context first ≡ t → either t (eqb r.context further) ≡ true → (r.context ≡ first) ⊎ (r.context ≡ further)
      go true here _ = inl (eqb-true r.context first here)
      go false _ here = inr (eqb-true r.context further here)

  -- and both are in no end's line
  not_inside : (first further : ℕ) → 5 ≤ first → 5 ≤ further → one_of r.context first further ≡ true → within further ≡ within r.context
  not_inside first further high higher h =
      let outside : 5 ≤ r.context = ⊎_elim (λ e. omega (arith, e, high)) (λ e. omega (arith, e, higher)) (one_here first further h) in
      not_within further higher ∙ sym (not_within r.context outside)

  kept_bit : at_bits r ≡ true → (time : ℕ) → Later cm (bit_word r time)
  unfolding both either
  kept_bit is_at_bits time =
      either_way (Later cm) (ltb 8999 time) _ _ (λ _. slip r.context)
      (λ _ _.
      let settled : Settled r.end r.context = λ is _. ⊎_elim (λ e. omega (arith, e, is)) (λ e. omega (arith, e, is)) (one_here first_bit bits is_at_bits) in
      kept_going cm bits (not_inside first_bit bits (lit≤ tt) (lit≤ tt) is_at_bits)
      (calling_on kept.calling settled r.end bits (λ _ e. clash (sym e)) (λ _. refl) (λ e. absurd (omega (arith, e)))))

  -- a number that is asked for
  kept_number : at_number r ≡ true → (n : ℕ) → Later cm (number_word r n)
  unfolding number_word either
  kept_number is_number n =
      either_way (Later cm) (eqb r.context after_te) _ _ (λ t. kept_te t n)
      (λ no-te. either_way (Later cm) (eqb r.context after_cadence) _ _ (λ t. kept_on t n)
      (λ no-cadence. either_way (Later cm) (eqb r.context after_on) _ _ (λ t. kept_off t n)
      (λ no-on. either_way (Later cm) (eqb r.context after_answers) _ _ (λ t. kept_answer t n)
      (λ no_answer. kept_bit (simp (no-te, no-cadence, no-on, no_answer) at is_number) n))))

  kept_asked_number : at_number r ≡ true → (n : Option ℕ) → Later cm (asked_number r n)
  kept_asked_number is_number (Some n) = kept_number is_number n
  kept_asked_number is_number None = slip r.context

  -- and no octet is
  number_alone : at_number r ≡ true → at_octets r ≡ false
  unfolding either
  number_alone is_number = go (eqb r.context after_te) refl (eqb r.context after_cadence) refl (eqb r.context after_on) refl (eqb r.context after_answers) refl is_number
    where
      there : (context : ℕ) → one_of context first_octet octets ≡ false → r.context ≡ context → at_octets r ≡ false
      there context none is = ap (λ (c : ℕ). one_of c first_octet octets) is ∙ none

      go :
          (a : Bool) → eqb r.context after_te ≡ a → (b : Bool) → eqb r.context after_cadence ≡ b → (c : Bool) → eqb r.context after_on ≡ c
          → (d : Bool) → eqb r.context after_answers ≡ d → either a (either b (either c (either d (at_bits r)))) ≡ true → at_octets r ≡ false
      go true is b _ c _ d _ _ = there after_te refl (eqb-true r.context after_te is)
      go false _ true is c _ d _ _ = there after_cadence refl (eqb-true r.context after_cadence is)
      go false _ false _ true is d _ _ = there after_on refl (eqb-true r.context after_on is)
      go false _ false _ false _ true is _ = there after_answers refl (eqb-true r.context after_answers is)
      go false _ false _ false _ false _ is_bit_lem = ⊎_elim (there first_bit refl) (there bits refl) (one_here first_bit bits is_bit_lem)

-- an octet: in the caller's line it is one of a stranger's CM
module _ (cm : List ℕ) (r : Reading) (kept : Kept cm r) (at-octets : at_octets r ≡ true) where
  calling_octet : (n : ℕ) (t : Bool) → eqb r.end 1 ≡ t → Calling r.plan.sets r.plan.function r.end octets (cm ++ one_octet (when t (Some n) None))
  unfolding when both either
  calling_octet n true here =
      let is = kept.calling.its_own (eqb-true r.end 1 here) at-octets in
      let some : 0 < length (cm ++ (n ∷ [])) = omega (arith, length-append cm (n ∷ [])) in
      record {
        nothing_said = kept.calling.nothing_said;
        other = λ _ e. clash (sym e);
        its_own = λ _ _. is;
        not_yet = λ e. absurd (omega (arith, e));
        some = λ _. inl some;
        none = λ no. absurd (no is);
      }
  calling_octet n false apart =
      let no : r.end ≡ 1 → ⊥ = eqb-false r.end 1 apart in
      let stays = calling_on kept.calling (λ _. no) r.end octets (λ _ e. clash (sym e)) (λ e. absurd (no e)) (λ e. absurd (omega (arith, e))) in
      subst (Calling r.plan.sets r.plan.function r.end octets) (sym (append-nil cm)) stays

  kept_octet : (n : Option ℕ) → Later (cm ++ one_octet (when (eqb r.end 1) n None)) (octet_word r n)
  kept_octet (Some n) _ = kept_going cm r kept _ octets (not_inside cm r kept first_octet octets (lit≤ tt) (lit≤ tt) at-octets) (calling_octet n (eqb r.end 1) refl)
  kept_octet None right = absurd (not_none right)

-- what is known of a CM behind a word
abbrev pub cm_behind : List ℕ → Reading → List ℕ → List ℕ
cm_behind cm r text = cm ++ one_octet (when (both (at_octets r) (eqb r.end 1)) (octet text) None)

module _ (cm : List ℕ) (r : Reading) (kept : Kept cm r) (text : List ℕ) where
  -- a word that is no octet
  same_cm : (next : Reading) → at_octets r ≡ false → Later cm next → Later (cm_behind cm r text) next
  unfolding both when
  same_cm next no_octets later = rw (no_octets, append-nil) later

  pub kept_word : Later (cm_behind cm r text) (read_word r text)
  unfolding read_word both either
  kept_word =
      let P = Later (cm_behind cm r text) in
      either_way P (at_number r) _ _ (λ t. same_cm _ (number_alone cm r kept t) (kept_asked_number cm r kept t (number text)))
      (λ _. either_way P (at_octets r) _ _ (λ t. rw t (kept_octet cm r kept t (octet text)))
      (λ t. same_cm _ t (kept_named cm r kept (named text) (meant text))))
