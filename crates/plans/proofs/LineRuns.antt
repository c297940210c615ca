-- The lines of a plain text, read one by one: the ends, a stranger, the call, Te, the cadence, the answer.
-- Assumes nothing.
use Rattle.std.proofs.Common.{◌≡◌, ℕ, ◌%◌, ◌<◌, true, false, ltb, List, ◌++◌, replicate, sym, refl, subst, append_assoc, append-nil, arith, lt-ltb}
use Rattle.laws.specs.Logic.{when, both, either}
use Rattle.laws.specs.Tests.{every, same_list}
use Rattle.laws.proofs.Logic.{both_neither}
use Rattle.names.specs.Bytes.{bytes}
use Rattle.names.specs.Names.{names, named_by, end, line, function, part}
use Rattle.cadence.specs.Cadence.{is_cadence}
use Rattle.steps.specs.Session.{is_te}
use Rattle.plans.specs.declared.Plan.{Plan}
use Rattle.plans.specs.declared.Reading.{Reading}
use Rattle.plans.specs.Text.{word_length}
use Rattle.plans.specs.Reading.{beginning, in_end, after_call, after_te, done, first_octet, after_cadence, after_on, after_answers, default_on, default_off, stranger, planned, with_cadence, with_answer, is_answer, home, set_at, lacks_call, planning, cadenced, answering, part_word, end_word, is_said, behind_name, first_word, function_word, name_word, number_word, read_word, record_of, with_home, finish_end, finish_line, no_plan, fresh}
use Rattle.plans.specs.Plain.{function_name, decimal, te_text, cadence_text, answers_text}
use Rattle.plans.specs.Good.{GoodEnd}
use Rattle.plans.proofs.Runs.{Found, Run, nothing, spaced, fed, join, word_run}
use Rattle.plans.proofs.Cadences.{in_range_lem, both_periods}
use Rattle.plans.proofs.Decimals.{decimal_read, decimal_spelled, decimal_some}
use Rattle.plans.proofs.Words.{Known, known, Line, line_of, no_line, reading, name_run}
use Rattle.plans.proofs.NameRuns.{names_stop}
use Rattle.plans.proofs.ListRuns.{Ends}
use Rattle.plans.proofs.FunctionRuns.{known_function, on}
use Rattle.plans.proofs.Accepted.{no_mistake, has_home}

pub caller_known : Known (bytes "caller") end 1
unfolding names bytes every named_by same_list when both either
caller_known = known (bytes "caller") end 1 tt

pub answerer_known : Known (bytes "answerer") end 2
unfolding names bytes every named_by same_list when both either
answerer_known = known (bytes "answerer") end 2 tt

call_known : Known (bytes "call") line 5
unfolding names bytes every named_by same_list when both either
call_known = known (bytes "call") line 5 tt

te_known : Known (bytes "Te") line 6
unfolding names bytes every named_by same_list when both either
te_known = known (bytes "Te") line 6 tt

pub damaged_known : Known (bytes "damaged") line 7
unfolding names bytes every named_by same_list when both either
damaged_known = known (bytes "damaged") line 7 tt

pub blocks_known : Known (bytes "blocks") line 8
unfolding names bytes every named_by same_list when both either
blocks_known = known (bytes "blocks") line 8 tt

cadence_known : Known (bytes "cadence") line 9
unfolding names bytes every named_by same_list when both either
cadence_known = known (bytes "cadence") line 9 tt

answers_known : Known (bytes "answers") line 10
unfolding names bytes every named_by same_list when both either
answers_known = known (bytes "answers") line 10 tt

sends_known : Known (bytes "sends") part 8
unfolding names bytes every named_by same_list when both either
sends_known = known (bytes "sends") part 8 tt

-- no function is called yet, or one that the caller has, or nothing is said of the caller
pub lacks_none : (sets : List ℕ) → lacks_call (planned sets 0 0) ≡ false
unfolding lacks_call both
lacks_none sets = both_neither (ltb 0 (set_at (planned sets 0 0) 1 home))

pub lacks_not : (plan : Plan) → set_at plan 1 plan.function % 2 ≡ 1 → lacks_call plan ≡ false
unfolding lacks_call
lacks_not plan is-had = simp (is-had, both_neither)

pub lacks_unsaid : (plan : Plan) → set_at plan 1 home ≡ 0 → lacks_call plan ≡ false
unfolding lacks_call both
lacks_unsaid plan none_said = simp none_said

-- an end's line is at its end
pub end_finished :
    (plan : Plan) (called end first : ℕ) (sets : List ℕ) → GoodEnd plan end → lacks_call (planned sets called 0) ≡ false → record_of (planned sets called 0) end ≡ record_of plan end
    → set_at (planned sets called 0) end home ≡ set_at plan end home → finish_line (on called end 0 first sets) ≡ reading (planned sets called 0) (line_of end 0 first) beginning
unfolding finish_line finish_end with_home planning when
end_finished plan called end first sets good lacks same_record same_home =
    simp (same_home, lt-ltb 0 (set_at plan end home) (has_home plan end good).0, same_record, no_mistake (record_of plan end) good.accepted, lacks)

module _ (plan : Plan) (before : Line) (d : Found) where
  -- the first word of a line
  end_begins : (word : List ℕ) (n : ℕ) → Known word end n → is_said plan n ≡ false → Run (reading plan before beginning) d word (reading plan (no_line n) in_end) d
  unfolding name_word first_word when either
  end_begins word n names_it is-new = name_run (reading plan before beginning) (reading plan (no_line n) in_end) d word end n names_it refl refl refl (simp is-new) refl

  pub line_begins : (word : List ℕ) (n : ℕ) → Known word line n → is_said plan n ≡ false → Run (reading plan before beginning) d word (reading plan (no_line 0) (behind_name n)) d
  unfolding name_word first_word when either
  line_begins word n names_it is-new = name_run (reading plan before beginning) (reading plan (no_line 0) (behind_name n)) d word line n names_it refl refl refl (simp is-new) refl

  -- the caller's line
  pub caller_begins : is_said plan 1 ≡ false → Run (reading plan before beginning) d (bytes "caller   ") (reading plan (no_line 1) in_end) d
  unfolding bytes word_length when either
  caller_begins is-new = join {a = bytes "caller"} {b = replicate 3 32} (end_begins (bytes "caller") 1 caller_known is-new) refl (spaced 3 refl (nothing _ d))

  -- a line behind another
  module _ (r : Reading) (is-fed : finish_line r ≡ reading plan before beginning) where
    pub answerer_begins : is_said plan 2 ≡ false → Run r d (bytes "\nanswerer ") (reading plan (no_line 2) in_end) d
    unfolding bytes word_length when either
    answerer_begins is-new =
        fed is-fed refl (join {a = bytes "answerer"} {b = replicate 1 32} (end_begins (bytes "answerer") 2 answerer_known is-new) refl (spaced 1 refl (nothing _ d)))

    call_begins : is_said plan 5 ≡ false → Run r d (bytes "\ncall     ") (reading plan (no_line 0) after_call) d
    unfolding bytes word_length when either
    call_begins is-new = fed is-fed refl (join {a = bytes "call"} {b = replicate 5 32} (line_begins (bytes "call") 5 call_known is-new) refl (spaced 5 refl (nothing _ d)))

    te_begins : (r' : Reading) (text : List ℕ) → is_said plan 6 ≡ false → Run (reading plan (no_line 0) after_te) d text r' d → Run r d (bytes "\nTe        " ++ text) r' d
    unfolding bytes word_length when either
    te_begins r' text is-new run = fed is-fed refl (join {a = bytes "Te"} {b = replicate 8 32 ++ text} (line_begins (bytes "Te") 6 te_known is-new) refl (spaced 8 refl run))

    cadence_begins : (r' : Reading) (text : List ℕ) → is_said plan 9 ≡ false → Run (reading plan (no_line 0) after_cadence) d text r' d → Run r d (bytes "\ncadence   " ++ text) r' d
    unfolding bytes word_length when either
    cadence_begins r' text is-new run = fed is-fed refl (join {a = bytes "cadence"} {b = replicate 3 32 ++ text} (line_begins (bytes "cadence") 9 cadence_known is-new) refl (spaced 3 refl run))

    answers_begins : (r' : Reading) (text : List ℕ) → is_said plan 10 ≡ false → Run (reading plan (no_line 0) after_answers) d text r' d → Run r d (bytes "\nanswers   " ++ text) r' d
    unfolding bytes word_length when either
    answers_begins r' text is-new run = fed is-fed refl (join {a = bytes "answers"} {b = replicate 3 32 ++ text} (line_begins (bytes "answers") 10 answers_known is-new) refl (spaced 3 refl run))

-- a stranger's line, up to the octets of its CM
pub sends_begins : (d : Found) → Run fresh d (bytes "caller    sends") (reading (planned (replicate 16 0) stranger 0) (no_line 1) first_octet) d
unfolding bytes word_length is_said name_word end_word part_word planning lacks_call when both either
sends_begins d =
    join {a = bytes "caller   "} {b = replicate 1 32 ++ bytes "sends"} (caller_begins no_plan (no_line 0) d refl) refl
    (spaced 1 refl (name_run (reading no_plan (no_line 1) in_end) (reading (planned (replicate 16 0) stranger 0) (no_line 1) first_octet) d (bytes "sends") part 8 sends_known refl refl refl refl refl))

module _ (plan : Plan) (d : Found) where
  abbrev called : ℕ → ℕ → ℕ → Reading
  called function te context = reading (planned plan.sets function te) (no_line 0) context

  -- the function called
  module _ (is_called : set_at plan 1 plan.function % 2 ≡ 1) (some : 0 < plan.function) (h : plan.function < 7) where
    call_run : Run (called 0 0 after_call) d (function_name plan.function) (called plan.function 0 done) d
    unfolding name_word function_word planning when either
    call_run =
        let f = plan.function in
        let name = known_function f some h in
        let is_read = name_run (called 0 0 after_call) (called f 0 done) d name.0 function f name.2 refl refl refl (simp (lacks_not (planned plan.sets f 0) is_called)) refl in
        subst (λ (text : List ℕ). Run (called 0 0 after_call) d text (called f 0 done) d) (sym name.1) (spaced 1 refl is_read)

    pub calling : (r : Reading) → Ends (planned plan.sets 0 0) r → Run r d (bytes "\ncall     " ++ function_name plan.function) (called plan.function 0 done) d
    unfolding is_said when
    calling r ends = join (call_begins (planned plan.sets 0 0) ends.0 d r ends.1 refl) (names_stop function _ names) call_run

  -- Te
  module _ (lacks : lacks_call (planned plan.sets plan.function plan.te) ≡ false) (is-te : is_te plan.te ≡ true) (small : plan.te < 100000) where
    te_run : Run (called plan.function 0 after_te) d (decimal plan.te) (called plan.function plan.te done) d
    unfolding read_word number_word planning when either both
    te_run =
        word_run (called plan.function 0 after_te) (called plan.function plan.te done) d d (decimal plan.te) (decimal_some plan.te small) (decimal_spelled plan.te)
        (simp (decimal_read plan.te small, is-te, lacks)) refl refl (append-nil d.octets) refl

    pub te_line : (r : Reading) → Ends (planned plan.sets plan.function 0) r → Run r d (te_text plan.te) (called plan.function plan.te done) d
    unfolding is_said when
    te_line r ends = te_begins (planned plan.sets plan.function 0) ends.0 d r ends.1 (called plan.function plan.te done) (decimal plan.te) refl te_run

  -- the cadence, behind a line for Te or without one
  module _ (te : ℕ) (is-cadence : is_cadence plan.on plan.off ≡ true) where
    abbrev paced : ℕ → ℕ → ℕ → Reading
    paced on off context = reading (with_cadence (planned plan.sets plan.function te) on off) (no_line 0) context

    on_small : plan.on < 100000
    on_small = omega (arith, (in_range_lem plan.on plan.off is-cadence).most_on)

    off_small : plan.off < 100000
    off_small = omega (arith, (in_range_lem plan.on plan.off is-cadence).most_off)

    on_run : Run (paced 0 0 after_cadence) d (decimal plan.on) (paced plan.on 0 after_on) d
    unfolding read_word number_word cadenced when either both
    on_run =
        let is-on : is_cadence plan.on default_off ≡ true = both_periods plan.on default_off default_on plan.off is-cadence refl in
        word_run (paced 0 0 after_cadence) (paced plan.on 0 after_on) d d (decimal plan.on) (decimal_some plan.on on_small) (decimal_spelled plan.on)
        (simp (decimal_read plan.on on_small, is-on)) refl refl (append-nil d.octets) refl

    off_run : Run (paced plan.on 0 after_on) d (decimal plan.off) (paced plan.on plan.off done) d
    unfolding read_word number_word cadenced when either both
    off_run =
        word_run (paced plan.on 0 after_on) (paced plan.on plan.off done) d d (decimal plan.off) (decimal_some plan.off off_small) (decimal_spelled plan.off)
        (simp (decimal_read plan.off off_small, is-cadence)) refl refl (append-nil d.octets) refl

    pub cadence_line : (r : Reading) → Ends (planned plan.sets plan.function te) r → Run r d (cadence_text plan.on plan.off) (paced plan.on plan.off done) d
    unfolding is_said bytes word_length when either
    cadence_line r ends =
        let on = cadence_begins (planned plan.sets plan.function te) ends.0 d r ends.1 (paced plan.on 0 after_on) (decimal plan.on) refl on_run in
        subst (λ (text : List ℕ). Run r d text (paced plan.on plan.off done) d) (sym (append_assoc (bytes "\ncadence   " ++ decimal plan.on) (bytes " ") (decimal plan.off)))
        (join on refl (spaced 1 refl off_run))

-- the answer, behind all other lines that tell of the call
module _ (before : Plan) (d : Found) (new : before.answers ≡ 0) (answers : ℕ) (is-answer : is_answer answers ≡ true) (small : answers < 100000) where
  answers_run : Run (reading before (no_line 0) after_answers) d (decimal answers) (reading (with_answer before answers) (no_line 0) done) d
  unfolding read_word number_word answering when either both
  answers_run =
      word_run (reading before (no_line 0) after_answers) (reading (with_answer before answers) (no_line 0) done) d d (decimal answers) (decimal_some answers small) (decimal_spelled answers)
      (simp (decimal_read answers small, is-answer)) refl refl (append-nil d.octets) refl

  pub answers_line : (r : Reading) → Ends before r → Run r d (answers_text answers) (reading (with_answer before answers) (no_line 0) done) d
  unfolding is_said when
  answers_line r ends = answers_begins before ends.0 d r ends.1 (reading (with_answer before answers) (no_line 0) done) (decimal answers) (simp new) answers_run
