-- The plain form of a call is read as that call, with the same CM of a stranger, the same blocks and the same bits damaged, and so it is without its
-- line for Te where Te is the default, or without those for a cadence and for the answer: in both the lines of the ends are read, then those that tell the call, then the blocks, then the damaged bits.
-- Assumes nothing.
use Rattle.std.proofs.Common.{◌≡◌, ℕ, zero, suc, ◌+◌, ◌<◌, true, false, eqb, List, [], ◌∷◌, ◌++◌, length, None, Ok, get_or, take, drop, replicate, sym, refl, ap, ◌∙◌, subst, ⊎_elim, append-nil, arith, lit<, eqb→eq, drop_of_length-le, drop-cons, le-ltb, lt-ltb, eq-eqb, ne_eqb}
use Rattle.laws.specs.Logic.{when, both, either}
use Rattle.laws.specs.Tests.{all_below}
use Rattle.laws.proofs.Logic.{clash}
use Rattle.laws.proofs.Computed.{below}
use Rattle.names.specs.Bytes.{bytes}
use Rattle.steps.proofs.Ticks.{between_true}
use Rattle.plans.specs.declared.Plan.{Plan}
use Rattle.plans.specs.declared.Reading.{Reading}
use Rattle.plans.specs.Text.{word_length}
use Rattle.plans.specs.Reading.{beginning, done, octets, stranger, default_on, default_off, default_answer, planned, home, place, set_at, lacks_call, record_of, no_plan, fresh, is_said, finish_line, with_default, missing, finished, read_text, bit_place, marked, octets_in, blocks_in, cm_in}
use Rattle.plans.specs.Plain.{end_text, octets_text, bits_text, damage_text, caller_text, called_text, head_text, te_text, cadence_text, answers_text, plain}
use Rattle.plans.specs.Good.{KnownCaller, Stranger, Good, Marks, Octets, Given, IsReadAs, PlainReadsBack, TeIsTheDefault, CadenceIsTheDefault, AnswerIsTheDefault}
use Rattle.plans.proofs.Cadences.{in_range_lem}
use Rattle.plans.proofs.Runs.{Stops, stops_joined, Found, found, Run, nothing, fed, join, whole_read, whole_marked, whole_given}
use Rattle.plans.proofs.Marking.{marking, zeros, zeros_at, first_half, other_half, halves_marked}
use Rattle.plans.proofs.Words.{Line, line_of, no_line, reading}
use Rattle.plans.proofs.FunctionRuns.{with_functions, on}
use Rattle.plans.proofs.Accepted.{has_home}
use Rattle.plans.proofs.EndRuns.{with_end, end_run}
use Rattle.plans.proofs.LineRuns.{caller_known, answerer_known, lacks_none, lacks_not, lacks_unsaid, end_finished, caller_begins, answerer_begins, sends_begins, calling, te_line, cadence_line, answers_line}
use Rattle.plans.proofs.ListRuns.{Ends}
use Rattle.plans.proofs.OctetRuns.{with_octets, with_none, octets_stop, octets_run, line_run, block_lines}
use Rattle.plans.proofs.DamageRuns.{bits_stop, bits_run}

-- the entries of a list are the list
abbrev entries : List ℕ → ℕ → ℕ → List ℕ
entries list n zero = []
entries list n (suc count) = get_or list n 0 ∷ entries list (suc n) count

all_entries : (list : List ℕ) (n count : ℕ) → n + count ≡ length list → entries list n count ≡ drop n list
all_entries list n zero all = sym (drop_of_length-le list {i = n} (omega (arith, all)))
all_entries list n (suc count) all = ap (λ (l : List ℕ). get_or list n 0 ∷ l) (all_entries list (suc n) count (omega (arith, all))) ∙ sym (drop-cons list n 0 (omega (arith, all)))

module _ (plan : Plan) (good : Good plan) (cm : List ℕ) (given : Given plan cm) where
  -- the sets when the caller's line is read, and the answerer's behind it
  abbrev caller_sets : List ℕ
  caller_sets = with_end plan 1 (replicate 16 0)

  all_sets : with_end plan 2 caller_sets ≡ plan.sets
  unfolding with_functions when
  all_sets = all_entries plan.sets 0 16 (sym good.sixteen)

  none_said : (k : ℕ) → k < 8 → get_or caller_sets (place 2 k) 0 ≡ 0
  unfolding with_functions when all_below both
  none_said k h = eqb→eq (get_or caller_sets (place 2 k) 0) 0 (below (λ (n : ℕ). eqb (get_or caller_sets (place 2 n) 0) 0) 8 tt k h)

  -- the caller's line is read: what is called then, a stranger in its place, or nothing yet; and the CM is found
  abbrev CallerRead : Found → ℕ → Type 0
  CallerRead d called = (r : Reading) × Ends (planned caller_sets called 0) r × Run fresh d (caller_text plan cm) r (with_octets 1 cm d)

  -- the line of a caller that is known
  module _ (known : KnownCaller plan) where
    no_stranger : plan.function ≡ stranger → ⊥
    no_stranger is = omega (arith, is, known.function.1)

    same_record : record_of (planned caller_sets 0 0) 1 ≡ record_of plan 1
    unfolding record_of with_functions when
    same_record = refl

    known_run : (d : Found) → (first : ℕ) × Run fresh d (end_text (bytes "caller   ") plan 1) (on 0 1 0 first caller_sets) d
    unfolding is_said when both either
    known_run d = end_run plan 0 1 known.caller d (replicate 16 0) refl (λ k _. zeros_at 16 (place 1 k)) fresh (bytes "caller   ") (caller_begins no_plan (no_line 0) d refl)

    known_read : (d : Found) → CallerRead d 0
    unfolding caller_text with_functions when
    known_read d =
        let line = known_run d in
        let nothing-found : d ≡ with_octets 1 cm d = sym (with_none 1 d) ∙ ap (λ (list : List ℕ). with_octets 1 list d) (sym (given.none no_stranger)) in (
          on 0 1 0 line.0 caller_sets,
          (line_of 1 0 line.0, end_finished plan 0 1 line.0 caller_sets known.caller (lacks_none caller_sets) same_record refl),
          subst (Run fresh d (caller_text plan cm) (on 0 1 0 line.0 caller_sets)) nothing-found (rw (ne_eqb plan.function stranger no_stranger) line.1),
        )

  -- the line of a stranger
  module _ (unknown : Stranger plan) where
    none_yet : replicate 16 0 ≡ caller_sets
    unfolding with_functions when
    none_yet =
        let zero-at = unknown.nothing_said in
        simp (zero-at 0 (lit< tt), zero-at 1 (lit< tt), zero-at 2 (lit< tt), zero-at 3 (lit< tt), zero-at 4 (lit< tt), zero-at 5 (lit< tt), zero-at 6 (lit< tt), zero-at 7 (lit< tt))

    stranger_read : (d : Found) → CallerRead d stranger
    unfolding caller_text finish_line when either word_length
    stranger_read d =
        let zeros-planned = planned (replicate 16 0) stranger 0 in
        let behind = reading zeros-planned (no_line 1) octets in
        let sent = join (sends_begins d) (octets_stop [] refl cm 0) (line_run zeros-planned 1 cm d given.octets (given.some unknown.unknown)) in
        let run : Run fresh d (caller_text plan cm) behind (with_octets 1 cm d) = rw (eq-eqb plan.function stranger unknown.unknown) sent in
        subst (λ (sets : List ℕ). (r : Reading) × Ends (planned sets stranger 0) r × Run fresh d (caller_text plan cm) r (with_octets 1 cm d)) none_yet (behind, (no_line 1, refl), run)

  -- the answerer's line behind it
  answerer_run :
      (called : ℕ) (d : Found) (r : Reading) → lacks_call (planned plan.sets called 0) ≡ false → Ends (planned caller_sets called 0) r
      → (r' : Reading) × Ends (planned plan.sets called 0) r' × Run r d (end_text (bytes "\nanswerer ") plan 2) r' d
  unfolding with_functions is_said record_of when both
  answerer_run called d r lacks ends =
      let line =
      end_run plan called 2 good.answerer d caller_sets refl none_said r (bytes "\nanswerer ") (answerer_begins (planned caller_sets called 0) ends.0 d r ends.1 refl) in
      let now = on called 2 0 line.0 plan.sets in (
        now,
        (line_of 2 0 line.0, end_finished plan called 2 line.0 plan.sets good.answerer lacks refl refl),
        subst (λ (sets : List ℕ). Run r d (end_text (bytes "\nanswerer ") plan 2) (on called 2 0 line.0 sets) d) all_sets line.1,
      )

  answerer_stops : Stops (end_text (bytes "\nanswerer ") plan 2)
  unfolding bytes word_length when either
  answerer_stops = refl

  -- what is read of the call, and of Te, the cadence and the answer where a line gives it
  abbrev told : ℕ → ℕ → ℕ → ℕ → Plan
  told te on off answers = record { sets = plan.sets; function = plan.function; te = te; on = on; off = off; answers = answers }

  -- the lines of a text are read, and a CM is found in them
  abbrev Read : Found → List ℕ → ℕ → ℕ → ℕ → ℕ → Type 0
  Read d text te on off answers = (r : Reading) × Ends (told te on off answers) r × Run fresh d text r (with_octets 1 cm d)

  -- the ends, and the function called
  known_head : (d : Found) → KnownCaller plan → Read d (head_text plan cm) 0 0 0 0
  unfolding called_text finish_line bytes word_length when either
  known_head d known =
      let line = known_read known d in
      let behind = answerer_run 0 (with_octets 1 cm d) line.0 (lacks_none plan.sets) line.1 in
      let ends = join line.2 answerer_stops behind.2 in
      let call = calling plan (with_octets 1 cm d) known.called known.function.0 (omega (arith, known.function.1)) behind.0 behind.1 in
      (reading (told 0 0 0 0) (no_line 0) done, (no_line 0, refl), rw (ne_eqb plan.function stranger (no_stranger known)) (join ends refl call))

  stranger_head : (d : Found) → Stranger plan → Read d (head_text plan cm) 0 0 0 0
  unfolding called_text when
  stranger_head d unknown =
      let line = stranger_read unknown d in
      let behind = answerer_run stranger (with_octets 1 cm d) line.0 (lacks_unsaid (planned plan.sets stranger 0) (unknown.nothing_said home (lit< tt))) line.1 in
      let both_ends = caller_text plan cm ++ end_text (bytes "\nanswerer ") plan 2 in
      let run = subst (λ (text : List ℕ). Run fresh d text behind.0 (with_octets 1 cm d)) (sym (append-nil both_ends)) (join line.2 answerer_stops behind.2) in
      (behind.0, subst (λ (function : ℕ). Ends (planned plan.sets function 0) behind.0) (sym unknown.unknown) behind.1, rw (eq-eqb plan.function stranger unknown.unknown) run)

  head_run : (d : Found) → Read d (head_text plan cm) 0 0 0 0
  head_run d = ⊎_elim (known_head d) (stranger_head d) good.caller

  -- a caller that is known has the function called, and of a stranger nothing is said
  lacks_nothing : lacks_call plan ≡ false
  lacks_nothing = ⊎_elim (λ known. lacks_not plan known.called) (λ unknown. lacks_unsaid plan (unknown.nothing_said home (lit< tt))) good.caller

  head_with_te_run : (d : Found) → Read d (head_text plan cm ++ te_text plan.te) plan.te 0 0 0
  unfolding bytes word_length finish_line lacks_call when either
  head_with_te_run d =
      let head = head_run d in
      let te = te_line plan (with_octets 1 cm d) lacks_nothing good.te (omega (arith, (between_true 500 5000 plan.te good.te).1)) head.0 head.1 in
      (reading (told plan.te 0 0 0) (no_line 0) done, (no_line 0, refl), join head.2 refl te)

  -- and the cadence behind such lines
  cadence_run :
      (lines : List ℕ) (te : ℕ) → ((d : Found) → Read d lines te 0 0 0) → (d : Found) → Read d (lines ++ cadence_text plan.on plan.off) te plan.on plan.off 0
  unfolding bytes word_length finish_line when either
  cadence_run lines te before d =
      let told-so-far = before d in
      let cadence = cadence_line plan (with_octets 1 cm d) te good.cadence told-so-far.0 told-so-far.1 in
      (reading (told te plan.on plan.off 0) (no_line 0) done, (no_line 0, refl), join told-so-far.2 refl cadence)

  -- and the answer behind all of them
  answers_run :
      (lines : List ℕ) (te on off : ℕ) → ((d : Found) → Read d lines te on off 0) → (d : Found) → Read d (lines ++ answers_text plan.answers) te on off plan.answers
  unfolding bytes word_length finish_line when either
  answers_run lines te on off before d =
      let told-so-far = before d in
      let small : plan.answers < 100000 = omega (arith, (between_true 200 20000 plan.answers good.answers).1) in
      let answer-read = answers_line (told te on off 0) (with_octets 1 cm d) refl plan.answers good.answers small told-so-far.0 told-so-far.1 in
      (reading (told te on off plan.answers) (no_line 0) done, (no_line 0, refl), join told-so-far.2 refl answer-read)

  caller_said : (te on off answers : ℕ) → is_said (told te on off answers) 1 ≡ true
  unfolding is_said when either
  caller_said te on off answers =
      ⊎_elim (λ known. simp (ne_eqb plan.function stranger (no_stranger known), lt-ltb 0 (set_at plan 1 home) (has_home plan 1 known.caller).0))
      (λ unknown. simp (eq-eqb plan.function stranger unknown.unknown)) good.caller

  called_some : 0 < plan.function
  called_some = ⊎_elim (λ known. known.function.0) (λ unknown. omega (arith, unknown.unknown)) good.caller

  others_said : (te on off answers : ℕ) → (is_said (told te on off answers) 2 ≡ true) × (is_said (told te on off answers) 5 ≡ true)
  unfolding is_said when
  others_said te on off answers = (lt-ltb 0 (set_at plan 2 home) (has_home plan 2 good.answerer).0, lt-ltb 0 plan.function called_some)

  none_missing : (te on off answers : ℕ) → missing (told te on off answers) ≡ None
  unfolding missing when
  none_missing te on off answers = simp (caller_said te on off answers, (others_said te on off answers).0, (others_said te on off answers).1)

  is_finished :
      (te on off answers : ℕ) → with_default (told te on off answers) ≡ plan → (before : Line) (at : ℕ) → finished (reading (told te on off answers) before beginning) at ≡ Ok plan
  unfolding finished finish_line when either
  is_finished te on off answers as-meant before at = simp (none_missing te on off answers, as-meant)

  -- what is given stays
  te_stays : when (eqb plan.te 0) 1000 plan.te ≡ plan.te
  unfolding when
  te_stays = simp (ne_eqb plan.te 0 (λ e. omega (arith, e, (between_true 500 5000 plan.te good.te).0)))

  on_stays : when (eqb plan.on 0) default_on plan.on ≡ plan.on
  unfolding when
  on_stays = simp (ne_eqb plan.on 0 (λ e. omega (arith, e, (in_range_lem plan.on plan.off good.cadence).least_on)))

  off_stays : when (eqb plan.off 0) default_off plan.off ≡ plan.off
  unfolding when
  off_stays = simp (ne_eqb plan.off 0 (λ e. omega (arith, e, (in_range_lem plan.on plan.off good.cadence).least_off)))

  answers_stay : when (eqb plan.answers 0) default_answer plan.answers ≡ plan.answers
  unfolding when
  answers_stay = simp (ne_eqb plan.answers 0 (λ e. omega (arith, e, (between_true 200 20000 plan.answers good.answers).0)))

  as_planned : (te on off answers : ℕ) → te ≡ plan.te → on ≡ plan.on → off ≡ plan.off → answers ≡ plan.answers → told te on off answers ≡ plan
  as_planned te on off answers is-te is-on is-off is-answer = simp (is-te, is-on, is-off, is-answer)

-- the damaged bits
caller_place : (time : ℕ) → bit_place 1 time ≡ 0 + time
unfolding when
caller_place time = omega arith

answerer_place : (time : ℕ) → bit_place 2 time ≡ 9000 + time
unfolding when
answerer_place time = refl

module _ (plan : Plan) (damaged : List ℕ) (d : Found) (marks : Marks damaged) where
  abbrev first : List ℕ
  first = take 9000 damaged

  abbrev second : List ℕ
  second = take 9000 (drop 9000 damaged)

  abbrev two_texts : List ℕ
  two_texts = bits_text (bytes "\ndamaged   caller") 0 0 first ++ bits_text (bytes "\ndamaged   answerer") 0 0 second

  texts_stop : Stops two_texts
  unfolding bytes
  texts_stop =
      stops_joined (bits_text (bytes "\ndamaged   caller") 0 0 first) (bits_text (bytes "\ndamaged   answerer") 0 0 second)
      (bits_stop plan 1 (bytes "caller") caller_known 0 caller_place first 0 0) (bits_stop plan 2 (bytes "answerer") answerer_known 9000 answerer_place second 0 0)

  damage_there : damage_text damaged ≡ two_texts
  unfolding damage_text when
  damage_there = simp (le-ltb (length damaged) 18000 (omega (arith, marks.both_ends)))

  two_runs : (r : Reading) → Ends plan r → (r' : Reading) × Ends plan r' × Run r d two_texts r' (found (marking (marking d.damaged 0 first) 9000 second) d.octets d.whose)
  unfolding bytes
  two_runs r ends =
      let of-first = bits_run plan 1 (bytes "caller") caller_known 0 caller_place first 0 0 d r (ends, λ e. clash e) (omega (arith, first_half 9000 damaged marks.both_ends)) in
      let of-second =
      bits_run plan 2 (bytes "answerer") answerer_known 9000 answerer_place second 0 0 (found (marking d.damaged 0 first) d.octets d.whose) of-first.0 (of-first.1, λ e. clash e)
      (omega (arith, other_half 9000 damaged marks.both_ends)) in
      (of-second.0, of-second.1, join of-first.2 (bits_stop plan 2 (bytes "answerer") answerer_known 9000 answerer_place second 0 0) of-second.2)

-- a whole text: the lines that tell the ends and the call, the blocks, and the damaged bits
module _ (plan : Plan) (cm blocks damaged : List ℕ) (good : Good plan) (given : Given plan cm) (are_octets : Octets blocks) (marks : Marks damaged) (lines : List ℕ) (te on off answers : ℕ)
    (head : (d : Found) → Read plan good cm given d lines te on off answers) (as-meant : with_default (told plan good cm given te on off answers) ≡ plan)
  where
    abbrev text : List ℕ
    text = lines ++ octets_text (bytes "\nblocks   ") 0 blocks ++ damage_text damaged ++ bytes "\n"

    abbrev call : Plan
    call = told plan good cm given te on off answers

    abbrev after : List ℕ → ℕ → Found
    after d whose =
        found (marking (marking d 0 (take 9000 damaged)) 9000 (take 9000 (drop 9000 damaged))) (when (eqb 1 whose) cm [] ++ when (eqb 0 whose) blocks []) whose

    whole_run : (d : List ℕ) (whose : ℕ) → (before : Line) × Run fresh (found d [] whose) text (reading call before beginning) (after d whose)
    unfolding bytes word_length finish_line when either
    whole_run d whose =
        let told-all = head (found d [] whose) in
        let with-cm = with_octets 1 cm (found d [] whose) in
        let with_blocks = with_octets 0 blocks with-cm in
        let octets = octets_run call 0 (bytes "\nblocks   ") refl (block_lines call) blocks 0 with-cm told-all.0 (told-all.1, λ e. clash e) are_octets in
        let bits = two_runs call damaged with_blocks marks octets.0 octets.1 in
        let lists = join (join told-all.2 (octets_stop (bytes "\nblocks   ") refl blocks 0) octets.2) (texts_stop call damaged with_blocks marks) bits.2 in
        let run = join lists refl (fed bits.1.1 refl (nothing (reading call bits.1.0 beginning) (after d whose))) in
        (bits.1.0, rw (damage_there call damaged with_blocks marks) run)

    read_back : read_text text ≡ Ok plan
    read_back =
        let all = whole_run [] 0 in
        whole_read all.1 0 ∙ is_finished plan good cm given te on off answers as-meant all.0 (0 + length text)

    cm_back : cm_in text ≡ cm
    unfolding octets_in when
    cm_back = rw read_back (whole_given (whole_run [] 1).1 ∙ append-nil cm)

    blocks_back : blocks_in text ≡ blocks
    unfolding octets_in when
    blocks_back = rw read_back (whole_given (whole_run [] 0).1)

    marked_back : marked text (zeros (9000 + 9000)) ≡ damaged
    unfolding marked when
    marked_back = rw read_back (whole_marked (whole_run (zeros (9000 + 9000)) 0).1 ∙ halves_marked 9000 damaged marks.both_ends marks.bits)

    is_read_as : IsReadAs plan cm blocks damaged text
    is_read_as = (read_back, cm_back, blocks_back, marked_back)

pub plain_reads_back : PlainReadsBack
unfolding plain
plain_reads_back plan cm blocks damaged good given are_octets marks =
    let with-te = head_with_te_run plan good cm given in
    let with-cadence = cadence_run plan good cm given (head_text plan cm ++ te_text plan.te) plan.te with-te in
    is_read_as plan cm blocks damaged good given are_octets marks _ _ _ _ _
    (answers_run plan good cm given (head_text plan cm ++ te_text plan.te ++ cadence_text plan.on plan.off) plan.te plan.on plan.off with-cadence)
    (as_planned plan good cm given _ _ _ _ (te_stays plan good cm given) (on_stays plan good cm given) (off_stays plan good cm given) (answers_stay plan good cm given))

pub te_is_the_default : TeIsTheDefault
unfolding when
te_is_the_default plan cm blocks damaged good given are_octets marks is-default =
    let with-cadence = cadence_run plan good cm given (head_text plan cm) 0 (head_run plan good cm given) in
    is_read_as plan cm blocks damaged good given are_octets marks _ _ _ _ _
    (answers_run plan good cm given (head_text plan cm ++ cadence_text plan.on plan.off) 0 plan.on plan.off with-cadence)
    (as_planned plan good cm given _ _ _ _ (sym is-default) (on_stays plan good cm given) (off_stays plan good cm given) (answers_stay plan good cm given))

pub cadence_is_the_default : CadenceIsTheDefault
unfolding when
cadence_is_the_default plan cm blocks damaged good given are_octets marks is-on is-off =
    is_read_as plan cm blocks damaged good given are_octets marks _ _ _ _ _
    (answers_run plan good cm given (head_text plan cm ++ te_text plan.te) plan.te 0 0 (head_with_te_run plan good cm given))
    (as_planned plan good cm given _ _ _ _ (te_stays plan good cm given) (sym is-on) (sym is-off) (answers_stay plan good cm given))

pub answer_is_the_default : AnswerIsTheDefault
unfolding when
answer_is_the_default plan cm blocks damaged good given are_octets marks is-default =
    is_read_as plan cm blocks damaged good given are_octets marks _ _ _ _ _
    (cadence_run plan good cm given (head_text plan cm ++ te_text plan.te) plan.te (head_with_te_run plan good cm given))
    (as_planned plan good cm given _ _ _ _ (te_stays plan good cm given) (on_stays plan good cm given) (off_stays plan good cm given) (sym is-default))
