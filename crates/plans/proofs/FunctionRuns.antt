-- The functions of an end, read from their texts.
-- Assumes nothing.
use Rattle.std.proofs.Common.{◌≡◌, ℕ, zero, suc, ◌+◌, ◌%◌, ◌<◌, ◌≤◌, true, false, eqb, ◌⊎◌, List, [], ◌∷◌, ◌++◌, length, get_or, set, sym, refl, ap, ◌∙◌, subst, ⊎_elim, le_of_suc-le-suc, not-suc-le-zero, arith, lit≤, length-set, set-set, eq-eqb, ne_eqb}
use lib.Seq.{set-get_or}
use Rattle.laws.specs.Logic.{when, either}
use Rattle.laws.proofs.Logic.{either_way}
use Rattle.items.specs.Items.{set_of, in_set}
use Rattle.items.proofs.Bits.{first_item}
use Rattle.names.specs.Bytes.{bytes}
use Rattle.names.specs.Names.{names, function, mode, names_of}
use Rattle.plans.specs.declared.Plan.{Plan}
use Rattle.plans.specs.declared.Reading.{Reading}
use Rattle.plans.specs.Text.{word_length}
use Rattle.plans.specs.Reading.{in_end, planned, place, set_at, added, first_of, say, name_function, name_mode, end_word, name_word}
use Rattle.plans.specs.Plain.{function_name, function_text, functions_text}
use Rattle.plans.proofs.Runs.{Stops, stops_joined, Found, Run, nothing, spaced, comma, join}
use Rattle.plans.proofs.Words.{Known, meaning, names_known, function_known, line_of, reading, name_run}
use Rattle.plans.proofs.NameRuns.{names_stop, modes_ordered, names_run}
use Rattle.plans.proofs.Places.{set_here, set_there}

pub known_function : (f : ℕ) → 0 < f → f < 7 → (word : List ℕ) × (function_name f ≡ 32 ∷ word) × Known word function f
known_function zero some h = absurd (not-suc-le-zero some)
known_function (suc n) some h = function_known n (le_of_suc-le-suc h)

function_stops : (f modes : ℕ) → Stops (function_text f modes)
unfolding function_text word_length bytes when either
function_stops f modes =
    either_way Stops (eqb (modes % 2) 1) (function_name f ++ names_of mode modes names ++ bytes ",") []
    (λ _. stops_joined (function_name f ++ names_of mode modes names) (bytes ",")
    (stops_joined (function_name f) (names_of mode modes names) (names_stop function _ names) (names_stop mode modes names)) refl)
    (λ _. refl)

pub functions_stop : (plan : Plan) (end f count : ℕ) → Stops (functions_text plan end f count)
unfolding functions_text word_length
functions_stop plan end f zero = refl
functions_stop plan end f (suc count) =
    stops_joined (function_text f (set_at plan end f)) (functions_text plan end (f + 1) count) (function_stops f (set_at plan end f)) (functions_stop plan end (f + 1) count)

-- sets with those of a plan, of so many functions from one on
unfoldable pub with_functions : Plan → ℕ → List ℕ → ℕ → ℕ → List ℕ
with_functions plan end sets f zero = sets
with_functions plan end sets f (suc count) = with_functions plan end (set sets (place end f) (set_at plan end f)) (f + 1) count

-- a line that has named the functions of the sets, behind one that says what is called, or none
abbrev pub on : ℕ → ℕ → ℕ → ℕ → List ℕ → Reading
on called end function first sets = reading (planned sets called 0) (line_of end function first) in_end

module _ (called end : ℕ) (d : Found) where
  -- a function
  module _ (f : ℕ) (some : 0 < f) (h : f < 7) (sets : List ℕ) (sixteen : length sets ≡ 16) (is-new : get_or sets (place end f) 0 ≡ 0) where
    function_read : (last first : ℕ) → name_word (on called end last first sets) (meaning function f) ≡ on called end f (first_of first f) (set sets (place end f) 1)
    unfolding name_word end_word name_function say when in_set
    function_read last first = simp is-new

    -- with some of its modes
    abbrev saying : ℕ → ℕ → Reading
    saying first numbers = on called end f first (set sets (place end f) numbers)

    mode_run : (first : ℕ) (word : List ℕ) (n numbers : ℕ) → Known word mode n → in_set numbers n ≡ false → Run (saying first numbers) d (32 ∷ word) (saying first (added numbers n)) d
    unfolding name_word end_word name_mode say when either
    mode_run first word n numbers names_it not_in =
        spaced 1 refl (name_run (saying first numbers) (saying first (added numbers n)) d word mode n names_it refl refl refl
        (simp (ne_eqb f 0 (λ e. omega (arith, e, some)), set_here sets sixteen end f numbers, not_in, set-set)) refl)

    function_run :
        (last first modes : ℕ) → modes % 2 ≡ 1 → modes < 65536
        → Run (on called end last first sets) d (function_name f ++ names_of mode modes names ++ bytes ",") (saying (first_of first f) modes) d
    unfolding either set_of when bytes word_length
    function_run last first modes odd small =
        let name = known_function f some h in
        let first' = first_of first f in
        let named : in_set modes 0 ≡ true = first_item modes ∙ eq-eqb (modes % 2) 1 odd in
        let one : set_of (in_set modes) 1 ≡ 1 = simp named in
        let of-name = name_run (on called end last first sets) (saying first' 1) d name.0 function f name.2 refl refl refl (function_read last first) refl in
        let named-run = subst (λ (text : List ℕ). Run (on called end last first sets) d text (saying first' 1) d) (sym name.1) (spaced 1 refl of-name) in
        let of-modes = names_run (saying first') d modes mode 16 (lit≤ tt) small (mode_run first') names 1 names_known modes_ordered in
        let modes-from = subst (λ (n : ℕ). Run (saying first' n) d (names_of mode modes names) (saying first' modes) d) one of-modes in
        join (join named-run (names_stop mode modes names) modes-from) refl (comma refl (nothing _ d))

    -- it is named where the end has it
    one_run :
        (last first modes : ℕ) → (modes % 2 ≡ 1) ⊎ (modes ≡ 0) → modes < 65536
        → (last' : ℕ) × (first' : ℕ) × Run (on called end last first sets) d (function_text f modes) (on called end last' first' (set sets (place end f) modes)) d
    unfolding function_text when
    one_run last first modes is_whole small =
        ⊎_elim (λ odd. (f, first_of first f, rw (eq-eqb (modes % 2) 1 odd) (function_run last first modes odd small)))
        (λ none.
        let same : sets ≡ set sets (place end f) 0 = sym (set-get_or sets (place end f) 0) ∙ ap (set sets (place end f)) is-new in
        (last, first, rw none (subst (λ (now : List ℕ). Run (on called end last first sets) d [] (on called end last first now) d) same (nothing (on called end last first sets) d)))) is_whole

  -- some functions, then others
  further :
      (r r' : Reading) (one others sets : List ℕ) → Run r d one r' d → Stops others → (last' : ℕ) × (first' : ℕ) × Run r' d others (on called end last' first' sets) d
      → (last' : ℕ) × (first' : ℕ) × Run r d (one ++ others) (on called end last' first' sets) d
  further r r' one others sets run stops more = (more.0, more.1, join run stops more.2)

  module _ (plan : Plan) (whole : (f : ℕ) → 1 ≤ f → f ≤ 6 → (set_at plan end f % 2 ≡ 1) ⊎ (set_at plan end f ≡ 0)) (small : (f : ℕ) → f ≤ 6 → set_at plan end f < 65536) where
    pub functions_run :
        (count f last first : ℕ) (sets : List ℕ) → 0 < f → f + count ≤ 7 → length sets ≡ 16 → ((i : ℕ) → f ≤ i → i < 7 → get_or sets (place end i) 0 ≡ 0)
        → (last' : ℕ) × (first' : ℕ) × Run (on called end last first sets) d (functions_text plan end f count) (on called end last' first' (with_functions plan end sets f count)) d
    unfolding functions_text with_functions
    functions_run zero f last first sets some fits sixteen new = (last, first, nothing (on called end last first sets) d)
    functions_run (suc count) f last first sets some fits sixteen new =
        let h : f < 7 = omega (arith, fits) in
        let modes = set_at plan end f in
        let here = one_run f some h sets sixteen (new f (omega arith) h) last first modes (whole f some (omega (arith, h))) (small f (omega (arith, h))) in
        let sets' = set sets (place end f) modes in
        let new' : (i : ℕ) → f + 1 ≤ i → i < 7 → get_or sets' (place end i) 0 ≡ 0 =
        λ i more l. set_there sets sixteen end f modes i (omega (arith, l)) (omega (arith, h)) (λ e. omega (arith, e, more)) ∙ new i (omega (arith, more)) l in
        further (on called end last first sets) (on called end here.0 here.1 sets') (function_text f modes) (functions_text plan end (f + 1) count) (with_functions plan end sets' (f + 1) count) here.2 (functions_stop plan end (f + 1) count)
        (functions_run count (f + 1) here.0 here.1 sets' (omega arith) (omega (arith, fits)) (length-set sets (place end f) modes ∙ sixteen) new')

-- the functions leave the other sets as they were
module _ (plan : Plan) (end i : ℕ) (h : i < 8) where
  pub others_kept :
      (count f : ℕ) (sets : List ℕ) → length sets ≡ 16 → f + count ≤ 7 → ((j : ℕ) → f ≤ j → j < 7 → i ≡ j → ⊥)
      → (length (with_functions plan end sets f count) ≡ 16) × (get_or (with_functions plan end sets f count) (place end i) 0 ≡ get_or sets (place end i) 0)
  unfolding with_functions
  others_kept zero f sets sixteen fits apart = (sixteen, refl)
  others_kept (suc count) f sets sixteen fits apart =
      let modes = set_at plan end f in
      let later =
      others_kept count (f + 1) (set sets (place end f) modes) (length-set sets (place end f) modes ∙ sixteen) (omega (arith, fits)) (λ j more l. apart j (omega (arith, more)) l) in
      (later.0, later.1 ∙ set_there sets sixteen end f modes i h (omega (arith, fits)) (apart f (omega arith) (omega (arith, fits))))
