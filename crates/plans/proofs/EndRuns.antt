-- What is said of an end, read from its text: the functions, the home function, what is wanted and what the line is.
-- Assumes nothing.
use Rattle.std.proofs.Common.{◌≡◌, ℕ, ◌/◌, ◌%◌, ◌<◌, ◌≤◌, false, eqb, ltb, List, [], ◌∷◌, ◌++◌, length, get_or, set, sym, refl, ap, ◌∙◌, subst, arith, lit<, lit≤, length-set, set-set}
use lib.Seq.{set-get_or}
use Rattle.laws.specs.Logic.{when, both, either}
use Rattle.laws.specs.Tests.{every, same_list}
use Rattle.laws.proofs.Logic.{either_way}
use Rattle.items.specs.Items.{set_of, in_set}
use Rattle.items.proofs.Bits.{first_item}
use Rattle.names.specs.Bytes.{bytes}
use Rattle.names.specs.Names.{names, named_by, names_of, function, part, wanted, quality}
use Rattle.plans.specs.declared.Plan.{Plan}
use Rattle.plans.specs.declared.Reading.{Reading}
use Rattle.plans.specs.Text.{word_length}
use Rattle.plans.specs.Reading.{in_end, after_home, after_wants, planned, home, place, set_at, added, say, name_home, part_word, end_word, function_word, name_word}
use Rattle.plans.specs.Plain.{function_name, wants_text, end_text}
use Rattle.plans.specs.Good.{GoodEnd}
use Rattle.plans.proofs.Runs.{Stops, stops_joined, Found, Run, nothing, spaced, comma, join}
use Rattle.plans.proofs.Words.{Known, known, names_known, line_of, no_line, reading, name_run}
use Rattle.plans.proofs.NameRuns.{names_stop, qualities_ordered, number_run, names_run}
use Rattle.plans.proofs.Places.{set_here, set_there}
use Rattle.plans.proofs.FunctionRuns.{known_function, on, with_functions, functions_stop, functions_run, others_kept}
use Rattle.plans.proofs.Accepted.{has_home}

home_known : Known (bytes "home") part 3
unfolding names bytes every named_by same_list when both either
home_known = known (bytes "home") part 3 tt

wants_known : Known (bytes "wants") part 4
unfolding names bytes every named_by same_list when both either
wants_known = known (bytes "wants") part 4 tt

lapm_known : Known (bytes "LAPM") wanted 0
unfolding names bytes every named_by same_list when both either
lapm_known = known (bytes "LAPM") wanted 0 tt

access_known : Known (bytes "access") wanted 1
unfolding names bytes every named_by same_list when both either
access_known = known (bytes "access") wanted 1 tt

-- what is wanted, or not
abbrev lapm_text : ℕ → List ℕ
lapm_text said = when (eqb (said % 2) 1) (bytes ", wants LAPM") []

abbrev access_text : ℕ → List ℕ
access_text said = when (eqb (said / 2 % 2) 1) (bytes ", wants access") []

lapm_stops : (said : ℕ) → Stops (lapm_text said)
unfolding bytes word_length when either
lapm_stops said = either_way Stops (eqb (said % 2) 1) (bytes ", wants LAPM") [] (λ _. refl) (λ _. refl)

access_stops : (said : ℕ) → Stops (access_text said)
unfolding bytes word_length when either
access_stops said = either_way Stops (eqb (said / 2 % 2) 1) (bytes ", wants access") [] (λ _. refl) (λ _. refl)

-- a comma, where the line is something
abbrev comma_text : ℕ → List ℕ
comma_text said = when (ltb 0 (said / 4 % 4)) (bytes ",") []

comma_stops : (said : ℕ) → Stops (comma_text said)
unfolding bytes word_length when either
comma_stops said = either_way Stops (ltb 0 (said / 4 % 4)) (bytes ",") [] (λ _. refl) (λ _. refl)

-- a line whose functions are said
module _ (called end first : ℕ) (d : Found) where
  abbrev saying : ℕ → List ℕ → ℕ → Reading
  saying last sets context = reading (planned sets called 0) (line_of end last first) context

  home_run :
      (last f : ℕ) (sets : List ℕ) → 0 < f → f < 7 → get_or sets (place end home) 0 ≡ 0
      → Run (saying last sets in_end) d (bytes " home" ++ function_name f) (saying 0 (set sets (place end home) f) in_end) d
  unfolding bytes name_word end_word part_word function_word name_home when either
  home_run last f sets some h is-new =
      let name = known_function f some h in
      let now = saying 0 (set sets (place end home) f) in_end in
      let of-name = spaced 1 refl (name_run (saying last sets after_home) now d name.0 function f name.2 refl refl refl (simp is-new) refl) in
      join
      (spaced 1 refl (name_run (saying last sets in_end) (saying last sets after_home) d (bytes "home") part 3 home_known refl refl refl refl refl))
      (names_stop function _ names)
      (subst (λ (text : List ℕ). Run (saying last sets after_home) d text now d) (sym name.1) of-name)

  -- what is wanted and what the line is
  module _ (sets : List ℕ) (sixteen : length sets ≡ 16) where
    abbrev with : ℕ → List ℕ
    with numbers = set sets (place end 0) numbers

    abbrev now : ℕ → Reading
    now numbers = saying 0 (with numbers) in_end

    said_read : (context n numbers : ℕ) → in_set numbers n ≡ false → say (saying 0 (with numbers) context) 0 n 0 (saying 0 (with numbers) context).first ≡ now (added numbers n)
    unfolding say when
    said_read context n numbers not_in = simp (set_here sets sixteen end 0 numbers, not_in, set-set)

    wants_run : (word : List ℕ) (n numbers : ℕ) → Known word wanted n → in_set numbers n ≡ false → Run (now numbers) d (44 ∷ 32 ∷ bytes "wants" ++ (32 ∷ word)) (now (added numbers n)) d
    unfolding bytes word_length name_word end_word part_word when either
    wants_run word n numbers names_it not_in =
        let between = saying 0 (with numbers) after_wants in
        comma refl (spaced 1 refl
        (join {a = bytes "wants"} {b = 32 ∷ word}
        (name_run (now numbers) between d (bytes "wants") part 4 wants_known refl refl refl refl refl)
        refl
        (spaced 1 refl (name_run between (now (added numbers n)) d word wanted n names_it refl refl refl (said_read after_wants n numbers not_in) refl))))

    quality_run : (word : List ℕ) (n numbers : ℕ) → Known word quality n → in_set numbers n ≡ false → Run (now numbers) d (32 ∷ word) (now (added numbers n)) d
    unfolding name_word end_word when either
    quality_run word n numbers names_it not_in = spaced 1 refl (name_run (now numbers) (now (added numbers n)) d word quality n names_it refl refl refl (said_read in_end n numbers not_in) refl)

    comma_run : (said numbers : ℕ) → Run (now numbers) d (comma_text said) (now numbers) d
    unfolding bytes
    comma_run said numbers =
        either_way (λ (text : List ℕ). Run (now numbers) d text (now numbers) d) (ltb 0 (said / 4 % 4)) (bytes ",") []
        (λ _. comma refl (nothing (now numbers) d))
        (λ _. nothing (now numbers) d)

    said_run : (said : ℕ) → said ≤ 15 → Run (now 0) d (wants_text said) (now said) d
    unfolding bytes word_length either when set_of in_set
    said_run said few =
        rw (sym (first_item said))
        (join (join (join
        (number_run now d said 0 (bytes ", wants LAPM") (lit< tt) (λ numbers. wants_run (bytes "LAPM") 0 numbers lapm_known))
        (access_stops said)
        (number_run now d said 1 (bytes ", wants access") (lit< tt) (λ numbers. wants_run (bytes "access") 1 numbers access_known)))
        (comma_stops said)
        (comma_run said _))
        (names_stop quality said names)
        (names_run now d said quality 4 (lit≤ tt) (omega (arith, few)) quality_run names 2 names_known qualities_ordered))

-- sets with those of a plan for an end
abbrev pub with_end : Plan → ℕ → List ℕ → List ℕ
with_end plan end sets = set (set (with_functions plan end sets 1 6) (place end home) (set_at plan end home)) (place end 0) (set_at plan end 0)

wants_stop : (said : ℕ) → Stops (wants_text said)
wants_stop said =
    let wanted-stop = stops_joined (lapm_text said) (access_text said) (lapm_stops said) (access_stops said) in
    let with-comma = stops_joined (lapm_text said ++ access_text said) (comma_text said) wanted-stop (comma_stops said) in
    stops_joined (lapm_text said ++ access_text said ++ comma_text said) (names_of quality said names) with-comma (names_stop quality said names)

home_stops : (f : ℕ) → Stops (bytes " home" ++ function_name f)
unfolding bytes word_length when either
home_stops f = refl

-- all that is said of an end of which nothing was said before
module _ (plan : Plan) (called end : ℕ) (good : GoodEnd plan end) (d : Found) (sets : List ℕ) (sixteen : length sets ≡ 16) (new : (k : ℕ) → k < 8 → get_or sets (place end k) 0 ≡ 0) (r : Reading) (name : List ℕ) (begun : Run r d name (reading (planned sets called 0) (no_line end) in_end) d) where
  pub end_run : (first : ℕ) × Run r d (end_text name plan end) (on called end 0 first (with_end plan end sets)) d
  end_run =
      let f = set_at plan end home in
      let is_one = has_home plan end good in
      let functions = with_functions plan end sets 1 6 in
      let at_home = others_kept plan end home (lit< tt) 6 1 sets sixteen (lit≤ tt) (λ j _ l e. omega (arith, l, e)) in
      let at_first = others_kept plan end 0 (lit< tt) 6 1 sets sixteen (lit≤ tt) (λ j l _ e. omega (arith, l, e)) in
      let homed = set functions (place end home) f in
      let still-16 : length homed ≡ 16 = length-set functions (place end home) f ∙ at_home.0 in
      let none_said : get_or homed (place end 0) 0 ≡ 0 = set_there functions at_home.0 end home f 0 (lit< tt) (lit< tt) (λ e. omega (arith, e)) ∙ at_first.1 ∙ new 0 (lit< tt) in
      let same : set homed (place end 0) 0 ≡ homed = ap (set homed (place end 0)) (sym none_said) ∙ set-get_or homed (place end 0) 0 in
      let of-functions = functions_run called end d plan good.nothing_else good.sets 6 1 0 0 sets (lit< tt) (lit≤ tt) sixteen (λ i _ l. new i (omega (arith, l))) in
      let of-home = home_run called end of-functions.1 d of-functions.0 f functions is_one.0 (omega (arith, good.home_function)) (at_home.1 ∙ new home (lit< tt)) in
      let of-rest = said_run called end of-functions.1 d homed still-16 (set_at plan end 0) good.said in (
        of-functions.1,
        join (join (join begun (functions_stop plan end 1 6) of-functions.2)
            (home_stops (f % 8)) (rw is_one.1 of-home))
            (wants_stop (set_at plan end 0))
            (subst (λ (now : List ℕ). Run (on called end 0 of-functions.1 now) d (wants_text (set_at plan end 0)) (on called end 0 of-functions.1 (with_end plan end sets)) d) same of-rest),
      )
