-- A plan in its plain form: every default written out.
use Rattle.std.specs.Prelude.{ℕ, zero, suc, ◌+◌, ◌/◌, ◌%◌, List, [], ◌∷◌, ◌++◌, length, take, drop, ◌==◌, nat_lt}
use Rattle.io.specs.Digits.{last_digits}
use Rattle.laws.specs.Logic.{when}
use Rattle.printing.specs.Page.{hex_octet}
use Rattle.names.specs.Bytes.{bytes}
use Rattle.names.specs.Names.{function, mode, quality, names, names_of}
use Rattle.plans.specs.declared.Plan.{Plan}
use Rattle.plans.specs.Reading.{home, stranger, set_at, added, is_stranger}

-- the name of a function, behind a blank
abbrev pub function_name : ℕ → List ℕ
function_name f = names_of function (added 0 f) names

-- a function that an end has, with its modes
unfoldable pub function_text : ℕ → ℕ → List ℕ
function_text f modes = when (modes % 2 == 1) (function_name f ++ names_of mode modes names ++ bytes ",") []

-- functions from one on, so many of them
unfoldable pub functions_text : Plan → ℕ → ℕ → ℕ → List ℕ
functions_text plan end f zero = []
functions_text plan end f (suc count) = function_text f (set_at plan end f) ++ functions_text plan end (f + 1) count

-- what an end wants, and what its line is
abbrev pub wants_text : ℕ → List ℕ
wants_text said =
    when (said % 2 == 1) (bytes ", wants LAPM") [] ++ when (said / 2 % 2 == 1) (bytes ", wants access") []
    ++ when (nat_lt 0 (said / 4 % 4)) (bytes ",") [] ++ names_of quality said names

-- the line of an end: its name, then what is said of it
abbrev pub end_text : List ℕ → Plan → ℕ → List ℕ
end_text name plan end = name ++ functions_text plan end 1 6 ++ (bytes " home" ++ function_name (set_at plan end home % 8)) ++ wants_text (set_at plan end 0)

-- a number below 100,000 in decimal digits, as few as hold it
abbrev pub decimal : ℕ → List ℕ
decimal n = last_digits 10 (when (nat_lt n 10) 1 (when (nat_lt n 100) 2 (when (nat_lt n 1000) 3 (when (nat_lt n 10000) 4 5)))) n

-- what stands before an entry of a list, behind so many others: sixteen are in a line, which begins with a front
abbrev pub entry_front : List ℕ → ℕ → List ℕ
entry_front front count = when (count % 16 == 0) front [] ++ bytes " "

abbrev pub entry_text : List ℕ → ℕ → List ℕ → List ℕ
entry_text front count entry = entry_front front count ++ entry

-- octets, behind so many others
unfoldable pub octets_text : List ℕ → ℕ → List ℕ → List ℕ
octets_text front count [] = []
octets_text front count (b ∷ rest) = entry_text front count (hex_octet b) ++ octets_text front (count + 1) rest

-- a damaged bit
abbrev pub bit_text : List ℕ → ℕ → ℕ → List ℕ
bit_text front count time = entry_text front count (decimal time)

-- the damaged bits of an end from a time on, behind so many others
unfoldable pub bits_text : List ℕ → ℕ → ℕ → List ℕ → List ℕ
bits_text front count time [] = []
bits_text front count time (b ∷ rest) = when (b == 1) (bit_text front count time) [] ++ bits_text front (count + when (b == 1) 1 0) (time + 1) rest

-- the damaged bits of both ends
unfoldable pub damage_text : List ℕ → List ℕ
damage_text damaged =
    when (nat_lt (length damaged) 18000) []
    (bits_text (bytes "\ndamaged   caller") 0 0 (take 9000 damaged) ++ bits_text (bytes "\ndamaged   answerer") 0 0 (take 9000 (drop 9000 damaged)))

-- the line of the caller: what is said of it, or the CM that a stranger sends, whose octets stand in one line without further fronts
unfoldable pub caller_text : Plan → List ℕ → List ℕ
caller_text plan cm = when (is_stranger plan) (bytes "caller    sends" ++ octets_text [] 0 cm) (end_text (bytes "caller   ") plan 1)

-- the function called, which a stranger says in its CM
unfoldable pub called_text : ℕ → List ℕ
called_text function = when (function == stranger) [] (bytes "\ncall     " ++ function_name function)

-- all that is said of the ends and of the function called
abbrev pub head_text : Plan → List ℕ → List ℕ
head_text plan cm = caller_text plan cm ++ end_text (bytes "\nanswerer ") plan 2 ++ called_text plan.function

-- the line for Te
abbrev pub te_text : ℕ → List ℕ
te_text te = bytes "\nTe        " ++ decimal te

-- the line for the cadence
abbrev pub cadence_text : ℕ → ℕ → List ℕ
cadence_text on off = bytes "\ncadence   " ++ decimal on ++ bytes " " ++ decimal off

-- the line for the answer
abbrev pub answers_text : ℕ → List ℕ
answers_text answers = bytes "\nanswers   " ++ decimal answers

-- a plan, with the octets of a CM and of blocks, and with damaged bits
unfoldable pub plain : Plan → List ℕ → List ℕ → List ℕ → List ℕ
plain plan cm blocks damaged =
    head_text plan cm ++ te_text plan.te ++ cadence_text plan.on plan.off ++ answers_text plan.answers ++ octets_text (bytes "\nblocks   ") 0 blocks ++ damage_text damaged ++ bytes "\n"
