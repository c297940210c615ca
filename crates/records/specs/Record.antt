-- Document 01, 'Menus we make': the record of an end.
use Rattle.std.specs.Prelude.{ℕ, zero, suc, ◌/◌, ◌%◌, Bool, true, false, List, [], ◌∷◌, leb, ltb, eqb, get_or}
use Rattle.laws.specs.Logic.{when, either}
use Rattle.records.specs.declared.Modes.{Modes}
use Rattle.records.specs.declared.Record.{Record}

-- "no modes and no PCM"
abbrev pub no_modes : Modes
no_modes = record { available = 0; pcm = 0; items = 0 }

-- "available or not", wanted or not: 1 for yes, 0 for no
abbrev pub flag : ℕ → Bool
flag n = eqb n 1

-- a number that is neither
abbrev pub no_flag : ℕ → Bool
no_flag n = ltb 1 n

-- "one not available has no modes and no PCM, even where they are filled in"
abbrev pub where_available : Modes → Modes
where_available modes = when (flag modes.available) modes no_modes

-- functions are counted from 1; a number that is no function has no modes
unfoldable pub modes_at : List Modes → ℕ → Modes
modes_at functions zero = no_modes
modes_at functions (suc n) = where_available (get_or functions n no_modes)

-- what a function offers in a menu: the one set in use
abbrev pub in_use : Record → ℕ → Modes
in_use rec function = modes_at rec.functions function

-- "a set holds anything outside 1 to 12": item 0, or one from 13 on, whose weight is 8192
abbrev pub outside : ℕ → Bool
outside items = either (eqb (items % 2) 1) (leb 8192 items)

-- "PCM b5 or b6 is set without item 1 in the same function"; b5 and b6 are the two lowest bits of the options
abbrev pub lacks_item_1 : ℕ → ℕ → Bool
lacks_item_1 pcm items = when (eqb (pcm % 4) 0) false (eqb (items / 2 % 2) 0)

-- one function's share of what makes a record bad
abbrev pub bad_modes : Modes → Bool
bad_modes modes = either (no_flag modes.available) (either (outside modes.items) (either (ltb 7 modes.pcm) (lacks_item_1 modes.pcm modes.items)))

-- "All six functions are tested"
unfoldable pub any_bad : List Modes → Bool
any_bad [] = false
any_bad (modes ∷ rest) = either (bad_modes modes) (any_bad rest)

-- what is neither wanted nor not, neither cellular nor not, neither digital nor not
abbrev pub bad_flags : Record → Bool
bad_flags rec = either (no_flag rec.lapm) (either (no_flag rec.access) (either (no_flag rec.cellular) (no_flag rec.digital)))

-- "It is bad (10) if the home function isn't an available one, .."
unfoldable pub bad_record : Record → Bool
bad_record rec = when (flag (in_use rec rec.home).available) (either (bad_flags rec) (any_bad rec.functions)) true
