-- The modes of a function by its number, and one function at a time of the test over all.
-- Assumes nothing.
use Prim.Native.Nat.{ℕ, zero, suc, ◌<◌, ◌≤◌, ◌-◌}
use native.Mathlib.Omega.{arith}
use mathlib.Core.Path.{◌≡◌, refl, sym}
use mathlib.Core.Bool.{Bool, true, false, ◌||◌}
use mathlib.Core.List.{List, [], ◌∷◌}
use borrow.Author.Tests.{ne_eqb}
use lib.ListN.{length, get_or, get_or-eq_default}
use Rattle.std.specs.List.{list_any}
use Rattle.laws.specs.Logic.{when, either}
use Rattle.records.specs.declared.Modes.{Modes}
use Rattle.records.specs.declared.Record.{Record}
use Rattle.records.specs.Record.{no_modes, where_available, modes_at, in_use, bad_modes, any_bad, bad_flags, bad_record}

-- a function from 1 up stands one before its number
pub modes_at_lem : (functions : List Modes) (n : ℕ) → 1 ≤ n → modes_at functions n ≡ where_available (get_or functions (n - 1) no_modes)
unfolding modes_at
modes_at_lem functions zero h = absurd (omega (arith, h))
modes_at_lem functions (suc n) h = let before : suc n - 1 ≡ n = omega arith in simp before

-- a number past the functions has no modes
pub modes_past : (functions : List Modes) (n : ℕ) → length functions < n → modes_at functions n ≡ no_modes
unfolding when
modes_past functions n h = simp (modes_at_lem functions n (omega (arith, h)), get_or-eq_default functions no_modes {n = n - 1} (omega (arith, h)))

-- the test over all functions is std's word for one
pub any_listed : (functions : List Modes) → any_bad functions ≡ list_any bad_modes functions
unfolding any_bad either
any_listed [] = refl
any_listed (modes ∷ rest) = go (bad_modes modes) (any_listed rest)
  where
    go : (here : Bool) → any_bad rest ≡ list_any bad_modes rest → either here (any_bad rest) ≡ (here || list_any bad_modes rest)
    go true behind = refl
    go false behind = behind

-- the test of the home function decides, then that of the flags, or it is left to all functions
module _ (rec : Record) (home : Modes) (same : home ≡ in_use rec rec.home) where
  pub home_missing : (home.available ≡ 1 → ⊥) → bad_record rec ≡ true
  unfolding when bad_record
  home_missing n = simp (sym same, ne_eqb home.available 1 n)

  pub flags_bad : home.available ≡ 1 → bad_flags rec ≡ true → bad_record rec ≡ true
  unfolding when either bad_record
  flags_bad h t = simp (sym same, h, t)

  pub functions_left : home.available ≡ 1 → bad_flags rec ≡ false → bad_record rec ≡ any_bad rec.functions
  unfolding when either bad_record
  functions_left h t = simp (sym same, h, t)
