-- What a record that is not bad has for every function: each test that makes a record bad fails, and leaves a fact.
-- Assumes nothing.
use Prim.Native.Nat.{ℕ, zero, suc, ◌<◌, ◌≤◌, ◌%◌, ◌/◌}
use native.Mathlib.Omega.{arith}
use mathlib.Core.Path.{◌≡◌, refl, sym, ap, ◌∙◌}
use mathlib.Core.Bool.{Bool, true, false}
use mathlib.Core.List.{List, [], ◌∷◌}
use borrow.Author.Tests.{ltb-true, ltb-false, leb-false, eqb-true, eqb-false}
use lib.Dec.{ltb, eqb}
use lib.ListN.{length, get_or}
use Rattle.laws.specs.Logic.{when, either}
use Rattle.laws.proofs.Logic.{either_way, either_false, clash}
use Rattle.records.specs.declared.Modes.{Modes}
use Rattle.records.specs.declared.Record.{Record}
use Rattle.records.specs.Record.{flag, no_modes, modes_at, in_use, lacks_item_1, bad_modes, any_bad, bad_flags, bad_record}
use Rattle.records.proofs.Functions.{modes_past}

-- no function of it is bad
pub each_good : (functions : List Modes) (n : ℕ) → any_bad functions ≡ false → bad_modes (get_or functions n no_modes) ≡ false
unfolding any_bad when either
each_good [] n h = refl
each_good (modes ∷ rest) zero h = (either_false (bad_modes modes) (any_bad rest) h).0
each_good (modes ∷ rest) (suc n) h = each_good rest n (either_false (bad_modes modes) (any_bad rest) h).1

used_good : (functions : List Modes) (f : ℕ) → any_bad functions ≡ false → bad_modes (modes_at functions f) ≡ false
unfolding modes_at when either
used_good functions zero h = refl
used_good functions (suc n) h = either_way (λ (m : Modes). bad_modes m ≡ false) (flag (get_or functions n no_modes).available) _ _ (λ _. each_good functions n h) (λ _. refl)

item_1_there : (pcm items : ℕ) → lacks_item_1 pcm items ≡ false → (pcm % 4 ≡ 0 → ⊥) → eqb (items / 2 % 2) 0 ≡ false
item_1_there pcm items h some = either_way (λ (b : Bool). b ≡ false → eqb (items / 2 % 2) 0 ≡ false) (eqb (pcm % 4) 0) _ _ (λ t _. absurd (some (eqb-true _ _ t))) (λ _ e. e) h

-- what the test leaves
pub record Good (modes : Modes) : Type 0 where
  pub available : modes.available ≤ 1
  pub items : modes.items < 8192
  pub none : modes.items % 2 ≡ 0
  pub pcm : modes.pcm < 8
  pub item_1 : (modes.pcm % 4 ≡ 0 → ⊥) → modes.items / 2 % 2 ≡ 1

pub left_good : (modes : Modes) → bad_modes modes ≡ false → Good modes
left_good modes good =
    let available = either_false _ _ good in
    let all = either_false _ _ available.1 in
    let outside = either_false _ _ all.0 in
    let pcm = either_false _ _ all.1 in
    record {
      available = ltb-false 1 modes.available available.0;
      items = leb-false _ _ outside.1;
      none = omega (arith, eqb-false (modes.items % 2) 1 outside.0);
      pcm = omega (arith, ltb-false 7 modes.pcm pcm.0);
      item_1 = λ some. omega (arith, eqb-false (modes.items / 2 % 2) 0 (item_1_there modes.pcm modes.items pcm.1 some));
    }

module _ (rec : Record) (good : bad_record rec ≡ false) where
  pub good_home : ((in_use rec rec.home).available ≡ 1) × (any_bad rec.functions ≡ false)
  unfolding bad_record
  good_home =
      either_way (λ (b : Bool). b ≡ false → ((in_use rec rec.home).available ≡ 1) × (any_bad rec.functions ≡ false)) _ _ _
      (λ t h. (eqb-true _ _ t, (either_false _ _ h).1)) (λ _ h. clash h) good

  pub good_flags : bad_flags rec ≡ false
  unfolding bad_record
  good_flags = either_way (λ (b : Bool). b ≡ false → bad_flags rec ≡ false) _ _ _ (λ _ h. (either_false _ _ h).0) (λ _ h. clash h) good

  pub good_modes : (f : ℕ) → Good (in_use rec f)
  good_modes f = left_good (in_use rec f) (used_good rec.functions f good_home.1)

-- only a function of the record is available
within_by : (functions : List Modes) (f : ℕ) (past : Bool) → ltb (length functions) f ≡ past → (modes_at functions f).available ≡ 1 → f ≤ length functions
within_by functions f true p h = let none = modes_past functions f (ltb-true _ _ p) in absurd (omega (arith, h, ap (λ (m : Modes). m.available) none))
within_by functions f false p h = ltb-false _ _ p

pub available_within : (functions : List Modes) (f : ℕ) → (modes_at functions f).available ≡ 1 → f ≤ length functions
available_within functions f h = within_by functions f (ltb (length functions) f) refl h

-- a function that is not available has nothing
pub none_used : (functions : List Modes) (f : ℕ) → flag (modes_at functions f).available ≡ false → modes_at functions f ≡ no_modes
unfolding modes_at
none_used functions zero = λ _. refl
none_used functions (suc n) = either_way (λ (m : Modes). flag m.available ≡ false → m ≡ no_modes) (flag (get_or functions n no_modes).available) _ _ (λ t h. clash (sym t ∙ h)) (λ _ _. refl)
