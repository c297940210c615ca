-- The test of a cadence, as facts about its numbers.
-- Assumes nothing.
use Prim.Native.Nat.{ℕ, ◌≤◌, ◌<◌}
use native.Mathlib.Omega.{arith}
use mathlib.Core.Path.{◌≡◌, refl}
use mathlib.Core.Bool.{Bool, true, false}
use borrow.Author.Tests.{ltb-true, ltb-false, leb-true, eqb-true, eqb-false, lt-ltb, eq-eqb}
use lib.Dec.{ltb, leb, eqb}
use Rattle.laws.specs.Logic.{when, both, either}
use Rattle.laws.proofs.Logic.{either_way, both_true}
use Rattle.cadence.specs.declared.Cadence.{Cadence}
use Rattle.cadence.specs.Cadence.{is_function, is_cadence, period}
use Rattle.cadence.specs.Giving.{place_fits, cadence_fits, left, due}

pub record Fits (c : Cadence) : Type 0 where
  pub function : is_function c.function ≡ true
  pub cadence : is_cadence c.on c.off ≡ true
  pub tone : leb c.tone 2 ≡ true
  pub place : place_fits c.place c.sent (period c.on c.off) ≡ true

pub fits_are : (c : Cadence) → cadence_fits c ≡ true → Fits c
unfolding cadence_fits
fits_are c h =
    let from-function = both_true _ _ h in
    let from-cadence = both_true _ _ from-function.1 in
    let from-tone = both_true _ _ from-cadence.1 in
    record { function = from-function.0; cadence = from-cadence.0; tone = from-tone.0; place = from-tone.1 }

pub are_fits : (c : Cadence) → Fits c → cadence_fits c ≡ true
unfolding cadence_fits both
are_fits c f = simp (f.function, f.cadence, f.tone, f.place)

pub function_small : (function : ℕ) → is_function function ≡ true → function < 7
function_small function h = omega (arith, leb-true function 6 (both_true (leb 1 function) (leb function 6) h).1)

-- sequences on, and bit times off
pub record Lasts (on off : ℕ) : Type 0 where
  pub some : 3 ≤ on
  pub few : on ≤ 20
  pub long : 120 ≤ off
  pub short : off ≤ 600

pub cadence_lasts : (on off : ℕ) → is_cadence on off ≡ true → Lasts on off
cadence_lasts on off h =
    let from_some = both_true _ _ h in
    let from-few = both_true _ _ from_some.1 in
    let from-long = both_true _ _ from-few.1 in
    record { some = leb-true _ _ from_some.0; few = leb-true _ _ from-few.0; long = leb-true _ _ from-long.0; short = leb-true _ _ from-long.1 }

-- the place, and how many were sent
pub record Stands (place sent end : ℕ) : Type 0 where
  pub within : place < end
  pub counted : sent ≤ 90
  pub begins : sent < 90 → place ≡ sent

sent_by : (t u v : Bool) (place sent : ℕ) → (t ≡ true → sent ≡ 90) → (u ≡ true → sent < 90) → (v ≡ true → place ≡ sent) → either t (both u v) ≡ true → (sent ≤ 90) × (sent < 90 → place ≡ sent)
unfolding either
sent_by true u v place sent full less same h = let is = full refl in (omega (arith, is), λ l. absurd (let z : ⊥ = omega (arith, is, l) in z))
sent_by false u v place sent full less same h = let is = both_true u v h in (omega (arith, less is.0), λ _. same is.1)

pub place_stands : (place sent end : ℕ) → place_fits place sent end ≡ true → Stands place sent end
place_stands place sent end h =
    let from_within = both_true _ _ h in
    let counts = sent_by (eqb sent 90) (ltb sent 90) (eqb place sent) place sent (eqb-true sent 90) (ltb-true sent 90) (eqb-true place sent) from_within.1 in
    record { within = ltb-true _ _ from_within.0; counted = counts.0; begins = counts.1 }

fits_by : (t u : Bool) (place sent : ℕ) → eqb sent 90 ≡ t → ltb sent 90 ≡ u → sent ≤ 90 → (sent < 90 → place ≡ sent) → either t (both u (eqb place sent)) ≡ true
unfolding either both
fits_by true u place sent is less counted begins = refl
fits_by false true place sent is less counted begins = eq-eqb place sent (begins (ltb-true sent 90 less))
fits_by false false place sent is less counted begins = absurd (eqb-false sent 90 is (omega (arith, ltb-false sent 90 less, counted)))

pub stands_place : (place sent end : ℕ) → Stands place sent end → place_fits place sent end ≡ true
unfolding both
stands_place place sent end s = simp (lt-ltb place end s.within, fits_by (eqb sent 90) (ltb sent 90) place sent refl refl s.counted s.begins)

-- no more bits come than are asked for
pub due_most : (c : Cadence) (asked : ℕ) → due c asked ≤ asked
due_most c asked =
    either_way (λ (n : ℕ). n ≤ asked) (eqb c.tone 0) asked (when (ltb (left c) asked) (left c) asked) (λ _. omega arith)
    (λ _. either_way (λ (n : ℕ). n ≤ asked) (ltb (left c) asked) (left c) asked (λ less. omega (arith, ltb-true (left c) asked less)) (λ _. omega arith))
