-- What an event carries, by the tests of a number: it is -11, below 0, below 24, or above.
-- Assumes nothing.
use Prim.Native.Nat.{◌<◌, ◌^◌}
use native.Mathlib.Omega.{arith}
use mathlib.Core.Path.{◌≡◌, sym, ap, ◌∙◌}
use mathlib.Core.Bool.{Bool, true, false}
use borrow.Author.Tests.{ne_eqb, ltb-true}
use lib.Dec.{T}
use lib.IntN.{ℤ, pos, negsuc, nat_abs}
use lib.Signed.{mag, lt_z, non_neg}
use mir.Syntax.{w8, w32}
use mir.Val.{Fits, to_z, of_z}
use Rattle.laws.specs.Logic.{when}
use Rattle.laws.proofs.Logic.{clash}
use Rattle.codes.specs.Steps.{carried_of}
use Rattle.codes.proofs.Codes.{read_answer}

-- a test of a number as C passes it is one of the number
pub test_of : (v limit : ℤ) (t : Bool) → mag v < 2 ^ 31 → lt_z (to_z w32 (of_z w32 v)) limit ≡ t → lt_z v limit ≡ t
test_of v limit t small tested = ap (λ (z : ℤ). lt_z z limit) (sym (read_answer v small)) ∙ tested

pub carried_refused : (v : ℤ) → v ≡ negsuc 10 → 24 ≡ carried_of v
unfolding when
carried_refused v is-11 = simp is-11

pub carried_below : (v : ℤ) → lt_z v (pos 0) ≡ true → (v ≡ negsuc 10 → ⊥) → 255 ≡ carried_of v
unfolding when
carried_below (pos n) below not_11 = absurd (let z : ⊥ = omega (arith, ltb-true n 0 below) in z)
carried_below (negsuc n) below not_11 = simp (ne_eqb n 10 (λ ten. not_11 (ap negsuc ten)))

pub carried_in : (v : ℤ) → lt_z v (pos 0) ≡ false → lt_z v (pos 24) ≡ true → nat_abs v ≡ carried_of v
unfolding when
carried_in (pos n) not-below in_reach = simp in_reach
carried_in (negsuc n) not-below in_reach = clash not-below

-- and fits a byte
pub carried_fits : (v : ℤ) → lt_z v (pos 0) ≡ false → lt_z v (pos 24) ≡ true → T (non_neg v) × Fits w8 (nat_abs v)
carried_fits (pos n) not-below in_reach = (tt, record { fits = omega (arith, ltb-true n 24 in_reach) })
carried_fits (negsuc n) not-below in_reach = clash not-below

pub carried_above : (v : ℤ) → lt_z v (pos 24) ≡ false → 255 ≡ carried_of v
unfolding when
carried_above (pos n) above = simp above
carried_above (negsuc n) above = clash above
