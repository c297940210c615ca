-- What a test says of what is taken by it, and of the two tests that it joins.
-- Assumes nothing.
use Prim.Native.Nat.{ℕ, ◌<◌}
use native.Mathlib.Omega.{arith}
use mathlib.Core.Path.{◌≡◌, refl, sym, ap, ap₂, ◌∙◌}
use mathlib.Core.Bool.{Bool, true, false}
use lib.Dec.{eqb, lit<}
use Rattle.laws.specs.Logic.{when, both, either}

-- what holds of both sides holds of what is taken, where each side may use its test
pub either_way : {A : Type 0} (P : A → Type 0) (t : Bool) (x y : A) → (t ≡ true → P x) → (t ≡ false → P y) → P (when t x y)
unfolding when
either_way P true x y a b = a refl
either_way P false x y a b = b refl

pub both_true : (a b : Bool) → both a b ≡ true → (a ≡ true) × (b ≡ true)
unfolding both
both_true true b h = (refl, h)
both_true false b h = let z : ◌≡◌ {A = Bool} true false = cc in (cc, cc)

pub both_neither : (a : Bool) → both a false ≡ false
unfolding both
both_neither true = refl
both_neither false = refl

pub either_false : (a b : Bool) → either a b ≡ false → (a ≡ false) × (b ≡ false)
unfolding either
either_false true b h = let z : ◌≡◌ {A = Bool} true false = cc in (cc, cc)
either_false false b h = (refl, h)

-- one test cannot hold and fail
pub clash : {A : Type 0} → ◌≡◌ {A = Bool} true false → A
unfolding when
clash e = absurd (let z : ◌≡◌ {A = ℕ} 1 0 = ap (λ (b : Bool). when b 1 0) e in let w : ⊥ = omega arith in w)

-- a test as a bit: it is one, and 1 where the test holds
pub bit_of_test : (t : Bool) → (when t 1 0 < 2) × (eqb (when t 1 0) 1 ≡ t)
unfolding when
bit_of_test true = (lit< tt, refl)
bit_of_test false = (lit< tt, refl)

-- what one test takes is the same where each side is, as far as it is taken
pub same_either_way : {A : Type 0} (t : Bool) (x x' y y' : A) → (t ≡ true → x ≡ x') → (t ≡ false → y ≡ y') → when t x y ≡ when t x' y'
unfolding when
same_either_way true x x' y y' p q = p refl
same_either_way false x x' y y' p q = q refl
