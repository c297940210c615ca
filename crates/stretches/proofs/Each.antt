-- A fact of every entry of a list: of a list joined from two, and of a part. And lists of one entry.
-- Assumes nothing.
use Prim.Native.Nat.{ℕ, zero, suc, ◌<◌}
use mathlib.Core.Path.{◌≡◌, refl, ap}
use mathlib.Core.List.{List, [], ◌∷◌, ◌++◌}
use lib.Dec.{T, ltb, ltb→lt}
use lib.ListN.{take, drop, replicate}
use Rattle.laws.specs.Tests.{every}
use Rattle.laws.proofs.Computed.{both_left, both_right}

pub data Each (P : ℕ → Type 0) : List ℕ → Type 0 where
  none : Each P []
  more : {b : ℕ} {bs : List ℕ} → P b → Each P bs → Each P (b ∷ bs)

module _ {P : ℕ → Type 0} where
  pub each_append : {a b : List ℕ} → Each P a → Each P b → Each P (a ++ b)
  each_append none q = q
  each_append (more h p) q = more h (each_append p q)

  pub each_left : (a b : List ℕ) → Each P (a ++ b) → Each P a
  each_left [] b all = none
  each_left (x ∷ a) b (more h all) = more h (each_left a b all)

  pub each_right : (a b : List ℕ) → Each P (a ++ b) → Each P b
  each_right [] b all = all
  each_right (x ∷ a) b (more h all) = each_right a b all

  pub each_drop : (n : ℕ) (l : List ℕ) → Each P l → Each P (drop n l)
  each_drop zero l a = a
  each_drop (suc n) [] none = none
  each_drop (suc n) (b ∷ l) (more h a) = each_drop n l a

  pub each_take : (n : ℕ) (l : List ℕ) → Each P l → Each P (take n l)
  each_take zero l a = none
  each_take (suc n) [] none = none
  each_take (suc n) (b ∷ l) (more h a) = more h (each_take n l a)

-- bits
abbrev pub Bits : List ℕ → Type 0
Bits = Each (λ (b : ℕ). b < 2)

-- by a computed test
pub bits_by : (w : List ℕ) → T (every (λ (b : ℕ). ltb b 2) w) → Bits w
unfolding every
bits_by [] t = none
bits_by (b ∷ w) t = more (ltb→lt b 2 (both_left _ _ t)) (bits_by w (both_right _ _ t))

-- one more at the end
pub replicate_more : {A : Type 0} (n : ℕ) (x : A) → replicate n x ++ x ∷ [] ≡ replicate (suc n) x
replicate_more zero x = refl
replicate_more {A} (suc n) x = ap (λ (l : List A). x ∷ l) (replicate_more n x)
