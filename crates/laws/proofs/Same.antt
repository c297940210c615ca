-- Laws about the test of two lists, one element at a time.
-- Assumes nothing.
use Prim.Native.Nat.{ℕ, suc, ◌<◌, ◌≤◌, ◌+◌}
use native.Mathlib.Numerals.{add-one}
use mathlib.Core.Path.{◌≡◌, refl, ap}
use mathlib.Core.Bool.{true, false}
use mathlib.Core.List.{List, [], ◌∷◌}
use borrow.Author.Tests.{eq-eqb, ne_eqb}
use lib.Dec.{eqb}
use lib.ListN.{length, drop, get_or, drop_of_length-le}
use lib.Seq.{drop-cons}
use Rattle.laws.specs.Logic.{both}
use Rattle.laws.specs.Tests.{same_list}
use Rattle.laws.proofs.Logic.{both_neither}

-- lists of different lengths are not the same
pub same_lengths : (xs ys : List ℕ) → (length xs ≡ length ys → ⊥) → same_list xs ys ≡ false
unfolding same_list
same_lengths [] [] h = absurd (h refl)
same_lengths [] (y ∷ ys) h = refl
same_lengths (x ∷ xs) [] h = refl
same_lengths (x ∷ xs) (y ∷ ys) h = rw (same_lengths xs ys (λ e. h (ap suc e))) (both_neither (eqb x y))

module _ (xs ys : List ℕ) (i : ℕ) where
  pub same_on : i < length xs → i < length ys → get_or xs i 0 ≡ get_or ys i 0 → same_list (drop i xs) (drop i ys) ≡ same_list (drop (i + 1) xs) (drop (i + 1) ys)
  unfolding same_list both
  same_on h k e = simp (drop-cons xs i 0 h, drop-cons ys i 0 k, eq-eqb _ _ e, add-one)

  pub same_stop : i < length xs → i < length ys → (get_or xs i 0 ≡ get_or ys i 0 → ⊥) → same_list (drop i xs) (drop i ys) ≡ false
  unfolding same_list both
  same_stop h k n = simp (drop-cons xs i 0 h, drop-cons ys i 0 k, ne_eqb _ _ n)

  pub same_end : length xs ≤ i → length ys ≤ i → same_list (drop i xs) (drop i ys) ≡ true
  unfolding same_list
  same_end h k = simp (drop_of_length-le xs h, drop_of_length-le ys k)
