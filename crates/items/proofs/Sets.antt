-- Laws about sets of items as numbers: one more item adds its weight, and an item is in the set where it was put there.
-- Assumes nothing.
use Prim.Native.Nat.{ℕ, zero, suc, ◌<◌, ◌≤◌, ◌+◌, ◌*◌, ◌/◌, ◌^◌}
use native.Mathlib.Nat.{zero-div, div-eq_of_lt, lt_of_lt_of_le, not-suc-le-zero, le_of_suc-le-suc, eq-or-lt_of_le}
use native.Mathlib.Numerals.{add-one}
use native.Mathlib.Omega.{arith}
use mathlib.Core.Path.{◌≡◌, refl, ap, ◌∙◌}
use mathlib.Core.Bool.{Bool, true, false}
use mathlib.Core.Logic.{⊎_elim}
use lib.Dec.{ltb, ltb→lt, eqb, lit<}
use lib.Pow.{pow_mono}
use Rattle.laws.specs.Logic.{when, both}
use Rattle.laws.specs.Tests.{all_below}
use Rattle.laws.proofs.Logic.{either_way, bit_of_test}
use Rattle.laws.proofs.Computed.{below}
use Rattle.items.specs.Items.{set_of, bit_of, in_set}
use Rattle.items.proofs.Bits.{bit_below, bit_at}

-- the weights of the items
pub weight_small : (i : ℕ) → i < 14 → 2 ^ i < 8193
unfolding all_below both
weight_small i h = ltb→lt (2 ^ i) 8193 (below (λ (k : ℕ). ltb (2 ^ k) 8193) 14 tt i h)

pub weight_more : (i : ℕ) → 2 ^ i * 2 ≡ 2 ^ (i + 1)
weight_more i = rw add-one (omega arith)

-- a set of items below n is below 2 ^ n
pub set_small : (f : ℕ → Bool) (n : ℕ) → set_of f n < 2 ^ n
unfolding set_of
set_small f zero = lit< tt
set_small f (suc n) = either_way (λ (w : ℕ). set_of f n + w < 2 ^ suc n) (f n) (2 ^ n) 0 (λ _. omega (arith, set_small f n)) (λ _. omega (arith, set_small f n))

pub set_more : (f : ℕ → Bool) (n : ℕ) → set_of f n + when (f n) (2 ^ n) 0 ≡ set_of f (n + 1)
unfolding set_of
set_more f n = rw add-one

-- nothing is in the empty set
pub none_in : (i : ℕ) → in_set 0 i ≡ false
unfolding in_set
none_in i = let none : 0 / 2 ^ i ≡ 0 = zero-div (2 ^ i) in simp none

-- no item from n on is in a set below the weight of n
pub past_set : (n items i : ℕ) → items < 2 ^ n → n ≤ i → in_set items i ≡ false
unfolding in_set
past_set n items i small h =
    let none : items / 2 ^ i ≡ 0 = div-eq_of_lt (lt_of_lt_of_le small (pow_mono h)) in
    simp none

-- an item is in the set exactly where it was put there
weight_of : (t : Bool) (w x : ℕ) → x + when t w 0 ≡ when t 1 0 * w + x
unfolding when
weight_of true w x = omega arith
weight_of false w x = omega arith

pub set_has : (f : ℕ → Bool) (n i : ℕ) → i < n → in_set (set_of f n) i ≡ f i
unfolding in_set set_of
set_has f zero i h = absurd (not-suc-le-zero h)
set_has f (suc n) i h =
    let split = weight_of (f n) (2 ^ n) (set_of f n) in
    ap (λ (s : ℕ). eqb (bit_of i s) 1) split
    ∙ ⊎_elim (λ e. rw e (ap (λ (k : ℕ). eqb k 1) (bit_at (when (f n) 1 0) n (set_of f n) (bit_of_test (f n)).0 (set_small f n)) ∙ (bit_of_test (f n)).1))
    (λ l. ap (λ (k : ℕ). eqb k 1) (bit_below (when (f n) 1 0) n (set_of f n) i l) ∙ set_has f n i l)
    (eq-or-lt_of_le (le_of_suc-le-suc h))

-- sets of the same items are the same
pub set_same : (f g : ℕ → Bool) (n : ℕ) → ((i : ℕ) → i < n → f i ≡ g i) → set_of f n ≡ set_of g n
unfolding set_of
set_same f g zero h = refl
set_same f g (suc n) h = simp (set_same f g n (λ i l. h i (omega (arith, l))), h n (omega arith))
