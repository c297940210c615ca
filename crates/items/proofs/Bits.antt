-- The bits of a number, and so the items of a set: one by one, in two sets, below and at a weight.
-- Assumes nothing.
use Prim.Native.Nat.{ℕ, zero, suc, ◌<◌, ◌≤◌, ◌+◌, ◌*◌, ◌/◌, ◌%◌, ◌^◌, min}
use native.Mathlib.Nat.{div-one, div-div-eq-div-mul, zero-min, min-le_left, not-suc-le-zero, le_of_suc-le-suc}
use native.Mathlib.Omega.{arith}
use mathlib.Core.Path.{◌≡◌, refl, sym, ap, ◌∙◌}
use mathlib.Core.Bool.{false}
use borrow.Author.Tests.{eqb-false}
use lib.Bits.{bit_and, and_step, block_half, block_odd}
use lib.Dec.{eqb}
use Rattle.laws.specs.Logic.{both}
use Rattle.items.specs.Items.{bit_of, in_set}

-- the first bit, and a later one in half the number
bit_first : (n : ℕ) → bit_of 0 n ≡ n % 2
bit_first n = ap (λ (k : ℕ). k % 2) (div-one n)

bit_next : (i n : ℕ) → bit_of (suc i) n ≡ bit_of i (n / 2)
bit_next i n = let twice : 2 ^ suc i ≡ 2 * 2 ^ i = omega arith in ap (λ (k : ℕ). n / k % 2) twice ∙ ap (λ (k : ℕ). k % 2) (sym (div-div-eq-div-mul n 2 (2 ^ i)))

-- item 0 of a set, and a later one in half the set
pub first_item : (items : ℕ) → in_set items 0 ≡ eqb (items % 2) 1
unfolding in_set
first_item items = ap (λ (k : ℕ). eqb k 1) (bit_first items)

later_item : (i items : ℕ) → in_set items (suc i) ≡ in_set (items / 2) i
unfolding in_set
later_item i items = ap (λ (k : ℕ). eqb k 1) (bit_next i items)

-- a set without items is 0: by halves, of which there are no more than its number
empty_by : (size items : ℕ) → items ≤ size → ((i : ℕ) → in_set items i ≡ false) → items ≡ 0
empty_by zero items h none = omega (arith, h)
empty_by (suc size) items h none =
    let even : items % 2 ≡ 0 = omega (arith, eqb-false (items % 2) 1 (sym (first_item items) ∙ none 0)) in
    let half : items / 2 ≡ 0 = empty_by size (items / 2) (omega (arith, h)) (λ i. sym (later_item i items) ∙ none (suc i)) in
    omega (arith, even, half)

-- a set without items from n on is below the weight of n
pub set_within : (n items : ℕ) → ((i : ℕ) → n ≤ i → in_set items i ≡ false) → items < 2 ^ n
set_within zero items none = omega (arith, empty_by items items (omega arith) (λ i. none i (omega arith)))
set_within (suc n) items none =
    let half : items / 2 < 2 ^ n = set_within n (items / 2) (λ i h. sym (later_item i items) ∙ none (suc i) (omega (arith, h))) in
    omega (arith, half)

-- two bits that are 1
min_bits : (a b : ℕ) → a < 2 → b < 2 → eqb (min a b) 1 ≡ both (eqb a 1) (eqb b 1)
unfolding both
min_bits zero b h k = simp (zero-min b)
min_bits (suc zero) zero h k = refl
min_bits (suc zero) (suc zero) h k = refl
min_bits (suc zero) (suc (suc b)) h k = absurd (omega (arith, k))
min_bits (suc (suc a)) b h k = absurd (omega (arith, h))

-- an item is in what two sets share where it is in both
pub in_both : (a b i : ℕ) → in_set (bit_and a b) i ≡ both (in_set a i) (in_set b i)
unfolding in_set
in_both a b zero =
    let low : bit_and a b % 2 ≡ min (a % 2) (b % 2) = omega (arith, and_step a b, min-le_left (a % 2) (b % 2)) in
    rw (bit_first (bit_and a b), bit_first a, bit_first b, low) (min_bits (a % 2) (b % 2) (omega arith) (omega arith))
in_both a b (suc i) =
    let high : bit_and a b / 2 ≡ bit_and (a / 2) (b / 2) = omega (arith, and_step a b, min-le_left (a % 2) (b % 2)) in
    rw (bit_next i (bit_and a b), bit_next i a, bit_next i b, high) (in_both (a / 2) (b / 2) i)

-- a number below a weight, and a multiple of the weight
pub bit_below : (a n r i : ℕ) → i < n → bit_of i (a * 2 ^ n + r) ≡ bit_of i r
bit_below a zero r i h = absurd (not-suc-le-zero h)
bit_below a (suc n) r zero h = bit_first (a * 2 ^ suc n + r) ∙ block_odd a n r ∙ sym (bit_first r)
bit_below a (suc n) r (suc i) h =
    bit_next i (a * 2 ^ suc n + r) ∙ ap (bit_of i) (block_half a n r) ∙ bit_below a n (r / 2) i (le_of_suc-le-suc h) ∙ sym (bit_next i r)

pub bit_at : (a n r : ℕ) → a < 2 → r < 2 ^ n → bit_of n (a * 2 ^ n + r) ≡ a
bit_at a zero r h k = bit_first (a * 1 + r) ∙ omega (arith, h, k)
bit_at a (suc n) r h k = bit_next n (a * 2 ^ suc n + r) ∙ ap (bit_of n) (block_half a n r) ∙ bit_at a n (r / 2) h (omega (arith, k))

-- numbers with the same half have the same items but the first
pub same_half : (a b i : ℕ) → a / 2 ≡ b / 2 → 0 < i → in_set a i ≡ in_set b i
unfolding in_set
same_half a b zero e h = absurd (not-suc-le-zero h)
same_half a b (suc i) e h = rw (bit_next i a, bit_next i b, e)
