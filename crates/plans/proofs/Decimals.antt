-- A number in decimal digits is a word, and is read as that number.
-- Assumes nothing.
use Rattle.std.proofs.Common.{◌≡◌, ℕ, zero, suc, ◌+◌, ◌*◌, ◌/◌, ◌%◌, ◌^◌, ◌<◌, ◌≤◌, Bool, true, cond, not, ltb, Option, Some, List, [], ◌∷◌, ◌++◌, length, refl, ap, ◌∙◌, ap₂, not-suc-le-zero, arith, lit<, lit≤, length-append, ltb-true, le-ltb, lt-ltb}
use native.Mathlib.Nat.{pow-le-pow_right}
use Rattle.io.specs.Digits.{hex_digit_ascii, last_digits}
use Rattle.laws.specs.Logic.{when, both, either}
use Rattle.laws.specs.Tests.{every, all_below}
use Rattle.laws.proofs.Logic.{either_way}
use Rattle.laws.proofs.Computed.{below, every_joined}
use Rattle.plans.specs.Text.{ends_word, with_digit, one_digit_more, number_on, number}
use Rattle.plans.specs.Plain.{decimal}
use Rattle.plans.proofs.Runs.{spelled, holds}

-- one more digit is read last
last_digit : (n : Option ℕ) (text : List ℕ) (b : ℕ) → number_on n (text ++ (b ∷ [])) ≡ one_digit_more (number_on n text) b
unfolding number_on
last_digit n [] b = refl
last_digit n (c ∷ text) b = last_digit (one_digit_more n c) text b

digit : (d : ℕ) → d < 10 → hex_digit_ascii d ≡ 48 + d
digit d h = ap (λ (t : Bool). cond t (48 + d) (87 + d)) (lt-ltb d 10 h)

digit_read : (n d : ℕ) → n < 10000 → d < 10 → with_digit n (48 + d) ≡ Some (10 * n + d)
unfolding when
digit_read n d small h = simp (le-ltb (48 + d) 48 (omega arith), le-ltb 57 (48 + d) (omega (arith, h)), le-ltb 9999 n (omega (arith, small))) (ap Some (omega arith))

digit_spelled : (d : ℕ) → d < 10 → spelled (hex_digit_ascii d ∷ []) ≡ true
unfolding every both either all_below
digit_spelled d h = holds (spelled (hex_digit_ascii d ∷ [])) (below (λ (k : ℕ). spelled (hex_digit_ascii k ∷ [])) 10 tt d h)

digits_read : (k n : ℕ) → k ≤ 5 → n < 10 ^ k → number (last_digits 10 k n) ≡ Some n
unfolding number_on
digits_read zero n few small = ap Some (omega (arith, small))
digits_read (suc k) n few small =
    let first : n / 10 < 10 ^ k = omega (arith, small) in
    let four : k ≤ 4 = omega (arith, few) in
    let most : 10 ^ k ≤ 10 ^ 4 = pow-le-pow_right (lit< tt) four in
    last_digit (Some 0) (last_digits 10 k (n / 10)) (hex_digit_ascii (n % 10))
    ∙ ap₂ one_digit_more (digits_read k (n / 10) (omega (arith, few)) first) (digit (n % 10) (omega arith))
    ∙ digit_read (n / 10) (n % 10) (omega (arith, first, most)) (omega arith)
    ∙ ap Some (omega arith)

digits_spelled : (k n : ℕ) → spelled (last_digits 10 k n) ≡ true
unfolding every
digits_spelled zero n = refl
digits_spelled (suc k) n = every_joined (λ (b : ℕ). not (ends_word b)) (last_digits 10 k (n / 10)) (hex_digit_ascii (n % 10) ∷ []) (digits_spelled k (n / 10)) (digit_spelled (n % 10) (omega arith))

-- how many digits hold a number
abbrev count : ℕ → ℕ
count n = when (ltb n 10) 1 (when (ltb n 100) 2 (when (ltb n 1000) 3 (when (ltb n 10000) 4 5)))

-- it is one of few, and they hold it
record Enough (n k : ℕ) : Type 0 where
  some : 0 < k
  few : k ≤ 5
  hold : n < 10 ^ k

enough : (n : ℕ) → n < 100000 → Enough n (count n)
enough n small =
    either_way (Enough n) (ltb n 10) 1 _ (λ t. record { some = lit< tt; few = lit≤ tt; hold = ltb-true n 10 t })
    (λ _. either_way (Enough n) (ltb n 100) 2 _ (λ t. record { some = lit< tt; few = lit≤ tt; hold = ltb-true n 100 t })
    (λ _. either_way (Enough n) (ltb n 1000) 3 _ (λ t. record { some = lit< tt; few = lit≤ tt; hold = ltb-true n 1000 t })
    (λ _. either_way (Enough n) (ltb n 10000) 4 5 (λ t. record { some = lit< tt; few = lit≤ tt; hold = ltb-true n 10000 t })
    (λ _. record { some = lit< tt; few = lit≤ tt; hold = small }))))

digits_some : (k n : ℕ) → 0 < k → 0 < length (last_digits 10 k n)
digits_some zero n h = absurd (not-suc-le-zero h)
digits_some (suc k) n h = omega (arith, length-append (last_digits 10 k (n / 10)) (hex_digit_ascii (n % 10) ∷ []))

pub decimal_read : (n : ℕ) → n < 100000 → number (decimal n) ≡ Some n
decimal_read n small = let e = enough n small in digits_read (count n) n e.few e.hold

pub decimal_spelled : (n : ℕ) → spelled (decimal n) ≡ true
decimal_spelled n = digits_spelled (count n) n

pub decimal_some : (n : ℕ) → n < 100000 → 0 < length (decimal n)
decimal_some n small = digits_some (count n) n (enough n small).some
