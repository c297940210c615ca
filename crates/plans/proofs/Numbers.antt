-- Laws about the numbers of a plan: sets, and numbers in digits.
-- Assumes nothing.
use Rattle.std.proofs.Common.{◌≡◌, ℕ, ◌<◌, true, eqb, ltb, leb, Option, Some, None, List, length, get_or, refl, subst, arith, ltb-false, ltb-true, lt-ltb, leb-true}
use Rattle.std.specs.Bool.{⊤}
use Rattle.laws.specs.Logic.{when}
use Rattle.laws.proofs.Logic.{either_way}
use Rattle.io.specs.Digits.{IsDigitCount}
use Rattle.printing.specs.Page.{Page, typed, TypedDecimal}
use Rattle.printing.proofs.Pages.{typed_decimal_unique}
use Rattle.plans.specs.Text.{hex_value, two_digits, octet}
use Rattle.plans.specs.Plain.{decimal}

-- the digits of a number below 100,000 are the fewest
fewest : (n : ℕ) → n < 100000 → IsDigitCount 10 1 n (when (ltb n 10) 1 (when (ltb n 100) 2 (when (ltb n 1000) 3 (when (ltb n 10000) 4 5))))
fewest n small =
    let P = IsDigitCount 10 1 n in
    either_way P (ltb n 10) 1 (when (ltb n 100) 2 (when (ltb n 1000) 3 (when (ltb n 10000) 4 5))) (λ a. (omega arith, ltb-true n 10 a, λ h. omega (arith, h)))
    (λ a. either_way P (ltb n 100) 2 (when (ltb n 1000) 3 (when (ltb n 10000) 4 5)) (λ b. (omega arith, ltb-true n 100 b, λ h. ltb-false n 10 a))
    (λ b. either_way P (ltb n 1000) 3 (when (ltb n 10000) 4 5) (λ d. (omega arith, ltb-true n 1000 d, λ h. ltb-false n 100 b))
    (λ d. either_way P (ltb n 10000) 4 5 (λ e. (omega arith, ltb-true n 10000 e, λ h. ltb-false n 1000 d))
    (λ e. (omega arith, small, λ h. ltb-false n 10000 e)))))

-- what is typed of such a number are these digits
pub decimal_typed : (p after : Page) (n : ℕ) → n < 100000 → TypedDecimal p n after → after ≡ typed p (decimal n)
decimal_typed p after n small number =
    typed_decimal_unique p after (typed p (decimal n)) n number (record {
      count = when (ltb n 10) 1 (when (ltb n 100) 2 (when (ltb n 1000) 3 (when (ltb n 10000) 4 5)));
      fewest = fewest n small;
      text = refl;
    })

-- a number that is not 0 is some
pub some : (n : ℕ) → (n ≡ 0 → ⊥) → ltb 0 n ≡ true
some n not-0 = lt-ltb 0 n (omega (arith, not-0))

-- a number below another, where there is one
abbrev pub Below : ℕ → Option ℕ → Type 0
Below most (Some n) = n < most
Below most None = ⊤

hex_below : (b : ℕ) → Below 16 (hex_value b)
unfolding hex_value
hex_below b =
    let P = Below 16 in
    either_way P (ltb b 48) _ _ (λ _. tt)
    (λ _. either_way P (leb b 57) _ _ (λ t. omega (arith, leb-true b 57 t))
    (λ _. either_way P (ltb b 65) _ _ (λ _. tt)
    (λ _. either_way P (leb b 70) _ _ (λ t. omega (arith, leb-true b 70 t))
    (λ _. either_way P (ltb b 97) _ _ (λ _. tt)
    (λ _. either_way P (leb b 102) _ _ (λ t. omega (arith, leb-true b 102 t)) (λ _. tt))))))

pub hex_small : (b n : ℕ) → hex_value b ≡ Some n → n < 16
hex_small b n is-value = subst (Below 16) is-value (hex_below b)

two_below : (high low : Option ℕ) → Below 16 high → Below 16 low → Below 256 (two_digits high low)
two_below (Some high) (Some low) few fewer = omega (arith, few, fewer)
two_below (Some high) None few fewer = tt
two_below None low few fewer = tt

pub octet_below : (word : List ℕ) → Below 256 (octet word)
unfolding octet
octet_below word = either_way (Below 256) (eqb (length word) 2) _ _ (λ _. two_below _ _ (hex_below (get_or word 0 0)) (hex_below (get_or word 1 0))) (λ _. tt)
