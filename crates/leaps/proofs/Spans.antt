-- Bits that stand in a row: the number that they make, and the past once they are heard, by induction over how many they are.
-- Assumes nothing.
use Prim.Native.Nat.{ℕ, zero, suc, ◌<◌, ◌≤◌, ◌+◌, ◌*◌, ◌-◌, ◌/◌, ◌^◌}
use native.Mathlib.Nat.{add-mul-div_right, div-div-eq-div-mul, mul_assoc}
use native.Mathlib.Omega.{arith}
use lib.Pow.{pow_pos}
use mathlib.Core.Path.{◌≡◌, refl, sym, ap, ap₂, subst, ◌∙◌}
use mathlib.Core.Bool.{Bool, true}
use mathlib.Core.List.{List, [], ◌∷◌}
use borrow.Author.Tests.{lt-ltb, ltb-true, eq-eqb}
use lib.Dec.{eqb, ltb, ltb→lt}
use lib.ListN.{length, take, drop, get_or}
use Rattle.std.proofs.lemmas.List.{get_or-take, get_or-drop}
use Rattle.laws.specs.Logic.{both}
use Rattle.laws.specs.Tests.{all_below, every}
use Rattle.laws.proofs.Logic.{both_true}
use Rattle.laws.proofs.Computed.{below}
use Rattle.framing.specs.Framing.{pushed}
use Rattle.framing.proofs.Words.{hearing}
use Rattle.framing.specs.Framing.{value}
use Rattle.leaps.specs.Inner.{span, is_bit, TenAt}

-- an item of the slice from `from` on
pub behind : (s : List ℕ) (from n k : ℕ) → k < n → get_or (take n (drop from s)) k 0 ≡ get_or s (from + k) 0
behind s from n k there = get_or-take n (drop from s) k 0 there ∙ get_or-drop from s k 0

-- the past once bits are heard, by the number that they make
pub hearing_number : (w : List ℕ) (p c : ℕ) → c * 2 ^ length w ≡ 4294967296 → hearing p w ≡ p / 2 ^ length w + value w * c
hearing_number [] p c full-word = omega arith
hearing_number (b ∷ w) p c full-word =
    let weight = 2 ^ length w in
    let more : 2 * weight ≡ 2 ^ suc (length w) = omega arith in
    let whole : c * (2 * weight) ≡ 4294967296 = ap (λ (x : ℕ). c * x) more ∙ full-word in
    let twice : c * 2 * weight ≡ 4294967296 = mul_assoc c 2 weight ∙ whole in
    let once : c * weight ≡ 2147483648 = omega (arith, twice) in
    let top : b * 2147483648 ≡ b * c * weight = ap (λ (x : ℕ). b * x) (sym once) ∙ sym (mul_assoc b c weight) in
    let down : (p / 2 + b * 2147483648) / weight ≡ p / 2 / weight + b * c = ap (λ (x : ℕ). (p / 2 + x) / weight) top ∙ add-mul-div_right (p / 2) (b * c) (pow_pos (length w)) in
    let low : p / 2 / weight ≡ p / 2 ^ length (b ∷ w) = div-div-eq-div-mul p 2 weight ∙ ap (λ (x : ℕ). p / x) more in
    let rest = hearing_number w (pushed p b) (c * 2) twice in
    rest ∙ omega (arith, down, low)

module _ (s : List ℕ) where
  same_place : (i j : ℕ) → i ≡ j → get_or s i 0 ≡ get_or s j 0
  same_place i j same = ap (λ (n : ℕ). get_or s n 0) same

  -- the last of them
  pub hearing_last : (k p i : ℕ) → hearing p (span s i (suc k)) ≡ pushed (hearing p (span s i k)) (get_or s (i + k) 0)
  unfolding span
  hearing_last zero p i = ap (pushed p) (same_place i (i + 0) (omega arith))
  hearing_last (suc k) p i = hearing_last k (pushed p (get_or s i 0)) (i + 1) ∙ ap (pushed (hearing (pushed p (get_or s i 0)) (span s (i + 1) k))) (same_place (i + 1 + k) (i + suc k) (omega arith))

  pub value_last : (k i : ℕ) → value (span s i (suc k)) ≡ value (span s i k) + get_or s (i + k) 0 * 2 ^ k
  unfolding span
  value_last zero i = omega (arith, same_place i (i + 0) (omega arith))
  value_last (suc k) i =
      let last : get_or s (i + 1 + k) 0 * 2 ^ k ≡ get_or s (i + suc k) 0 * 2 ^ k = ap (λ (x : ℕ). x * 2 ^ k) (same_place (i + 1 + k) (i + suc k) (omega arith)) in
      let twice : get_or s (i + suc k) 0 * 2 ^ suc k ≡ get_or s (i + suc k) 0 * (2 * 2 ^ k) = ap (λ (x : ℕ). get_or s (i + suc k) 0 * x) (omega arith) in
      omega (arith, value_last k (i + 1), last, twice)

  module _ (P : ℕ → Bool) where
    pub every_first : (k i : ℕ) → every P (span s i (suc k)) ≡ true → (P (get_or s i 0) ≡ true) × (every P (span s (i + 1) k) ≡ true)
    unfolding span every
    every_first k i hold = both_true _ _ hold

    pub every_last : (k i : ℕ) → every P (span s i (suc k)) ≡ true → (every P (span s i k) ≡ true) × (P (get_or s (i + k) 0) ≡ true)
    unfolding span every both
    every_last zero i hold = (refl, ap P (same_place (i + 0) i (omega arith)) ∙ (every_first 0 i hold).0)
    every_last (suc k) i hold =
        let tests = every_first (suc k) i hold in
        let later = every_last k (i + 1) tests.1 in
        (ap₂ both tests.0 later.0, ap P (same_place (i + suc k) (i + 1 + k) (omega arith)) ∙ later.1)

  pub value_small : (k i : ℕ) → every is_bit (span s i k) ≡ true → value (span s i k) < 2 ^ k
  unfolding span every
  value_small zero i are_bits = omega arith
  value_small (suc k) i are_bits =
      let tests = every_first is_bit k i are_bits in
      let bit = ltb-true (get_or s i 0) 2 tests.0 in
      let later = value_small k (i + 1) tests.1 in
      omega arith

  -- bits that make as high a number as so many can are 1s
  pub all_ones : (k i : ℕ) → every is_bit (span s i k) ≡ true → value (span s i k) + 1 ≡ 2 ^ k → every (λ (b : ℕ). eqb b 1) (span s i k) ≡ true
  unfolding span every both
  all_ones zero i are_bits highest = refl
  all_ones (suc k) i are_bits highest =
      let tests = every_first is_bit k i are_bits in
      let bit = ltb-true (get_or s i 0) 2 tests.0 in
      let small = value_small k (i + 1) tests.1 in
      let one : get_or s i 0 ≡ 1 = omega arith in
      let later = all_ones k (i + 1) tests.1 (omega arith) in
      simp (eq-eqb (get_or s i 0) 1 one) later

-- bits that are read from the last to the first, and the number that they make so far
pub record Spanned (s : List ℕ) (i n number : ℕ) : Type 0 where
  pub bits : every is_bit (span s i n) ≡ true
  pub made : number ≡ value (span s i n)

module _ (s : List ℕ) where
  pub spanned_none : (i : ℕ) → Spanned s i 0 0
  unfolding span every
  spanned_none i = record { bits = refl; made = refl }

  one_more : (i n number : ℕ) → get_or s i 0 ≤ 1 → Spanned s (i + 1) n number → Spanned s i (suc n) (number * 2 + get_or s i 0)
  unfolding span every both
  one_more i n number bit so_far = record { bits = ap₂ both (lt-ltb (get_or s i 0) 2 (omega arith)) so_far.bits; made = omega (arith, so_far.made) }

  pub spanned_more : (i j n m number : ℕ) → j ≡ i + 1 → m ≡ suc n → get_or s i 0 ≤ 1 → Spanned s j n number → Spanned s i m (number * 2 + get_or s i 0)
  spanned_more i j n m number next more bit so_far =
      subst (λ (k : ℕ). Spanned s i k (number * 2 + get_or s i 0)) (sym more) (one_more i n number bit (subst (λ (k : ℕ). Spanned s k n number) next so_far))

  pub spanned_low : (i n number : ℕ) → n < 11 → Spanned s i n number → number < 2 ^ n × (2 ^ n < 1025)
  unfolding all_below both
  spanned_low i n number few so_far = (omega (arith, so_far.made, value_small s n i so_far.bits), ltb→lt _ _ (below (λ (k : ℕ). ltb (2 ^ k) 1025) 11 tt n few))

  pub ten_low : (i number : ℕ) → TenAt s i number → number < 1024
  ten_low i number stands = omega (arith, stands.number, value_small s 10 i stands.bits)
