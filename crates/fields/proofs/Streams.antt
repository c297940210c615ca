-- Groups of one width that come one by one, and leave as groups of another: the bits between are held as a number, beside the weight of the
-- next. One law for taking a group in and one for giving one out, for both ways of the packing.
-- Assumes nothing.
use Prim.Native.Nat.{ℕ, ◌+◌, ◌-◌, ◌*◌, ◌/◌, ◌%◌, ◌^◌, ◌<◌, ◌≤◌}
use native.Mathlib.Nat.{mul-suc, mul-zero, mul_assoc, add-mul, mul_comm, lt_of_lt_of_le, lt_irrefl, zero-mul, div-one, mul-add-div_right, mul-add-mod_self_right, add_comm, div-lt_iff_lt-mul}
use native.Mathlib.Numerals.{add-one}
use native.Mathlib.Omega.{arith}
use mathlib.Core.Path.{◌≡◌, sym, ap, ◌∙◌, subst}
use mathlib.Core.List.{List}
use lib.Arith.{digits_lt}
use lib.Dec.{lit<}
use lib.ListN.{length, drop, get_or, drop_of_length-le}
use lib.Seq.{drop-cons}
use lib.Pow.{pow_pos, pow-lt, pow_mono, pow-add, shr-shr, shl-shr}
use Rattle.fields.specs.Packing.{joined_bits}

-- i groups of width v were taken in and j of width w given out: held is what is between, below its weight, and with what is to come it is what
-- is left of all bits
pub record Streams (v w : ℕ) (xs : List ℕ) (held weight i j : ℕ) : Type 0 where
  pub order : w * j ≤ v * i
  pub power : weight ≡ 2 ^ (v * i - w * j)
  pub less : held < weight
  pub bits : joined_bits v (drop i xs) * weight + held ≡ joined_bits v xs / 2 ^ (w * j)

module _ (v w : ℕ) (xs : List ℕ) where
  pub begins : Streams v w xs 0 1 0 0
  begins =
      let none : w * 0 ≡ 0 = mul-zero w in
      let nothing : v * 0 ≡ 0 = mul-zero v in
      record {
        order = omega (arith, none);
        power = rw (none, nothing);
        less = lit< tt;
        bits = rw none (omega (arith, div-one (joined_bits v xs)));
      }

  module _ (held weight i j : ℕ) (at : Streams v w xs held weight i j) where
    -- the group, taken from what is to come into what is held
    moved : (rest b x : ℕ) → (rest * b + x) * weight + held ≡ rest * (weight * b) + (held + weight * x)
    moved rest b x =
        let apart : (rest * b + x) * weight ≡ rest * b * weight + x * weight = add-mul (rest * b) x weight in
        let first : rest * b * weight ≡ rest * (weight * b) = mul_assoc rest b weight ∙ ap (λ (n : ℕ). rest * n) (mul_comm b weight) in
        omega (arith, apart, first, mul_comm x weight)

    -- a group is taken in
    pub pull : i < length xs → get_or xs i 0 < 2 ^ v → Streams v w xs (held + weight * get_or xs i 0) (weight * 2 ^ v) (i + 1) j
    unfolding joined_bits
    pull more small =
        let x = get_or xs i 0 in
        let rest = joined_bits v (drop (i + 1) xs) in
        let taken : joined_bits v (drop i xs) ≡ rest * 2 ^ v + x = ap (joined_bits v) (drop-cons xs i 0 more) ∙ ap (λ (n : ℕ). joined_bits v (drop n xs) * 2 ^ v + x) (sym (add-one i)) in
        let further : v * (i + 1) ≡ v * i + v = ap (λ (n : ℕ). v * n) (add-one i) ∙ mul-suc v i in
        let exponent : v * (i + 1) - w * j ≡ (v * i - w * j) + v = omega (arith, further, at.order) in
        record {
          order = omega (arith, at.order, further);
          power = rw (exponent, pow-add 2 (v * i - w * j) v) (ap (λ (n : ℕ). n * 2 ^ v) at.power);
          less = rw (add_comm held (weight * x), mul_comm weight x, mul_comm weight (2 ^ v)) (digits_lt small at.less);
          bits = sym (moved rest (2 ^ v) x) ∙ ap (λ (n : ℕ). n * weight + held) (sym taken) ∙ at.bits;
        }

    -- a group is given out
    module _ (enough : 2 ^ w ≤ weight) where
      narrow : v * i - w * j < w → ⊥
      narrow l = lt_irrefl _ (lt_of_lt_of_le (pow-lt l) (subst (λ (n : ℕ). 2 ^ w ≤ n) at.power enough))

      wide : w ≤ v * i - w * j
      wide = omega (arith, narrow)

      -- the weight without it
      lighter : weight ≡ 2 ^ (v * i - w * (j + 1)) * 2 ^ w
      lighter =
          let further : w * (j + 1) ≡ w * j + w = ap (λ (n : ℕ). w * n) (add-one j) ∙ mul-suc w j in
          let exponent : v * i - w * j ≡ (v * i - w * (j + 1)) + w = omega (arith, further, wide, at.order) in
          at.power ∙ ap (λ (n : ℕ). 2 ^ n) exponent ∙ pow-add 2 (v * i - w * (j + 1)) w

      abbrev rest : ℕ
      rest = joined_bits v (drop i xs)

      abbrev left : ℕ
      left = 2 ^ (v * i - w * (j + 1))

      parted : rest * left * 2 ^ w + held ≡ joined_bits v xs / 2 ^ (w * j)
      parted = ap (λ (n : ℕ). n + held) (mul_assoc rest left (2 ^ w) ∙ ap (λ (n : ℕ). rest * n) (sym lighter)) ∙ at.bits

      pub emitted : held % 2 ^ w ≡ joined_bits v xs / 2 ^ (w * j) % 2 ^ w
      emitted = sym (mul-add-mod_self_right (rest * left) (2 ^ w) held) ∙ ap (λ (n : ℕ). n % 2 ^ w) parted

      pub emit : Streams v w xs (held / 2 ^ w) (weight / 2 ^ w) i (j + 1)
      emit =
          let further : w * (j + 1) ≡ w * j + w = ap (λ (n : ℕ). w * n) (add-one j) ∙ mul-suc w j in
          let weighs : weight / 2 ^ w ≡ left = ap (λ (n : ℕ). n / 2 ^ w) lighter ∙ shl-shr left w in
          record {
            order = omega (arith, at.order, further, wide);
            power = weighs;
            less = rw weighs ((div-lt_iff_lt-mul (pow_pos w)).1 (subst (λ (n : ℕ). held < n) lighter at.less));
            bits = ap (λ (n : ℕ). rest * n + held / 2 ^ w) weighs ∙ sym (mul-add-div_right (pow_pos w) (rest * left) held) ∙ ap (λ (n : ℕ). n / 2 ^ w) parted ∙ shr-shr (joined_bits v xs) (w * j) w ∙ ap (λ (e : ℕ). joined_bits v xs / 2 ^ e) (sym further);
          }

    -- where the weight is low, few bits are held
    pub few : weight < 2 ^ w → v * i < w * j + w
    few light =
        let many : w ≤ v * i - w * j → ⊥ = λ (h : w ≤ v * i - w * j). lt_irrefl _ (lt_of_lt_of_le (subst (λ (n : ℕ). n < 2 ^ w) at.power light) (pow_mono h)) in
        omega (arith, many)

    -- the last bits: where nothing is to come, what is held is all that is left
    pub last : length xs ≤ i → held ≡ joined_bits v xs / 2 ^ (w * j)
    unfolding joined_bits
    last over =
        let none : joined_bits v (drop i xs) ≡ 0 = ap (joined_bits v) (drop_of_length-le xs over) in
        omega (arith, zero-mul weight, ap (λ (n : ℕ). n * weight) none, at.bits)
