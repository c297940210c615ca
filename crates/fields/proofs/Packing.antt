-- The packing: groups of bits, joined into a number and parted again, one law for every width; so what was packed unpacks to the same octets,
-- and what unpacks well is packed to the same extension octets.
-- Assumes nothing.
use Prim.Native.Nat.{ℕ, zero, suc, ◌+◌, ◌-◌, ◌*◌, ◌/◌, ◌%◌, ◌^◌, ◌<◌, ◌≤◌}
use native.Mathlib.Nat.{div-one, zero-div, add-div_left, add-mod_left, div-eq_of_lt, mod-eq_of_lt, mod-lt, mul-suc, mul-zero, lt_of_lt_of_le, not-suc-le-zero, le_of_suc-le-suc, lt-mul-div-succ}
use native.Mathlib.Numerals.{add-one}
use native.Mathlib.Omega.{arith}
use mathlib.Core.Path.{◌≡◌, refl, sym, ap, ap₂, ◌∙◌}
use mathlib.Core.Bool.{Bool, true, false, not}
use mathlib.Core.List.{List, [], ◌∷◌, map}
use borrow.Author.Tests.{eqb-true, leb-true, le-leb, eq-eqb, ltb-true, ltb-false, lt-ltb}
use lib.Dec.{ltb, leb, eqb, eqb→eq, lit<}
use lib.ListN.{length, get_or, length-map}
use lib.Arith.{digits_lt}
use lib.Pow.{pow_pos, pow_mono, pow-add, shr-shr, high, low, mod-pow-add, field, mod-mod-pow}
use Rattle.items.specs.Items.{bit_of}
use Rattle.items.proofs.Bits.{bit_below}
use Rattle.laws.specs.Logic.{both, either}
use Rattle.laws.specs.Tests.{all_below, every}
use Rattle.laws.proofs.Logic.{both_true}
use Rattle.laws.proofs.Computed.{below}
use Rattle.octets.specs.Octets.{b3, b4, b5, extension}
use Rattle.fields.specs.Packing.{five_of, extension_of, joined_bits, groups_of, option_bits, octets_in, unpacked, left_over, fills_octets, extensions_for, packed}

-- groups of any width
module _ (width : ℕ) where
  -- each group has no more bits than that
  abbrev pub small : ℕ → Bool
  small x = ltb x (2 ^ width)

  pub groups_length : (count n : ℕ) → length (groups_of width count n) ≡ count
  unfolding groups_of
  groups_length zero n = refl
  groups_length (suc count) n = ap suc (groups_length count (n / 2 ^ width))

  -- the group of a number
  pub group_at : (count n k : ℕ) → k < count → get_or (groups_of width count n) k 0 ≡ n / 2 ^ (width * k) % 2 ^ width
  unfolding groups_of
  group_at zero n k h = absurd (not-suc-le-zero h)
  group_at (suc count) n zero h = ap (λ (m : ℕ). m % 2 ^ width) (sym (div-one n) ∙ ap (λ (e : ℕ). n / 2 ^ e) (sym (mul-zero width)))
  group_at (suc count) n (suc k) h =
      let more : width + width * k ≡ width * suc k = omega (arith, mul-suc width k) in
      group_at count (n / 2 ^ width) k (le_of_suc-le-suc h) ∙ ap (λ (m : ℕ). m % 2 ^ width) (shr-shr n width (width * k) ∙ ap (λ (e : ℕ). n / 2 ^ e) more)

  -- what was joined is parted
  pub groups_back : (xs : List ℕ) → every small xs ≡ true → groups_of width (length xs) (joined_bits width xs) ≡ xs
  unfolding joined_bits groups_of every
  groups_back [] h = refl
  groups_back (x ∷ xs) h =
      let here = both_true (small x) (every small xs) h in
      let bound = ltb-true x (2 ^ width) here.0 in
      let rest = joined_bits width xs in
      rw (low rest width bound, high rest width bound) (ap (λ (l : List ℕ). x ∷ l) (groups_back xs here.1))

  -- what was parted is joined again, as far as it was parted
  pub joined_back : (count n : ℕ) → joined_bits width (groups_of width count n) ≡ n % 2 ^ (width * count)
  unfolding joined_bits groups_of
  joined_back zero n = let none : width * 0 ≡ 0 = mul-zero width in rw none (omega arith)
  joined_back (suc count) n =
      let more : width * count + width ≡ width * suc count = sym (mul-suc width count) in
      ap (λ (m : ℕ). m * 2 ^ width + n % 2 ^ width) (joined_back count (n / 2 ^ width)) ∙ sym (mod-pow-add n (width * count) width) ∙ ap (λ (e : ℕ). n % 2 ^ e) more

  -- joined groups have no more bits than all of them
  pub joined_small : (xs : List ℕ) → every small xs ≡ true → joined_bits width xs < 2 ^ (width * length xs)
  unfolding joined_bits every
  joined_small [] h = let none : width * 0 ≡ 0 = mul-zero width in rw none (lit< tt)
  joined_small (x ∷ xs) h =
      let here = both_true (small x) (every small xs) h in
      let bound = ltb-true x (2 ^ width) here.0 in
      let more : 2 ^ (width * length xs) * 2 ^ width ≡ 2 ^ (width * suc (length xs)) = sym (pow-add 2 (width * length xs) width) ∙ ap (λ (e : ℕ). 2 ^ e) (sym (mul-suc width (length xs))) in
      rw (← more) (digits_lt (joined_small xs here.1) bound)

  -- a bit of joined groups is a bit of one of them
  module _ (some : 0 < width) (x n rest : ℕ) (xs : List ℕ) (bound : x < 2 ^ width) where
    bit_in_first : n < width → bit_of n (rest * 2 ^ width + x) ≡ bit_of (n % width) (get_or (x ∷ xs) (n / width) 0)
    bit_in_first low_bit = bit_below rest width x n low_bit ∙ ap₂ (λ (i k : ℕ). bit_of i (get_or (x ∷ xs) k 0)) (sym (mod-eq_of_lt low_bit)) (sym (div-eq_of_lt low_bit))

    bit_behind : width ≤ n → bit_of (n - width) rest ≡ bit_of ((n - width) % width) (get_or xs ((n - width) / width) 0) → bit_of n (rest * 2 ^ width + x) ≡ bit_of (n % width) (get_or (x ∷ xs) (n / width) 0)
    bit_behind far later =
        let m = n - width in
        let whole : width + m ≡ n = omega (arith, far) in
        let next : n / width ≡ suc (m / width) = ap (λ (i : ℕ). i / width) (sym whole) ∙ add-div_left m some ∙ add-one (m / width) in
        let same_bit : n % width ≡ m % width = ap (λ (i : ℕ). i % width) (sym whole) ∙ add-mod_left width m in
        ap (λ (i : ℕ). bit_of i (rest * 2 ^ width + x)) (sym whole)
        ∙ ap (λ (i : ℕ). i % 2) (sym (shr-shr (rest * 2 ^ width + x) width m) ∙ ap (λ (i : ℕ). i / 2 ^ m) (high rest width bound))
        ∙ later
        ∙ ap₂ (λ (i k : ℕ). bit_of i (get_or (x ∷ xs) k 0)) (sym same_bit) (sym next)

    bit_by : (t : Bool) → ltb n width ≡ t → bit_of (n - width) rest ≡ bit_of ((n - width) % width) (get_or xs ((n - width) / width) 0) → bit_of n (rest * 2 ^ width + x) ≡ bit_of (n % width) (get_or (x ∷ xs) (n / width) 0)
    bit_by true e later = bit_in_first (ltb-true n width e)
    bit_by false e later = bit_behind (ltb-false n width e) later

  pub joined_bit_lem : 0 < width → (xs : List ℕ) (n : ℕ) → every small xs ≡ true → bit_of n (joined_bits width xs) ≡ bit_of (n % width) (get_or xs (n / width) 0)
  unfolding joined_bits every
  joined_bit_lem some [] n h = ap (λ (m : ℕ). m % 2) (zero-div (2 ^ n) ∙ sym (zero-div (2 ^ (n % width))))
  joined_bit_lem some (x ∷ xs) n h =
      let here = both_true (small x) (every small xs) h in
      bit_by some x n (joined_bits width xs) xs (ltb-true x (2 ^ width) here.0) (ltb n width) refl (joined_bit_lem some xs (n - width) here.1)

  -- and a bit of a group is one of the number that was parted
  pub group_bit : (count n k place : ℕ) → k < count → place < width → bit_of place (get_or (groups_of width count n) k 0) ≡ bit_of (width * k + place) n
  group_bit count n k place inside low_bit =
      let behind = n / 2 ^ (width * k) in
      let above : width ≡ (width - place) + place = omega (arith, low_bit) in
      let more : width - place ≡ (width - place - 1) + 1 = omega (arith, low_bit) in
      ap (λ (m : ℕ). bit_of place m) (group_at count n k inside ∙ ap (λ (e : ℕ). behind % 2 ^ e) above)
      ∙ ap (λ (m : ℕ). m % 2) (field behind (width - place) place ∙ ap (λ (e : ℕ). behind / 2 ^ place % 2 ^ e) more)
      ∙ mod-mod-pow (behind / 2 ^ place) (width - place - 1) 1
      ∙ ap (λ (m : ℕ). m % 2) (shr-shr n (width * k) place)

-- five bits, as an extension octet and back
five_back : (n : ℕ) → n < 32 → five_of (extension_of n) ≡ n
unfolding all_below both
five_back n h = eqb→eq (five_of (extension_of n)) n (below (λ (k : ℕ). eqb (five_of (extension_of k)) k) 32 tt n h)

-- as the code has it
pub five_is : (e : ℕ) → e < 256 → e % 8 + 8 * (e / 64) ≡ five_of e
unfolding all_below both
five_is e h = eqb→eq (e % 8 + 8 * (e / 64)) (five_of e) (below (λ (k : ℕ). eqb (k % 8 + 8 * (k / 64)) (five_of k)) 256 tt e h)

pub five_small : (e : ℕ) → five_of e < 32
five_small e = omega arith

abbrev same : ℕ → Bool
same e = either (not (extension e)) (eqb (extension_of (five_of e)) e)

extension_back : (e : ℕ) → e < 256 → extension e ≡ true → extension_of (five_of e) ≡ e
unfolding all_below both either
extension_back e h x = eqb→eq (extension_of (five_of e)) e (rw x at (below same 256 tt e h))

fives_back : (xs : List ℕ) → every (small 5) xs ≡ true → map five_of (map extension_of xs) ≡ xs
unfolding every
fives_back [] h = refl
fives_back (x ∷ xs) h = let here = both_true (small 5 x) (every (small 5) xs) h in ap₂ (λ (y : ℕ) (ys : List ℕ). y ∷ ys) (five_back x (ltb-true x 32 here.0)) (fives_back xs here.1)

-- parted groups are small
pub groups_small : (width count n : ℕ) → every (small width) (groups_of width count n) ≡ true
unfolding groups_of every both
groups_small width zero n = refl
groups_small width (suc count) n = rw (lt-ltb _ _ (mod-lt n (pow_pos width))) (groups_small width count (n / 2 ^ width))

pub fives_small : (extensions : List ℕ) → every (small 5) (map five_of extensions) ≡ true
unfolding every both
fives_small [] = refl
fives_small (e ∷ extensions) = rw (lt-ltb (five_of e) 32 (five_small e)) (fives_small extensions)

-- octets out of extension octets, by their number
pub unpacked_length : (extensions : List ℕ) → length (unpacked extensions) ≡ octets_in extensions
unfolding unpacked
unpacked_length extensions = groups_length 8 (octets_in extensions) (option_bits extensions)

pub unpacked_at : (extensions : List ℕ) (j : ℕ) → j < octets_in extensions → get_or (unpacked extensions) j 0 ≡ option_bits extensions / 2 ^ (8 * j) % 256
unfolding unpacked
unpacked_at extensions j h = group_at 8 (octets_in extensions) (option_bits extensions) j h

-- octets that are octets
abbrev pub Octets : List ℕ → Type 0
Octets octets = every (small 8) octets ≡ true

-- what is packed are extension octets
extension_made : (five : ℕ) → extension (extension_of five) ≡ true
unfolding both
extension_made five =
    let n = extension_of five in
    simp (eq-eqb (b4 n) 1 (omega arith), eq-eqb (b3 n) 0 (omega arith), eq-eqb (b5 n) 0 (omega arith))

all_made : (fives : List ℕ) → every extension (map extension_of fives) ≡ true
unfolding every both
all_made [] = refl
all_made (five ∷ fives) = simp (extension_made five, all_made fives)

all_small : (fives : List ℕ) → Octets (map extension_of fives)
unfolding every both
all_small [] = refl
all_small (five ∷ fives) = simp (lt-ltb (extension_of five) 256 (omega arith), all_small fives)

module _ (octets : List ℕ) where
  pub packed_extensions : every extension (packed octets) ≡ true
  unfolding packed
  packed_extensions = all_made (groups_of 5 (extensions_for (length octets)) (joined_bits 8 octets))

  pub packed_small : Octets (packed octets)
  unfolding packed
  packed_small = all_small (groups_of 5 (extensions_for (length octets)) (joined_bits 8 octets))

pub packed_length : (octets : List ℕ) → length (packed octets) ≡ extensions_for (length octets)
unfolding packed
packed_length octets =
    let groups = groups_of 5 (extensions_for (length octets)) (joined_bits 8 octets) in
    length-map groups extension_of ∙ groups_length 5 (extensions_for (length octets)) (joined_bits 8 octets)

-- what was packed
module _ (octets : List ℕ) (h : Octets octets) where
  abbrev bits : ℕ
  bits = joined_bits 8 octets

  abbrev size : ℕ
  size = extensions_for (length octets)

  pub packed_bits : option_bits (packed octets) ≡ joined_bits 8 octets
  unfolding packed
  packed_bits =
      let whole : bits < 2 ^ (5 * size) = lt_of_lt_of_le (joined_small 8 octets h) (pow_mono (omega arith)) in
      ap (joined_bits 5) (fives_back (groups_of 5 size bits) (groups_small 5 size bits)) ∙ joined_back 5 size bits ∙ mod-eq_of_lt whole

  packed_octets : octets_in (packed octets) ≡ length octets
  packed_octets = rw (packed_length octets) (omega arith)

  -- .. unpacks to the same octets
  pub unpacks_again : unpacked (packed octets) ≡ octets
  unfolding unpacked
  unpacks_again = ap₂ (groups_of 8) packed_octets packed_bits ∙ groups_back 8 octets h

  -- .. and well
  pub packed_fills : fills_octets (packed octets) ≡ true
  unfolding both
  packed_fills =
      let exactly : 5 * size / 8 ≡ length octets = omega arith in
      let few : 5 * length (packed octets) % 8 ≤ 4 = rw (packed_length octets) (omega (arith, exactly)) in
      let none : left_over (packed octets) ≡ 0 = ap₂ (λ (n k : ℕ). n / 2 ^ (8 * k)) packed_bits packed_octets ∙ div-eq_of_lt (joined_small 8 octets h) in
      rw (le-leb _ _ few, eq-eqb _ _ none)

-- a number of which nothing is left above so many bits
pub none_above : (n k : ℕ) → n / 2 ^ k ≡ 0 → n < 2 ^ k
none_above n k e = omega (arith, e, lt-mul-div-succ n (pow_pos k), ap (λ (q : ℕ). 2 ^ k * (q + 1)) e)

-- what unpacks well
module _ (extensions : List ℕ) (octets : Octets extensions) (are : every extension extensions ≡ true) (fills : fills_octets extensions ≡ true) where
  extensions_back : (es : List ℕ) → Octets es → every extension es ≡ true → map extension_of (map five_of es) ≡ es
  unfolding every
  extensions_back [] h x = refl
  extensions_back (e ∷ es) h x =
      let small-ones = both_true (small 8 e) (every (small 8) es) h in
      let here = both_true (extension e) (every extension es) x in
      ap₂ (λ (y : ℕ) (ys : List ℕ). y ∷ ys) (extension_back e (ltb-true e 256 small-ones.0) here.0) (extensions_back es small-ones.1 here.1)

  -- .. is packed to the same extension octets
  pub packs_again : packed (unpacked extensions) ≡ extensions
  unfolding packed unpacked
  packs_again =
      let tests = both_true (leb (5 * length extensions % 8) 4) (eqb (left_over extensions) 0) fills in
      let few : 5 * length extensions % 8 ≤ 4 = leb-true _ _ tests.0 in
      let count = octets_in extensions in
      let n = option_bits extensions in
      let whole : n < 2 ^ (8 * count) = none_above n (8 * count) (eqb-true _ _ tests.1) in
      let back : joined_bits 8 (groups_of 8 count n) ≡ n = joined_back 8 count n ∙ mod-eq_of_lt whole in
      let size : extensions_for (length (groups_of 8 count n)) ≡ length (map five_of extensions) = rw (groups_length 8 count n, length-map extensions five_of) (omega (arith, few)) in
      ap (map extension_of) (ap₂ (groups_of 5) size back ∙ groups_back 5 (map five_of extensions) (fives_small extensions)) ∙ extensions_back extensions octets are
