-- The packing bit by bit: bits of a number that is joined from groups are bits of the groups, for either width, so an octet's bits are option bits,
-- and the other way round.
-- Assumes nothing.
use Prim.Native.Nat.{ℕ, zero, suc, ◌+◌, ◌*◌, ◌/◌, ◌%◌, ◌^◌, ◌<◌, ◌≤◌}
use native.Mathlib.Nat.{div-one, div-eq_of_lt, lt_of_lt_of_le}
use native.Mathlib.Omega.{arith}
use mathlib.Core.Path.{◌≡◌, refl, sym, ap, ◌∙◌}
use mathlib.Core.Bool.{Bool, true, false}
use mathlib.Core.List.{List, [], ◌∷◌, map}
use borrow.Author.Tests.{eqb-true, ltb-true, ltb-false, leb-true, le-leb, eq-eqb, ne_eqb}
use lib.Dec.{ltb, leb, eqb, lit<}
use lib.ListN.{length, get_or, length-map, get_or-map}
use lib.Pow.{pow_mono}
use Rattle.laws.specs.Logic.{both}
use Rattle.laws.proofs.Logic.{both_true}
use Rattle.items.specs.Items.{bit_of, in_set}
use Rattle.items.proofs.Bits.{set_within}
use Rattle.octets.specs.Octets.{b0, b1, b2, b6, b7}
use Rattle.fields.specs.Packing.{five_of, option_bits, octets_in, unpacked, left_over, fills_octets, packed}
use Rattle.fields.proofs.Packing.{joined_small, joined_bit_lem, group_bit, groups_small, fives_small, unpacked_length, none_above, packed_extensions, packed_small, packed_length, packed_bits, unpacks_again, packed_fills, packs_again}
use Rattle.demands.specs.FieldBits.{Octets, octet_bit, option_bit, joined_bit, UnpacksBitByBit, PacksBitByBit, FieldsArePackedBitByBit}

-- the bits that are listed are the bits of the number
octet_bit_lem : (b place : ℕ) → place < 8 → octet_bit b place ≡ bit_of place b
octet_bit_lem b zero h = ap (λ (n : ℕ). n % 2) (sym (div-one b))
octet_bit_lem b (suc zero) h = refl
octet_bit_lem b (suc (suc zero)) h = refl
octet_bit_lem b (suc (suc (suc zero))) h = refl
octet_bit_lem b (suc (suc (suc (suc zero)))) h = refl
octet_bit_lem b (suc (suc (suc (suc (suc zero))))) h = refl
octet_bit_lem b (suc (suc (suc (suc (suc (suc zero)))))) h = refl
octet_bit_lem b (suc (suc (suc (suc (suc (suc (suc zero))))))) h = refl
octet_bit_lem b (suc (suc (suc (suc (suc (suc (suc (suc place)))))))) h = absurd (let z : ⊥ = omega (arith, h) in z)

module _ (a b c d e : ℕ) (ha : a < 2) (hb : b < 2) (hc : c < 2) (hd : d < 2) (he : e < 2) where
  five_bits_lem : (place : ℕ) → place < 5 → get_or (a ∷ b ∷ c ∷ d ∷ e ∷ []) place 0 ≡ bit_of place (a + 2 * b + 4 * c + 8 * d + 16 * e)
  five_bits_lem zero h = omega (arith, ha)
  five_bits_lem (suc zero) h = omega (arith, ha, hb)
  five_bits_lem (suc (suc zero)) h = omega (arith, ha, hb, hc)
  five_bits_lem (suc (suc (suc zero))) h = omega (arith, ha, hb, hc, hd)
  five_bits_lem (suc (suc (suc (suc zero)))) h = omega (arith, ha, hb, hc, hd, he)
  five_bits_lem (suc (suc (suc (suc (suc place))))) h = absurd (let z : ⊥ = omega (arith, h) in z)

option_bit_lem : (b place : ℕ) → place < 5 → option_bit b place ≡ bit_of place (five_of b)
option_bit_lem b place h = five_bits_lem (b0 b) (b1 b) (b2 b) (b6 b) (b7 b) (omega arith) (omega arith) (omega arith) (omega arith) (omega arith) place h

joined_is : (extensions : List ℕ) (n : ℕ) → joined_bit extensions n ≡ bit_of n (option_bits extensions)
joined_is extensions n =
    option_bit_lem (get_or extensions (n / 5) 0) (n % 5) (omega arith)
    ∙ ap (bit_of (n % 5)) (sym (get_or-map five_of extensions (n / 5) 0))
    ∙ sym (joined_bit_lem 5 (lit< tt) (map five_of extensions) n (fives_small extensions))

module _ (extensions : List ℕ) where
  abbrev bits : ℕ
  bits = option_bits extensions

  count_is : length (unpacked extensions) ≡ octets_in extensions
  count_is = unpacked_length extensions

  octets_are : Octets (unpacked extensions)
  unfolding unpacked
  octets_are = groups_small 8 (octets_in extensions) bits

  bits_are : (k place : ℕ) → k < length (unpacked extensions) → place < 8 → octet_bit (get_or (unpacked extensions) k 0) place ≡ joined_bit extensions (8 * k + place)
  unfolding unpacked
  bits_are k place inside low_bit =
      octet_bit_lem (get_or (unpacked extensions) k 0) place low_bit
      ∙ group_bit 8 (octets_in extensions) bits k place (omega (arith, inside, count_is)) low_bit
      ∙ sym (joined_is extensions (8 * k + place))

  -- nothing is left over exactly where no bit is
  left_none : left_over extensions ≡ 0 → (n : ℕ) → 8 * octets_in extensions ≤ n → joined_bit extensions n ≡ 0
  left_none none n behind =
      let small = none_above bits (8 * octets_in extensions) none in
      joined_is extensions n ∙ ap (λ (m : ℕ). m % 2) (div-eq_of_lt (lt_of_lt_of_le small (pow_mono behind)))

  no_bit_lem : (i : ℕ) → bit_of i bits ≡ 0 → in_set bits i ≡ false
  unfolding in_set
  no_bit_lem i none = ne_eqb (bit_of i bits) 1 (λ e. let z : ⊥ = omega (arith, e, none) in z)

  zero_bit : ((n : ℕ) → 8 * octets_in extensions ≤ n → n < 5 * length extensions → joined_bit extensions n ≡ 0) → (i : ℕ) → 8 * octets_in extensions ≤ i → (t : Bool) → ltb i (5 * length extensions) ≡ t → bit_of i bits ≡ 0
  zero_bit zeros i behind true e = sym (joined_is extensions i) ∙ zeros i behind (ltb-true i (5 * length extensions) e)
  zero_bit zeros i behind false e =
      let all : bits < 2 ^ (5 * length extensions) = rw (← length-map extensions five_of) (joined_small 5 (map five_of extensions) (fives_small extensions)) in
      ap (λ (m : ℕ). m % 2) (div-eq_of_lt (lt_of_lt_of_le all (pow_mono (ltb-false i (5 * length extensions) e))))

  none_left : ((n : ℕ) → 8 * octets_in extensions ≤ n → n < 5 * length extensions → joined_bit extensions n ≡ 0) → left_over extensions ≡ 0
  none_left zeros = div-eq_of_lt (set_within (8 * octets_in extensions) bits (λ i behind. no_bit_lem i (zero_bit zeros i behind (ltb i (5 * length extensions)) refl)))

  fills_by : 5 * length extensions ≤ 8 * length (unpacked extensions) + 4 → ((n : ℕ) → 8 * octets_in extensions ≤ n → n < 5 * length extensions → joined_bit extensions n ≡ 0) → fills_octets extensions ≡ true
  unfolding both
  fills_by few zeros = simp (le-leb (5 * length extensions % 8) 4 (omega (arith, few, count_is)), eq-eqb _ _ (none_left zeros))

  unpacks_bit_by_bit : UnpacksBitByBit extensions
  unpacks_bit_by_bit = record {
    count = count_is;
    octets = octets_are;
    bits = bits_are;
    few = λ fills. omega (arith, count_is, leb-true (5 * length extensions % 8) 4 (both_true (leb (5 * length extensions % 8) 4) (eqb (left_over extensions) 0) fills).0);
    zero = λ fills n behind. left_none (eqb-true (left_over extensions) 0 (both_true (leb (5 * length extensions % 8) 4) (eqb (left_over extensions) 0) fills).1) n (omega (arith, count_is, behind));
    fills = λ few zeros. fills_by few (λ n behind inside. zeros n (omega (arith, count_is, behind)) inside);
  }

module _ (octets : List ℕ) (are : Octets octets) where
  packs_bit_by_bit : PacksBitByBit octets
  packs_bit_by_bit = record {
    enough = omega (arith, packed_length octets);
    fewest = omega (arith, packed_length octets);
    extensions = packed_extensions octets;
    small = packed_small octets;
    bits = λ n inside.
        joined_is (packed octets) n
        ∙ ap (bit_of n) (packed_bits octets are)
        ∙ joined_bit_lem 8 (lit< tt) octets n are
        ∙ sym (octet_bit_lem (get_or octets (n / 8) 0) (n % 8) (omega arith));
  }

pub fields_are_packed_bit_by_bit : FieldsArePackedBitByBit
fields_are_packed_bit_by_bit = record {
  read = unpacks_bit_by_bit;
  written = packs_bit_by_bit;
  back = λ octets are. (unpacks_again octets are, packed_fills octets are);
  again = packs_again;
}
