-- The bits of the cadence: the bit at a place of its period is that of the endless cadence, and so many bits of it are read place by place.
-- Assumes nothing.
use Prim.Native.Nat.{ℕ, zero, suc, ◌+◌, ◌%◌, ◌/◌, ◌^◌, ◌<◌}
use native.Mathlib.Nat.{mod-lt, suc-mod, not-suc-le-zero}
use native.Mathlib.Omega.{arith}
use mathlib.Core.Path.{◌≡◌, refl, sym, ap, ap₂, ◌∙◌}
use mathlib.Core.Bool.{Bool}
use mathlib.Core.List.{◌∷◌, ◌++◌}
use lib.Dec.{T, ltb, eqb, eqb→eq, lit<}
use lib.ListN.{length, get_or}
use Rattle.laws.specs.Logic.{when, both}
use Rattle.laws.specs.Tests.{all_below}
use Rattle.laws.proofs.Computed.{below}
use Rattle.sequences.specs.Line.{framed, framed_all, sequence}
use Rattle.cadence.specs.Cadence.{ci_of, on_bits, period, silence, cadence_at, bits_from}
use Rattle.cadence.specs.Inner.{ci_number, bit_here, bits_here}

-- the number of a CI sequence has its bits: computed over each function and each place
abbrev same_bit : ℕ → ℕ → Bool
same_bit function place = eqb (ci_number function / 2 ^ place % 2) (get_or (ci_of function) place 0)

ci_computed : T (all_below (λ function. all_below (same_bit function) 30) 7)
unfolding all_below both sequence framed_all framed
ci_computed = tt

pub ci_bit : (function place : ℕ) → function < 7 → place < 30 → ci_number function / 2 ^ place % 2 ≡ get_or (ci_of function) place 0
ci_bit function place f p =
    eqb→eq _ _ (below (same_bit function) 30 (below (λ g. all_below (same_bit g) 30) 7 ci_computed function f) place p)

module _ (ci on end : ℕ) where
  pub here_length : (place n : ℕ) → length (bits_here ci on end place n) ≡ n
  unfolding bits_here
  here_length place zero = refl
  here_length place (suc n) = ap suc (here_length (suc place) n)

  pub here_at : (n place i : ℕ) → i < n → get_or (bits_here ci on end place n) i 0 ≡ bit_here ci on ((place + i) % end)
  unfolding bits_here
  here_at zero place i h = absurd (not-suc-le-zero h)
  here_at (suc n) place zero h = ap (λ (p : ℕ). bit_here ci on (p % end)) (let z : place ≡ place + 0 = omega arith in z)
  here_at (suc n) place (suc i) h = here_at n (suc place) i (omega (arith, h)) ∙ ap (λ (p : ℕ). bit_here ci on (p % end)) (let z : suc place + i ≡ place + suc i = omega arith in z)

module _ (function on off : ℕ) where
  -- what stands at a place goes by where that is in its period
  pub bit_here_lem : (place : ℕ) → function < 7 → bit_here (ci_number function) (on_bits on) (place % period on off) ≡ cadence_at function on off place
  unfolding cadence_at
  bit_here_lem place f =
      ap (λ (b : ℕ). when (ltb (place % period on off) (on_bits on)) b silence) (ci_bit function (place % period on off % 30) f (mod-lt (place % period on off) {m = 30} (lit< tt)))

  -- the bits, as they are found place by place
  pub found_bits : (place n : ℕ) → function < 7 → bits_here (ci_number function) (on_bits on) (period on off) place n ≡ bits_from function on off place n
  unfolding bits_from bits_here
  found_bits place zero f = refl
  found_bits place (suc n) f = ap₂ ◌∷◌ (bit_here_lem place f) (found_bits (suc place) n f)

  pub bits_length : (place n : ℕ) → length (bits_from function on off place n) ≡ n
  unfolding bits_from
  bits_length place zero = refl
  bits_length place (suc n) = ap suc (bits_length (suc place) n)

  -- bits that are asked for in two pieces are those that are asked for at once
  pub bits_joined : (m n place : ℕ) → bits_from function on off place (m + n) ≡ bits_from function on off place m ++ bits_from function on off (place + m) n
  unfolding bits_from
  bits_joined zero n place = rw (let z : 0 + n ≡ n = omega arith in z, let z : place + 0 ≡ place = omega arith in z) refl
  bits_joined (suc m) n place =
      let count : suc m + n ≡ suc (m + n) = omega arith in
      let next : place + suc m ≡ suc place + m = omega arith in
      rw (count, next) (ap (◌∷◌ (cadence_at function on off place)) (bits_joined m n (suc place)))

  -- bits from a place on are those from the same place of another period
  pub bits_period : (n p q : ℕ) → p % period on off ≡ q % period on off → bits_from function on off p n ≡ bits_from function on off q n
  unfolding bits_from cadence_at
  bits_period zero p q same = refl
  bits_period (suc n) p q same =
      ap₂ ◌∷◌ (rw same refl) (bits_period n (suc p) (suc q) (suc-mod p (period on off) ∙ ap (λ (k : ℕ). suc k % period on off) same ∙ sym (suc-mod q (period on off))))
