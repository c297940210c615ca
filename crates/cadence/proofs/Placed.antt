-- A cadence so many bits from its beginning: where it stands, which bits come next and how many are left.
-- Assumes nothing.
use Prim.Native.Nat.{ℕ, ◌+◌, ◌-◌, ◌%◌}
use native.Mathlib.Nat.{zero-mod, mod-mod, mod-add-mod}
use native.Mathlib.Omega.{arith}
use mathlib.Core.Path.{◌≡◌, refl}
use mathlib.Core.Bool.{Bool, true, false}
use borrow.Author.Tests.{ltb-true, ltb-false, le-ltb}
use lib.Dec.{ltb}
use Rattle.laws.specs.Logic.{when}
use Rattle.cadence.specs.declared.Cadence.{Cadence}
use Rattle.cadence.specs.Cadence.{on_bits, period, bits_from}
use Rattle.cadence.specs.Giving.{begun, left, moved_on}
use Rattle.cadence.proofs.Bits.{bits_period}

-- bits that were sent are counted up to 90
abbrev pub up_to_90 : ℕ → ℕ
up_to_90 n = when (ltb n 90) n 90

more_counted : (few : Bool) (n m : ℕ) → ltb n 90 ≡ few → up_to_90 (when few n 90 + m) ≡ up_to_90 (n + m)
unfolding when
more_counted true n m is = refl
more_counted false n m is = simp (le-ltb (90 + m) 90 (omega arith), le-ltb (n + m) 90 (omega (arith, ltb-false n 90 is)))

ends_by : (few sending : Bool) (n ends : ℕ) → ltb n 90 ≡ few → n + when (ltb (when few n 90) 90) (90 - when few n 90) (when sending ends 0) ≡ when few 90 (when sending (n + ends) n)
unfolding when
ends_by true sending n ends is = rw is (omega (arith, ltb-true n 90 is))
ends_by false true n ends is = refl
ends_by false false n ends is = omega arith

module _ (function on off : ℕ) where
  -- n bits from its beginning
  abbrev pub placed : ℕ → ℕ → Cadence
  placed n tone = record { off = off; place = n % period on off; on = on; function = function; sent = up_to_90 n; tone = tone }

  pub begun_placed : begun function on off ≡ placed 0 0
  unfolding when
  begun_placed = rw (zero-mod (period on off)) refl

  pub moved_placed : (n m tone : ℕ) → moved_on (placed n tone) m ≡ placed (n + m) tone
  unfolding moved_on
  moved_placed n m tone = rw (mod-add-mod n (period on off) m, more_counted (ltb n 90) n m refl) refl

  pub bits_placed : (n m : ℕ) → bits_from function on off (n % period on off) m ≡ bits_from function on off n m
  bits_placed n m = bits_period function on off m (n % period on off) n (mod-mod n (period on off))

  -- where the last bit stands, with all that are left
  pub left_placed : (n tone : ℕ) → n + left (placed n tone) ≡ when (ltb n 90) 90 (when (ltb (n % period on off) (on_bits on)) (n + (30 - n % period on off % 30) % 30) n)
  unfolding left
  left_placed n tone = ends_by (ltb n 90) (ltb (n % period on off) (on_bits on)) n ((30 - n % period on off % 30) % 30) refl
