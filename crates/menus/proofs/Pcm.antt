-- The options that pair are options again: each bit is a product of two bits, and so a bit.
-- Assumes nothing.
use Prim.Native.Nat.{ℕ, zero, suc, ◌<◌, ◌*◌}
use native.Mathlib.Omega.{arith}
use Rattle.menus.specs.Pcm.{analogue, digital, v91, paired}

pub both_small : (a b : ℕ) → a < 2 → b < 2 → a * b < 2
both_small zero b h k = omega arith
both_small (suc zero) b h k = omega arith
both_small (suc (suc a)) b h k = absurd (omega arith)

module _ (theirs ours : ℕ) where
  pub b5_small : analogue ours * digital theirs < 2
  b5_small = both_small (analogue ours) (digital theirs) (omega arith) (omega arith)

  pub b6_small : digital ours * analogue theirs < 2
  b6_small = both_small (digital ours) (analogue theirs) (omega arith) (omega arith)

  pub b7_small : v91 ours * v91 theirs < 2
  b7_small = both_small (v91 ours) (v91 theirs) (omega arith) (omega arith)

  pub paired_small : paired theirs ours < 8
  unfolding paired
  paired_small = omega (arith, b5_small, b6_small, b7_small)
