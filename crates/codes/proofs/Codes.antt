-- Numbers as a signed 32-bit integer holds them: one below 2 ^ 31 as it is, and negated too.
-- Assumes nothing.
use Prim.Native.Nat.{ℕ, zero, suc, ◌<◌, ◌^◌}
use native.Mathlib.Omega.{arith}
use mathlib.Core.Path.{◌≡◌, ap, ◌∙◌}
use borrow.Author.Tests.{lt-ltb}
use lib.IntN.{ℤ, pos, neg_ℤ, ◌-ℤ◌, +ℤ_idl}
use lib.Signed.{mag}
use mir.Syntax.{w32}
use mir.Val.{SFits, to_z, of_z}
use mir.Facts.{to_z-of_z}

pub read_back : (n : ℕ) → n < 2 ^ 31 → to_z w32 n ≡ pos n
read_back n small = simp (lt-ltb n (2 ^ 31) small)

-- a small number, negated
pub negated_is : (n : ℕ) → n < 2 ^ 31 → pos 0 -ℤ to_z w32 n ≡ neg_ℤ (pos n)
negated_is n small = ap (λ (z : ℤ). pos 0 -ℤ z) (read_back n small) ∙ +ℤ_idl (neg_ℤ (pos n))

pub negated_fits : (n : ℕ) → n < 2 ^ 31 → SFits w32 (neg_ℤ (pos n))
negated_fits zero small = record { sfits = small }
negated_fits (suc n) small = record { sfits = omega arith }

-- what a call answers comes to C as it is
pub read_answer : (r : ℤ) → mag r < 2 ^ 31 → to_z w32 (of_z w32 r) ≡ r
read_answer r small = to_z-of_z {w = w32} (record { sfits = small })
