-- Every octet is of one kind, and the writer's refusals are what document 01 does not accept: computed at each octet.
-- Assumes nothing.
use Prim.Native.Nat.{ℕ, ◌+◌, ◌%◌, ◌<◌}
use native.Mathlib.Omega.{arith}
use mathlib.Core.Path.{◌≡◌}
use mathlib.Core.Bool.{Bool}
use lib.Dec.{eqb, eqb→eq}
use Rattle.laws.specs.Logic.{when, both, either}
use Rattle.laws.specs.Tests.{all_below}
use Rattle.laws.proofs.Computed.{below}
use Rattle.octets.specs.declared.Kind.{Kind}
use Rattle.octets.specs.declared.Kind.TheVariants.{Ci, Menu}
use Rattle.octets.specs.declared.Purpose.TheVariants.{Writing}
use Rattle.octets.specs.Octets.{b3, b4, b5, category, tag, extension, bad}
use Rattle.octets.specs.Lists.{octet_fault, accepts}

-- 1 where the test holds, otherwise 0
abbrev pub once : Bool → ℕ
once t = when t 1 0

-- category, extension or bad, and one of them only
abbrev kinds : ℕ → ℕ
kinds b = once (category b) + once (extension b) + once (bad b)

pub one_kind : (b : ℕ) → b < 256 → once (category b) + once (extension b) + once (bad b) ≡ 1
unfolding when both either all_below
one_kind b h = eqb→eq (kinds b) 1 (below (λ (n : ℕ). eqb (kinds n) 1) 256 tt b h)

-- an octet behind the first is refused exactly where it is not accepted, with 3 where it is bad and otherwise with 12
abbrev fault_is : Kind → ℕ → Bool
fault_is kind b = eqb (octet_fault (Writing kind) b) (when (accepts kind b) 0 (when (bad b) 3 12))

refuses_low : (kind : Kind) (b : ℕ) → b < 256 → octet_fault (Writing kind) b ≡ when (accepts kind b) 0 (when (bad b) 3 12)
unfolding when both either all_below
refuses_low Ci b h = eqb→eq _ _ (below (fault_is Ci) 256 tt b h)
refuses_low Menu b h = eqb→eq _ _ (below (fault_is Menu) 256 tt b h)

-- and so is any number, which is taken by its low eight bits
module _ (b : ℕ) where
  low_b3 : b3 (b % 256) ≡ b3 b
  low_b3 = omega arith

  low_b4 : b4 (b % 256) ≡ b4 b
  low_b4 = omega arith

  low_b5 : b5 (b % 256) ≡ b5 b
  low_b5 = omega arith

  low_tag : tag (b % 256) ≡ tag b
  low_tag = omega arith

pub accepts_or_refuses : (kind : Kind) (b : ℕ) → octet_fault (Writing kind) b ≡ when (accepts kind b) 0 (when (bad b) 3 12)
accepts_or_refuses Ci b = simp (← low_b3 b, ← low_b4 b, ← low_b5 b) (refuses_low Ci (b % 256) (omega arith))
accepts_or_refuses Menu b = simp (← low_b3 b, ← low_b4 b, ← low_b5 b, ← low_tag b) (refuses_low Menu (b % 256) (omega arith))
