-- Octets of 255 in front and the first other one: so many are counted, and octets of which fewer are counted than there are begin so. By induction
-- over them.
-- Assumes nothing.
use Prim.Native.Nat.{ℕ, zero, suc, ◌<◌}
use native.Mathlib.Nat.{not-suc-le-zero, le_of_suc-le-suc}
use mathlib.Core.Path.{◌≡◌, refl, sym, ap, ap₂}
use mathlib.Core.List.{List, [], ◌∷◌, ◌++◌}
use borrow.Author.Tests.{ne_eqb, eqb-true, eqb-false}
use lib.Dec.{eqb}
use lib.ListN.{length, drop, get_or, replicate}
use Rattle.laws.specs.Logic.{when}
use Rattle.laws.proofs.Logic.{either_way}
use Rattle.fields.specs.Blocks.{full}

pub full_counted : (k last : ℕ) (others : List ℕ) → (last ≡ 255 → ⊥) → full (replicate k 255 ++ last ∷ others) ≡ k
unfolding full when
full_counted zero last others other = simp (ne_eqb last 255 other)
full_counted (suc k) last others other = ap suc (full_counted k last others other)

-- so many octets of 255 are in front, and then another one
pub record Begins (octets : List ℕ) (k : ℕ) : Type 0 where
  pub other : get_or octets k 0 ≡ 255 → ⊥
  pub same : replicate k 255 ++ get_or octets k 0 ∷ drop (suc k) octets ≡ octets

pub full_begins : (octets : List ℕ) → full octets < length octets → Begins octets (full octets)
unfolding full
full_begins [] = λ inside. absurd (not-suc-le-zero inside)
full_begins (b ∷ octets) =
    either_way (λ (k : ℕ). k < length (b ∷ octets) → Begins (b ∷ octets) k) (eqb b 255) (suc (full octets)) 0
    (λ is_full inside. let behind = full_begins octets (le_of_suc-le-suc inside) in record { other = behind.other; same = ap₂ ◌∷◌ (sym (eqb-true b 255 is_full)) behind.same })
    (λ is-other _. record { other = eqb-false b 255 is-other; same = refl })
