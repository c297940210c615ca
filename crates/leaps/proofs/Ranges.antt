-- Many bits keep an ear in range, since each does, and are taken one at a time.
-- Assumes nothing.
use Prim.Native.Nat.{ℕ, ◌<◌, ◌≤◌, ◌+◌}
use native.Mathlib.Omega.{arith}
use mathlib.Core.List.{List, [], ◌∷◌}
use lib.Dec.{eqb}
use lib.ListN.{length, drop, length-drop}
use Rattle.laws.proofs.Logic.{either_way}
use Rattle.framing.specs.declared.Ear.{Ear}
use Rattle.framing.specs.Framing.{turned_by}
use Rattle.framing.proofs.Ranges.{EarFits, turned_by_fits}
use Rattle.leaps.specs.declared.Advanced.{Advanced}
use Rattle.leaps.specs.Leaps.{advanced_to, advanced}

pub advanced_fits : (ear : Ear) (len : ℕ) (bits : List ℕ) (n : ℕ) → EarFits ear → EarFits (advanced ear len bits n).ear
unfolding advanced
advanced_fits ear len [] n fits = fits
advanced_fits ear len (bit ∷ bits) n fits =
    let next = turned_by ear len bit in
    let next_fits = turned_by_fits ear len bit fits in
    either_way (λ (after : Advanced). EarFits after.ear) (eqb next.act 0) (advanced next.ear len bits (n + 1)) (advanced_to next (n + 1))
    (λ _. advanced_fits next.ear len bits (n + 1) next_fits) (λ _. next_fits)

-- where there is a bit, one is taken
record Takes (bits : List ℕ) (n : ℕ) (a : Advanced) : Type 0 where
  least : n ≤ a.at
  some : 0 < length bits → n < a.at

takes : (ear : Ear) (len : ℕ) (bits : List ℕ) (n : ℕ) → Takes bits n (advanced ear len bits n)
unfolding advanced
takes ear len [] n = record { least = omega arith; some = λ none. absurd (let z : ⊥ = omega arith in z) }
takes ear len (bit ∷ bits) n =
    either_way (Takes (bit ∷ bits) n) (eqb (turned_by ear len bit).act 0) (advanced (turned_by ear len bit).ear len bits (n + 1)) (advanced_to (turned_by ear len bit) (n + 1))
    (λ _. let later = takes (turned_by ear len bit).ear len bits (n + 1) in record { least = omega (arith, later.least); some = λ _. omega (arith, later.least) })
    (λ _. record { least = omega arith; some = λ _. omega arith })

pub advanced_takes : (ear : Ear) (len : ℕ) (s : List ℕ) (i : ℕ) → i < length s → i < (advanced ear len (drop i s) i).at
advanced_takes ear len s i there = (takes ear len (drop i s) i).some (omega (arith, length-drop i s))
