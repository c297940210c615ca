-- A buffer that is filled from its front, element by element: what a loop does that writes.
-- Assumes nothing.
use Prim.Native.Nat.{ℕ, ◌+◌, ◌<◌, ◌≤◌}
use native.Mathlib.Numerals.{add-one}
use native.Mathlib.Omega.{arith}
use mathlib.Core.Path.{◌≡◌, sym, ap, ◌∙◌}
use mathlib.Core.List.{List, ◌++◌}
use lib.ListN.{length, drop, get_or, set}
use lib.Seq.{paste, paste-suc, length-paste, take-length}
use Rattle.laws.specs.Front.{front}

-- of a list, j elements stand at the front of what was lent
abbrev pub Pasted : List ℕ → List ℕ → ℕ → List ℕ → Type 0
Pasted lent new j out = out ≡ paste lent 0 new j

module _ (lent new : List ℕ) (j : ℕ) (out : List ℕ) (so_far : Pasted lent new j out) where
  -- one more
  pub pasted_more : (v : ℕ) → v ≡ get_or new j 0 → j < length lent → j < length new → Pasted lent new (j + 1) (set out j v)
  pasted_more v e h k =
      let place : 0 + j ≡ j = omega arith in
      ap (λ (l : List ℕ). set l j v) so_far
      ∙ ap (λ (x : ℕ). set (paste lent 0 new j) j x) e
      ∙ ap (λ (i : ℕ). set (paste lent 0 new j) i (get_or new j 0)) (sym place)
      ∙ paste-suc lent 0 new j 0 (omega (arith, h)) k
      ∙ ap (paste lent 0 new) (sym (add-one j))

  -- the buffer stays as long as it was lent
  pub pasted_length : j ≤ length lent → j ≤ length new → length out ≡ length lent
  pasted_length h k = ap length so_far ∙ length-paste lent 0 new j (omega (arith, h)) k

  -- all of them
  pub pasted_all : j ≡ length new → out ≡ front new lent
  pasted_all all =
      let place : 0 + length new ≡ length new = omega arith in
      so_far ∙ ap (paste lent 0 new) all ∙ ap (λ (l : List ℕ). l ++ drop (0 + length new) lent) (take-length new) ∙ ap (λ (n : ℕ). new ++ drop n lent) place
