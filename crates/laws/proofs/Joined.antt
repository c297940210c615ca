-- Lists one behind the other: one more stands behind the others, and the first few are no more than all of them.
-- Assumes nothing.
use Prim.Native.Nat.{ℕ, zero, suc, ◌≤◌, ◌+◌}
use native.Mathlib.Omega.{arith}
use mathlib.Core.Path.{◌≡◌, sym, ap, ◌∙◌}
use mathlib.Core.List.{List, [], ◌∷◌, ◌++◌, append-nil, append_assoc}
use lib.ListN.{length, take, get_or, length-append}
use lib.Seq.{take-nil}
use Rattle.laws.specs.Joined.{joined}

pub joined_more : (lists : List (List ℕ)) (k : ℕ) → joined (take (k + 1) lists) ≡ joined (take k lists) ++ get_or lists k []
unfolding joined
joined_more [] k = simp (take-nil {A = List ℕ} k, take-nil {A = List ℕ} (k + 1))
joined_more (list ∷ lists) zero = append-nil list
joined_more (list ∷ lists) (suc k) =
    let next : suc k + 1 ≡ suc (k + 1) = omega arith in
    ap (λ (n : ℕ). joined (take n (list ∷ lists))) next ∙ ap (λ (l : List ℕ). list ++ l) (joined_more lists k) ∙ sym (append_assoc list (joined (take k lists)) (get_or lists k []))

pub joined_more_length : (lists : List (List ℕ)) (k : ℕ) → length (joined (take (k + 1) lists)) ≡ length (joined (take k lists)) + length (get_or lists k [])
joined_more_length lists k = ap length (joined_more lists k) ∙ length-append (joined (take k lists)) (get_or lists k [])

pub joined_within : (lists : List (List ℕ)) (k : ℕ) → length (joined (take k lists)) ≤ length (joined lists)
unfolding joined
joined_within [] k = simp (take-nil {A = List ℕ} k) (omega arith)
joined_within (list ∷ lists) zero = omega arith
joined_within (list ∷ lists) (suc k) = omega (arith, joined_within lists k, length-append list (joined lists), length-append list (joined (take k lists)))
