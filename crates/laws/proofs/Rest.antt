-- A writer that is lent the rest of a buffer, said of the whole buffer. One law for every writer.
-- Assumes nothing.
use Prim.Native.Nat.{ℕ, ◌≤◌, ◌+◌, ◌-◌}
use native.Mathlib.Omega.{arith}
use mathlib.Core.Path.{◌≡◌, sym, ap, ◌∙◌}
use mathlib.Core.List.{List, [], ◌++◌, append_assoc, append-nil}
use lib.ListN.{length, take, drop, length-append, length-drop}
use lib.Seq.{take_at, drop_at, take-length, drop-length, drop-drop}
use borrow.Rule.Slice.PartMut.{put_mid}
use Rattle.laws.specs.Front.{front}

-- a part that goes to the end
pub rest_of : (s : List ℕ) (i : ℕ) → take (length s - i) (drop i s) ≡ drop i s
rest_of s i = ap (λ (k : ℕ). take k (drop i s)) (sym (length-drop i s)) ∙ take-length (drop i s)

-- a writer leaves the buffer as long as it was
pub front_length : (new old : List ℕ) → length new ≤ length old → length (front new old) ≡ length old
front_length new old h = simp (length-append, length-drop) (omega arith)

module _ (g x xs : List ℕ) (at : ℕ) (n : at ≡ length g) (h : at ≤ length x) (e : xs ≡ front g x) where
  -- what the second writer is lent
  pub lent : take (length xs - at) (drop at xs) ≡ drop at x
  lent =
      let d : drop at xs ≡ drop (length g) x = ap (λ (l : List ℕ). drop at l) e ∙ drop_at g (drop (length g) x) at (sym n) in
      rest_of xs at ∙ d ∙ ap (λ (k : ℕ). drop k x) (sym n)

  -- and how long that is
  pub lent_length : length (take (length xs - at) (drop at xs)) ≡ length x - at
  lent_length = ap length lent ∙ length-drop at x

  -- two writers, the second lent the rest behind the first
  pub front_then : (g' ys : List ℕ) → ys ≡ front g' (take (length xs - at) (drop at xs)) → put_mid at (length xs - at) xs ys ≡ front (g ++ g') x
  front_then g' ys f =
      let t : take at xs ≡ g = ap (λ (l : List ℕ). take at l) e ∙ take_at g (drop (length g) x) at (sym n) in
      let z : drop (length xs - at) (drop at xs) ≡ [] = ap (λ (k : ℕ). drop k (drop at xs)) (sym (length-drop at xs)) ∙ drop-length (drop at xs) in
      let k : at + length g' ≡ length (g ++ g') = omega (arith, length-append g g') in
      let y : ys ≡ g' ++ drop (length (g ++ g')) x = f ∙ ap (λ (l : List ℕ). front g' l) lent ∙ ap (λ (l : List ℕ). g' ++ l) (drop-drop (length g') at x ∙ ap (λ (j : ℕ). drop j x) k) in
      simp (t, z, y, append-nil, append_assoc)
