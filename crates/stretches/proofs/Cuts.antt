-- Stretches of any line: which bits they have; and that the line without its first bits comes first, and whole copies behind it. By
-- induction over the copies: a bit, or the cut, is in the first of them, or as much later as the line is long.
-- Assumes nothing.
use Prim.Native.Nat.{ℕ, zero, suc, ◌<◌, ◌≤◌, ◌+◌, ◌-◌, ◌%◌}
use native.Mathlib.Nat.{mod-eq_of_lt, add-mod_left, mul-le-mul_left}
use native.Mathlib.Omega.{arith}
use mathlib.Core.Path.{◌≡◌, refl, sym, ap, ◌∙◌}
use mathlib.Core.Bool.{Bool, true, false}
use mathlib.Core.List.{List, [], ◌++◌}
use borrow.Author.Tests.{ltb-true, ltb-false}
use lib.Dec.{ltb}
use lib.ListN.{length, drop, get_or, length-append, length-drop, drop_of_length-le, get_or-append}
use lib.Seq.{length-take-le, drop-nil, drop-append-le, drop-append-add, get_or-append-add, get_or-take, get_or-drop}
use Rattle.sequences.specs.Line.{copies}
use Rattle.sequences.proofs.Lines.{copies_length}
use Rattle.stretches.specs.Stretch.{Endless}

-- a line without its first bit and as many others, and copies of it
pub record Cut (line bits : List ℕ) : Type 0 where
  pub lost : ℕ
  pub whole : ℕ
  pub few : lost < length line
  pub is : bits ≡ drop (suc lost) line ++ copies whole line

module _ (line : List ℕ) (some : 0 < length line) where
  -- copies, bit by bit
  bit_by : (n i : ℕ) (t : Bool) → ltb i (length line) ≡ t → ((j : ℕ) → j < length (copies n line) → get_or (copies n line) j 0 ≡ get_or line (j % length line) 0) → i < length (line ++ copies n line) → get_or (line ++ copies n line) i 0 ≡ get_or line (i % length line) 0
  bit_by n i true e later h =
      let here = ltb-true i (length line) e in
      get_or-append line (copies n line) 0 i here ∙ ap (λ (k : ℕ). get_or line k 0) (sym (mod-eq_of_lt here))
  bit_by n i false e later h =
      let behind : i ≡ length line + (i - length line) = omega (arith, ltb-false i (length line) e) in
      ap (λ (k : ℕ). get_or (line ++ copies n line) k 0) behind ∙ get_or-append-add line (copies n line) (i - length line) 0
      ∙ later (i - length line) (omega (arith, length-append line (copies n line)))
      ∙ ap (λ (k : ℕ). get_or line k 0) (sym (ap (λ (k : ℕ). k % length line) behind ∙ add-mod_left (length line) (i - length line)))

  copies_bit : (n i : ℕ) → i < length (copies n line) → get_or (copies n line) i 0 ≡ get_or line (i % length line) 0
  unfolding copies
  copies_bit zero i h = absurd (let z : ⊥ = omega arith in z)
  copies_bit (suc n) i h = bit_by n i (ltb i (length line)) refl (copies_bit n) h

  -- a stretch is as long as it says
  pub enough : (cut n : ℕ) → n ≤ length (drop cut (copies (cut + n) line))
  enough cut n = omega (arith, length-drop cut (copies (cut + n) line), copies_length (cut + n) line, mul-le-mul_left (cut + n) some)

  pub stretch_is_endless : (cut n : ℕ) → Endless line cut n
  stretch_is_endless cut n = record {
    size = length-take-le n (drop cut (copies (cut + n) line)) (enough cut n);
    bit = λ i h.
        get_or-take n (drop cut (copies (cut + n) line)) i 0 h ∙ get_or-drop cut (copies (cut + n) line) i 0
        ∙ copies_bit (cut + n) (cut + i) (omega (arith, enough cut n, length-drop cut (copies (cut + n) line)));
  }

  -- from its start on: nothing lost, or not all of a copy
  uncut : (n : ℕ) → Cut line (copies n line)
  uncut n =
      let gone : drop (suc (length line - 1)) line ≡ [] = drop_of_length-le line {i = suc (length line - 1)} (omega arith) in
      record { lost = length line - 1; whole = n; few = omega arith; is = ap (λ (l : List ℕ). l ++ copies n line) (sym gone) }

  -- in the first copy, or behind it
  cut_first : (n cut : ℕ) → cut < length line → Cut line (drop (suc cut) (line ++ copies n line))
  cut_first n cut h = record { lost = cut; whole = n; few = h; is = drop-append-le (suc cut) line (copies n line) h }

  cut_later : (n cut : ℕ) → length line ≤ cut → Cut line (drop (cut - length line) (copies n line)) → Cut line (drop cut (line ++ copies n line))
  cut_later n cut past-it behind =
      let far : cut ≡ length line + (cut - length line) = omega arith in
      let moved : drop cut (line ++ copies n line) ≡ drop (cut - length line) (copies n line) = ap (λ (k : ℕ). drop k (line ++ copies n line)) far ∙ drop-append-add line (copies n line) (cut - length line) in
      record { lost = behind.lost; whole = behind.whole; few = behind.few; is = moved ∙ behind.is }

  by_place : (n cut : ℕ) (t : Bool) → ltb cut (length line) ≡ t → ((c : ℕ) → Cut line (drop c (copies n line))) → Cut line (drop (suc cut) (line ++ copies n line))
  by_place n cut true e later = cut_first n cut (ltb-true cut (length line) e)
  by_place n cut false e later = cut_later n (suc cut) (omega (arith, ltb-false cut (length line) e)) (later (suc cut - length line))

  pub cut_at : (n cut : ℕ) → Cut line (drop cut (copies n line))
  unfolding copies
  cut_at zero cut = rw (drop-nil cut) (uncut zero)
  cut_at (suc n) zero = uncut (suc n)
  cut_at (suc n) (suc cut) = by_place n cut (ltb cut (length line)) refl (cut_at n)
