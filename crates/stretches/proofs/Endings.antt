-- What bits do not end in, where they end in CJ: ten 1s with few bits behind them, a 1 near before the last bit, a 0. CJ is longer than these
-- words, so it would end in them.
-- Assumes nothing.
use Prim.Native.Nat.{ℕ, zero, suc, ◌<◌, ◌≤◌, ◌+◌, ◌-◌}
use native.Mathlib.Omega.{arith}
use mathlib.Core.Path.{◌≡◌, refl, sym, ap, ◌∙◌}
use mathlib.Core.List.{List, [], ◌∷◌, ◌++◌, append_assoc}
use lib.Dec.{T, eqb, eqb→eq, lit<}
use lib.ListN.{length, drop, get_or, length-append, replicate}
use lib.Seq.{drop-append-le, drop-append-add, get_or-append-add}
use Rattle.laws.specs.Logic.{when, both}
use Rattle.laws.specs.Tests.{all_below}
use Rattle.laws.proofs.Computed.{below}
use Rattle.sequences.specs.Line.{framed, framed_all, ten_ones, cj}
use Rattle.sequences.proofs.Lines.{cj_length}
use Rattle.stretches.specs.Stretch.{Ends, Nowhere}
use Rattle.stretches.proofs.Standing.{Table, run, nowhere}

-- bits that end in two words: the longer ends in the shorter
pub ends_in_lem : (long word bits : List ℕ) → length word ≤ length long → Ends long bits → Ends word bits → Ends word long
ends_in_lem long word bits few e there =
    let size : length e.0 ≤ length there.0 = omega (arith, ap length (e.1 ∙ sym there.1), length-append e.0 long, length-append there.0 word) in
    let rest : drop (length e.0) (there.0 ++ word) ≡ drop (length e.0) there.0 ++ word = drop-append-le (length e.0) there.0 word size in
    let none_more : length e.0 ≡ length e.0 + 0 = omega arith in
    let behind : drop (length e.0) (e.0 ++ long) ≡ long = ap (λ (n : ℕ). drop n (e.0 ++ long)) none_more ∙ drop-append-add e.0 long 0 in
    (drop (length e.0) there.0, sym rest ∙ ap (drop (length e.0)) (there.1 ∙ sym e.1) ∙ behind)

-- two words as long as each other are one
none_before : (before word long : List ℕ) → before ++ word ≡ long → length word ≡ length long → word ≡ long
none_before [] word long e size = e
none_before (x ∷ before) word long e size = absurd (omega (arith, ap length e, length-append (x ∷ before) word, size))

pub same_ends : (long word bits : List ℕ) → length word ≡ length long → Ends long bits → Ends word bits → word ≡ long
same_ends long word bits size e there = let inside = ends_in_lem long word bits (omega (arith, size)) e there in none_before inside.0 word long inside.1 size

-- ten 1s stand nowhere in CJ: up to nine 1s since the last 0, or ten have stood
abbrev tens : Table
tens = record { zeros = replicate 10 0 ++ 10 ∷ []; ones = 1 ∷ 2 ∷ 3 ∷ 4 ∷ 5 ∷ 6 ∷ 7 ∷ 8 ∷ 9 ∷ 10 ∷ 10 ∷ []; last = 10 }

no_tens : Nowhere ten_ones cj
unfolding run when both all_below cj framed_all framed
no_tens = nowhere ten_ones tens tt cj 0 (lit< tt) (lit< tt)

-- so they do not end in CJ and in ten 1s with up to twenty bits behind them
pub not_both : (later bits : List ℕ) → length later ≤ 20 → Ends cj bits → Ends (ten_ones ++ later) bits → ⊥
not_both later bits few e ones =
    let inside = ends_in_lem cj (ten_ones ++ later) bits (omega (arith, length-append ten_ones later, cj_length)) e ones in
    no_tens inside.0 later (append_assoc inside.0 ten_ones later ∙ inside.1)

-- nor in CJ and in a 1 with one to nine bits behind it
pub not_behind_one : (later bits : List ℕ) → 0 < length later → length later < 10 → Ends cj bits → Ends (1 ∷ later) bits → ⊥
unfolding all_below both cj framed_all framed
not_behind_one later bits some few e one =
    let inside = ends_in_lem cj (1 ∷ later) bits (omega (arith, cj_length)) e one in
    let at : length inside.0 + 0 ≡ 29 - length later = omega (arith, ap length inside.1, length-append inside.0 (1 ∷ later), cj_length) in
    let is_one : get_or cj (29 - length later) 0 ≡ 1 = ap (λ (n : ℕ). get_or cj n 0) (sym at) ∙ ap (λ (l : List ℕ). get_or l (length inside.0 + 0) 0) (sym inside.1) ∙ get_or-append-add inside.0 (1 ∷ later) 0 0 in
    let is_zero : get_or cj (29 - length later) 0 ≡ 0 = eqb→eq _ _ (implied_below (length later) some few) in
    omega (arith, sym is_one ∙ is_zero)
  where
    implied_below : (n : ℕ) → 0 < n → n < 10 → T (eqb (get_or cj (29 - n) 0) 0)
    implied_below zero low high = absurd (omega arith)
    implied_below (suc n) low high = below (λ (k : ℕ). eqb (get_or cj (29 - suc k) 0) 0) 9 tt n (omega arith)

-- nor in CJ and in a 0
pub not_in_zero : (bits : List ℕ) → Ends cj (bits ++ 0 ∷ []) → ⊥
unfolding cj framed_all framed
not_in_zero bits e =
    let last = ends_in_lem cj (0 ∷ []) (bits ++ 0 ∷ []) (omega (arith, cj_length)) e (bits, refl) in
    let at : length last.0 + 0 ≡ 29 = omega (arith, ap length last.1, length-append last.0 (0 ∷ [])) in
    let is_zero : get_or cj 29 0 ≡ 0 = ap (λ (n : ℕ). get_or cj n 0) (sym at) ∙ ap (λ (l : List ℕ). get_or l (length last.0 + 0) 0) (sym last.1) ∙ get_or-append-add last.0 (0 ∷ []) 0 0 in
    omega (arith, is_zero)
