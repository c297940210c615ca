-- Bits marked one by one in zeros give the bits.
-- Assumes nothing.
use Rattle.std.proofs.Common.{◌≡◌, ℕ, zero, suc, ◌+◌, Bool, true, eqb, leb, List, [], ◌∷◌, ◌++◌, length, get_or, take, drop, set, replicate, sym, refl, ap, ◌∙◌, ap₂, append_assoc, append-nil, arith, length-append, length-drop, take-append-drop, length-take-le, take_all, leb-true}
use lib.ListN.{replicate-append-replicate}
use lib.Seq.{set_at}
use Rattle.laws.specs.Logic.{when, both}
use Rattle.laws.specs.Tests.{every}
use Rattle.laws.proofs.Logic.{both_true}

-- neither marked nor not is no bit
abbrev pub bits : List ℕ → Bool
bits list = every (λ (b : ℕ). leb b 1) list

-- each bit that is 1 is marked, from a place on
unfoldable pub marking : List ℕ → ℕ → List ℕ → List ℕ
marking damaged place [] = damaged
marking damaged place (b ∷ rest) = marking (when (eqb b 1) (set damaged place 1) damaged) (place + 1) rest

one_marked : (b : ℕ) (before rest : List ℕ) (place : ℕ) → leb b 1 ≡ true → length before ≡ place → when (eqb b 1) (set (before ++ 0 ∷ rest) place 1) (before ++ 0 ∷ rest) ≡ before ++ (b ∷ []) ++ rest
unfolding when
one_marked zero before rest place is_bit_lem here = sym (append_assoc before (0 ∷ []) rest)
one_marked (suc zero) before rest place is_bit_lem here = set_at before 0 rest 1 place here ∙ sym (append_assoc before (1 ∷ []) rest)
one_marked (suc (suc b)) before rest place is_bit_lem here = absurd (omega (arith, leb-true (suc (suc b)) 1 is_bit_lem))

zeros_marked :
    (list before rest : List ℕ) (place : ℕ) → bits list ≡ true → length before ≡ place
    → marking (before ++ (replicate (length list) 0 ++ rest)) place list ≡ before ++ (list ++ rest)
unfolding marking every
zeros_marked [] before rest place are_bits here = refl
zeros_marked (b ∷ list) before rest place are_bits here =
    let now = both_true (leb b 1) (bits list) are_bits in
    let next : length (before ++ (b ∷ [])) ≡ place + 1 = length-append before (b ∷ []) ∙ ap (λ (n : ℕ). n + 1) here in
    ap (λ (l : List ℕ). marking l (place + 1) list) (one_marked b before (replicate (length list) 0 ++ rest) place now.0 here)
    ∙ zeros_marked list (before ++ (b ∷ [])) rest (place + 1) now.1 next
    ∙ append_assoc before (b ∷ []) (list ++ rest)

every_split : (a b : List ℕ) → bits (a ++ b) ≡ true → (bits a ≡ true) × (bits b ≡ true)
unfolding every both
every_split [] b h = (refl, h)
every_split (x ∷ a) b h =
    let here = both_true (leb x 1) (bits (a ++ b)) h in
    let others = every_split a b here.1 in
    (ap₂ both here.0 others.0, others.1)

abbrev pub zeros : ℕ → List ℕ
zeros n = replicate n 0

pub zeros_at : (n i : ℕ) → get_or (zeros n) i 0 ≡ 0
zeros_at zero i = refl
zeros_at (suc n) zero = refl
zeros_at (suc n) (suc i) = zeros_at n i

-- the bits of one end, then those of the other
both_marked : (a b : List ℕ) (n : ℕ) → length a ≡ n → length b ≡ n → bits a ≡ true → bits b ≡ true → marking (marking (replicate (n + n) 0) 0 a) n b ≡ a ++ b
both_marked a b n a-long b-long a-bits b-bits =
    let all : zeros (n + n) ≡ zeros (length a) ++ zeros n = sym (replicate-append-replicate {A = ℕ} n n 0) ∙ ap (λ (k : ℕ). zeros k ++ zeros n) (sym a-long) in
    let right : a ++ zeros n ≡ a ++ (zeros (length b) ++ []) = ap (λ (k : ℕ). a ++ zeros k) (sym b-long) ∙ ap (λ (l : List ℕ). a ++ l) (sym (append-nil (zeros (length b)))) in
    ap (λ (l : List ℕ). marking (marking l 0 a) n b) all
    ∙ ap (λ (l : List ℕ). marking l n b) (zeros_marked a [] (zeros n) 0 a-bits refl ∙ right)
    ∙ zeros_marked b a [] n b-bits a-long
    ∙ ap (λ (l : List ℕ). a ++ l) (append-nil b)

-- a list of bits in two halves
module _ (n : ℕ) (list : List ℕ) (all : length list ≡ n + n) where
  pub first_half : length (take n list) ≡ n
  first_half = length-take-le n list (omega (arith, all))

  rest_half : length (drop n list) ≡ n
  rest_half = omega (arith, all, length-drop n list)

  pub other_half : length (take n (drop n list)) ≡ n
  other_half = length-take-le n (drop n list) (omega (arith, rest_half))

  halves : take n list ++ take n (drop n list) ≡ list
  halves = ap (λ (l : List ℕ). take n list ++ l) (take_all n (drop n list) (omega (arith, rest_half))) ∙ take-append-drop n list

  pub halves_marked : bits list ≡ true → marking (marking (zeros (n + n)) 0 (take n list)) n (take n (drop n list)) ≡ list
  halves_marked are_bits =
      let these = every_split (take n list) (take n (drop n list)) (ap bits halves ∙ are_bits) in
      both_marked (take n list) (take n (drop n list)) n first_half other_half these.0 these.1 ∙ halves
