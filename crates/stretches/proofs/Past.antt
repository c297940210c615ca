-- The past of an ear, a number, holds the bits last heard: ten of them, and thirty. Each bit comes on top of the number and the lowest goes,
-- as it does in a list that loses its first entry and gets one behind.
-- Assumes nothing.
use Prim.Native.Nat.{ℕ, zero, suc, ◌<◌, ◌≤◌, ◌+◌, ◌*◌, ◌-◌, ◌/◌, ◌%◌, ◌^◌}
use native.Mathlib.Omega.{arith}
use mathlib.Core.Path.{◌≡◌, refl, sym, ap, ap₂, ◌∙◌}
use mathlib.Core.Bool.{Bool, true, false}
use mathlib.Core.List.{List, [], ◌∷◌, ◌++◌, append_assoc, append-nil}
use borrow.Author.Tests.{ltb-true, ltb-false}
use lib.Dec.{ltb, lit<}
use lib.ListN.{length, take, drop, get_or, take-append-drop, get_or-replicate, get_or-append}
use lib.Seq.{drop-append-add, get_or-drop}
use Rattle.sequences.specs.Line.{framed, framed_all, ten_ones, cj}
use Rattle.framing.specs.Framing.{pushed, last_ten}
use Rattle.framing.proofs.Words.{hearing}
use Rattle.framing.specs.Framing.{value}
use Rattle.leaps.proofs.Spans.{hearing_number}
use Rattle.stretches.specs.Stretch.{Ends}
use Rattle.stretches.proofs.Each.{none, more, Bits}

-- a past is a number of 32 bits
abbrev pub Small : ℕ → Type 0
Small past = past < 4294967296

-- the lowest bits of a number, lowest first
unfoldable lows : ℕ → ℕ → List ℕ
lows zero x = []
lows (suc n) x = x % 2 ∷ lows n (x / 2)

lows_length : (n x : ℕ) → length (lows n x) ≡ n
unfolding lows
lows_length zero x = refl
lows_length (suc n) x = ap suc (lows_length n (x / 2))

-- one bit on top
lows_top : (n y b : ℕ) → y < 2 ^ n → b < 2 → lows (suc n) (y + b * 2 ^ n) ≡ lows n y ++ b ∷ []
unfolding lows
lows_top zero y b y-small b-small = ap (λ (x : ℕ). x ∷ []) (omega arith)
lows_top (suc n) y b y-small b-small =
    let twice : b * 2 ^ suc n ≡ b * (2 * 2 ^ n) = ap (λ (x : ℕ). b * x) (omega arith) in
    let low : (y + b * 2 ^ suc n) % 2 ≡ y % 2 = omega arith in
    let high : (y + b * 2 ^ suc n) / 2 ≡ y / 2 + b * 2 ^ n = omega arith in
    ap₂ ◌∷◌ low (ap (lows (suc n)) high ∙ lows_top n (y / 2) b (omega arith) b-small)

pushed_small : (past b : ℕ) → Small past → b < 2 → Small (pushed past b)
pushed_small past b past-small b-small = omega arith

pub hearing_small : (past : ℕ) (heard : List ℕ) → Small past → Bits heard → Small (hearing past heard)
hearing_small past [] past-small none = past-small
hearing_small past (b ∷ heard) past-small (more low bits) = hearing_small (pushed past b) heard (pushed_small past b past-small low) bits

pub hearing_append : (past : ℕ) (a b : List ℕ) → hearing past (a ++ b) ≡ hearing (hearing past a) b
hearing_append past [] b = refl
hearing_append past (bit ∷ a) b = hearing_append (pushed past bit) a b

-- a part of the past into which each bit comes on top
module _ (top : ℕ) (part : ℕ → ℕ) (shifts : (past b : ℕ) → part (pushed past b) ≡ part past / 2 + b * 2 ^ top) (small : (past : ℕ) → Small past → part past < 2 ^ suc top) where
  part_heard : (past : ℕ) (heard : List ℕ) → Small past → Bits heard → lows (suc top) (part (hearing past heard)) ≡ drop (length heard) (lows (suc top) (part past) ++ heard)
  unfolding lows
  part_heard past [] past-small none = sym (append-nil (lows (suc top) (part past)))
  part_heard past (b ∷ heard) past-small (more low bits) =
      let on-top : lows (suc top) (part (pushed past b)) ≡ lows top (part past / 2) ++ b ∷ [] = ap (lows (suc top)) (shifts past b) ∙ lows_top top (part past / 2) b (omega (arith, small past past-small)) low in
      part_heard (pushed past b) heard (pushed_small past b past-small low) bits
      ∙ ap (λ (l : List ℕ). drop (length heard) (l ++ heard)) on-top
      ∙ ap (drop (length heard)) (append_assoc (lows top (part past / 2)) (b ∷ []) heard)

-- the last ten and the last thirty
last_ten_lem : (past : ℕ) (heard : List ℕ) → Small past → Bits heard → lows 10 (last_ten (hearing past heard)) ≡ drop (length heard) (lows 10 (last_ten past) ++ heard)
last_ten_lem = part_heard 9 last_ten (λ past b. omega arith) (λ past h. omega arith)

last_thirty : (past : ℕ) (heard : List ℕ) → Small past → Bits heard → lows 30 (hearing past heard / 4) ≡ drop (length heard) (lows 30 (past / 4) ++ heard)
last_thirty = part_heard 29 (λ (past : ℕ). past / 4) (λ past b. omega arith) (λ past h. omega arith)

-- ten bits, whatever was heard before
pub ten_heard : (past : ℕ) (w : List ℕ) → Small past → length w ≡ 10 → last_ten (hearing past w) ≡ value w
ten_heard past w past-small ten =
    let number = hearing_number w past 4194304 (ap (λ (n : ℕ). 4194304 * 2 ^ n) ten) ∙ ap (λ (n : ℕ). past / 2 ^ n + value w * 4194304) ten in
    omega (arith, number)

-- a list behind as many bits as it is long
behind : (n x : ℕ) (heard : List ℕ) → n ≤ length heard → drop (length heard) (lows n x ++ heard) ≡ drop (length heard - n) heard
behind n x heard h =
    let split : length heard ≡ length (lows n x) + (length heard - n) = omega (arith, lows_length n x) in
    ap (λ (size : ℕ). drop size (lows n x ++ heard)) split ∙ drop-append-add (lows n x) heard (length heard - n)

ends : (n : ℕ) (word heard : List ℕ) → drop (length heard - n) heard ≡ word → Ends word heard
ends n word heard e = (take (length heard - n) heard, ap (λ (l : List ℕ). take (length heard - n) heard ++ l) (sym e) ∙ take-append-drop (length heard - n) heard)

-- thirty bits that make CJ's number are CJ
pub cj_heard : (heard : List ℕ) → Bits heard → 30 ≤ length heard → hearing 0 heard / 4 ≡ value cj → Ends cj heard
unfolding lows cj framed_all framed
cj_heard heard bits h e = ends 30 cj heard (sym (behind 30 0 heard h) ∙ sym (last_thirty 0 heard (lit< tt) bits) ∙ ap (lows 30) e)

-- ten bits that make the number of ten 1s are ten 1s, and were heard: a past without ten bits holds a 0
pub ones_heard : (heard : List ℕ) → Bits heard → last_ten (hearing 0 heard) ≡ value ten_ones → Ends ten_ones heard
unfolding lows
ones_heard heard bits e = by_length (ltb (length heard) 10) refl
  where
    ones : drop (length heard) (lows 10 0 ++ heard) ≡ ten_ones
    ones = sym (last_ten_lem 0 heard (lit< tt) bits) ∙ ap (lows 10) e

    by_length : (t : Bool) → ltb (length heard) 10 ≡ t → Ends ten_ones heard
    by_length true s =
        let short = ltb-true (length heard) 10 s in
        let zero-first : get_or (drop (length heard) (lows 10 0 ++ heard)) 0 1 ≡ 0 =
        get_or-drop (length heard) (lows 10 0 ++ heard) 0 1 ∙ get_or-append (lows 10 0) heard 1 (length heard + 0) (omega arith) ∙ get_or-replicate 10 (length heard + 0) 0 1 (omega arith) in
        absurd (omega (arith, sym zero-first ∙ ap (λ (l : List ℕ). get_or l 0 1) ones))
    by_length false s = ends 10 ten_ones heard (sym (behind 10 0 heard (ltb-false (length heard) 10 s)) ∙ ones)
