-- Ten bits at once: an octet in its frame, the ten 1s that end a message, and a sync. Behind a 1 none but the tenth of them can end CJ,
-- since CJ has a 0 wherever that 1 is by then.
-- Assumes nothing.
use Prim.Native.Nat.{ℕ, zero, suc, ◌<◌, ◌≤◌, ◌+◌, ◌*◌, ◌-◌, ◌/◌, ◌%◌, ◌^◌}
use native.Mathlib.Nat.{add-mul-div_right, div-div-eq-div-mul, mul_assoc}
use native.Mathlib.Omega.{arith}
use lib.Pow.{pow_pos}
use mathlib.Core.Path.{◌≡◌, refl, sym, ap, ap₂, ◌∙◌}
use mathlib.Core.Bool.{Bool, true, false}
use mathlib.Core.List.{List}
use borrow.Author.Tests.{lt-ltb, le-ltb, ltb-true, eq-eqb, ne_eqb, eqb-true, not-true}
use lib.Dec.{ltb, eqb, eqb→eq, lit<, lit≤}
use lib.ListN.{length, drop, get_or}
use Rattle.laws.specs.Logic.{when, both}
use Rattle.laws.specs.Tests.{all_below, every}
use Rattle.laws.proofs.Logic.{both_true}
use Rattle.laws.proofs.Computed.{below}
use Rattle.octets.specs.Octets.{bad}
use Rattle.framing.specs.Framing.{pushed, last_ten, octet_of, go, hunted, synced, bounded, stopped, ended, placed, turned_to}
use Rattle.framing.proofs.Words.{hearing, cj_number}
use Rattle.sequences.specs.Line as line
use Rattle.framing.specs.Framing.{value}
use Rattle.leaps.specs.Leaps.{advanced}
use Rattle.leaps.specs.Inner.{full, reached, span, is_bit, TenAt, after_ten, is_stored}
use Rattle.leaps.proofs.Steps.{advanced_on, advanced_asked, turned_full}
use Rattle.leaps.proofs.Spans.{hearing_number, hearing_last, value_last, every_first, every_last, value_small, all_ones}

-- a bit of a number
abbrev bit_at : ℕ → ℕ → ℕ
bit_at m x = x / 2 ^ m % 2

-- a past with a 1 where CJ has a 0, for as many bits more
abbrev Marked : ℕ → ℕ → Type 0
Marked k past = bit_at (k + 20) (past / 4) ≡ 1

-- each bit moves the 1 down by a place
moved : (k p b : ℕ) → k < 9 → Marked (suc k) p → Marked k (pushed p b)
unfolding all_below both
moved k p b early mark =
    let places : 2 * 2 ^ (8 - k) * 2 ^ (k + 20) ≡ 536870912 = eqb→eq _ _ (below (λ (j : ℕ). eqb (2 * 2 ^ (8 - j) * 2 ^ (j + 20)) 536870912) 9 tt k early) in
    let down : 2 * 2 ^ (k + 20) ≡ 2 ^ suc (k + 20) = omega arith in
    let split : pushed p b / 4 ≡ p / 4 / 2 + b * 536870912 = omega arith in
    let top : b * 536870912 ≡ b * (2 * 2 ^ (8 - k)) * 2 ^ (k + 20) = ap (λ (x : ℕ). b * x) (sym places) ∙ sym (mul_assoc b (2 * 2 ^ (8 - k)) (2 ^ (k + 20))) in
    let shifted : (p / 4 / 2 + b * 536870912) / 2 ^ (k + 20) ≡ p / 4 / 2 / 2 ^ (k + 20) + b * (2 * 2 ^ (8 - k)) = ap (λ (x : ℕ). (p / 4 / 2 + x) / 2 ^ (k + 20)) top ∙ add-mul-div_right (p / 4 / 2) (b * (2 * 2 ^ (8 - k))) (pow_pos (k + 20)) in
    let low : p / 4 / 2 / 2 ^ (k + 20) ≡ p / 4 / 2 ^ suc (k + 20) = div-div-eq-div-mul (p / 4) 2 (2 ^ (k + 20)) ∙ ap (λ (x : ℕ). p / 4 / x) down in
    let place : suc (k + 20) ≡ suc k + 20 = omega arith in
    let was : p / 4 / 2 ^ suc (k + 20) % 2 ≡ 1 = ap (λ (m : ℕ). bit_at m (p / 4)) place ∙ mark in
    ap (λ (x : ℕ). x / 2 ^ (k + 20) % 2) split ∙ ap (λ (x : ℕ). x % 2) shifted ∙ omega (arith, low, was)

no_cj : (k p : ℕ) → k < 9 → Marked k p → p / 4 ≡ value line.cj → ⊥
unfolding all_below both
no_cj k p early mark ends =
    let none : bit_at (k + 20) 537395712 ≡ 0 = eqb→eq _ _ (below (λ (j : ℕ). eqb (bit_at (j + 20) 537395712) 0) 9 tt k early) in
    omega (arith, sym (ap (bit_at (k + 20)) (ends ∙ cj_number) ∙ none) ∙ mark)

newest : (p : ℕ) → 2147483647 < p → p < 4294967296 → Marked 9 p
newest p top word = omega arith

-- the places that bits lead through, one after the other
abbrev Onwards : (ℕ → Bool) → ℕ → ℕ → ℕ → Type 0
Onwards P first beyond len = (q b before past : ℕ) → first ≤ q → q < beyond → P b ≡ true → placed q before past len b ≡ go (q + 1) 0

module _ (s : List ℕ) (len : ℕ) where
  -- a bit
  one : (k past p next i : ℕ) → k < 9 → Marked (suc k) past → i < length s → is_bit (get_or s i 0) ≡ true → placed p past (pushed past (get_or s i 0)) len (get_or s i 0) ≡ go next 0
      → advanced (full past p) len (drop i s) i ≡ advanced (full (pushed past (get_or s i 0)) next) len (drop (i + 1) s) (i + 1)
  one k past p next i early mark room bit turn =
      let b = get_or s i 0 in
      let small = ltb-true b 2 bit in
      let steps = turned_full past p len b (omega arith) (no_cj k (pushed past b) early (moved k past b early mark)) ∙ ap (turned_to (pushed past b) 30) turn in
      advanced_on (full past p) len s i i room (turned_to (pushed past b) 30 (go next 0)) (sym steps) refl

  -- some bits
  module _ (P : ℕ → Bool) (bits : (b : ℕ) → P b ≡ true → is_bit b ≡ true) (first beyond : ℕ) (onwards : Onwards P first beyond len) where
    some : (k past p i : ℕ) → k < 9 → Marked k past → i + k ≤ length s → every P (span s i k) ≡ true → first ≤ p → p + k ≤ beyond
        → advanced (full past p) len (drop i s) i ≡ advanced (full (hearing past (span s i k)) (p + k)) len (drop (i + k) s) (i + k)
    unfolding span every
    some zero past p i early mark room hold from_First in_reach =
        let here : p ≡ p + 0 = omega arith in
        let at : i ≡ i + 0 = omega arith in
        ap₂ (λ (q j : ℕ). advanced (full past q) len (drop j s) j) here at
    some (suc k) past p i early mark room hold from_First in_reach =
        let tests = every_first s P k i hold in
        let b = get_or s i 0 in
        let here = one k past p (p + 1) i (omega arith) mark (omega arith) (bits b tests.0) (onwards p b past (pushed past b) from_First (omega arith) tests.0) in
        let later = some k (pushed past b) (p + 1) (i + 1) (omega arith) (moved k past b (omega arith) mark) (omega arith) tests.1 (omega arith) (omega arith) in
        let reach : p + 1 + k ≡ p + suc k = omega arith in
        let at : i + 1 + k ≡ i + suc k = omega arith in
        here ∙ later ∙ ap₂ (λ (q j : ℕ). advanced (full (hearing (pushed past b) (span s (i + 1) k)) q) len (drop j s) j) reach at

    -- ten bits: the first leads to some place, eight lead on from there, and the tenth asks for something
    module _ (i past p next place act : ℕ) (room : i + 10 ≤ length s) (all : every is_bit (span s i 10) ≡ true) (top : 2147483647 < past) (small : past < 4294967296) where
      ten : placed p past (pushed past (get_or s i 0)) len (get_or s i 0) ≡ go next 0 → first ≤ next → next + 8 ≤ beyond → every P (span s (i + 1) 8) ≡ true
          → placed (next + 8) (hearing past (span s i 9)) (hearing past (span s i 10)) len (get_or s (i + 1 + 8) 0) ≡ go place act
          → (act ≡ 0 → ⊥) → (hearing past (span s i 10) / 4 ≡ value line.cj → ⊥)
          → advanced (full past p) len (drop i s) i ≡ reached (hearing past (span s i 10)) place act (i + 10)
      unfolding span every
      ten turn from_First in_reach eight last asks cj =
          let b = get_or s i 0 in
          let tests = every_first s is_bit 9 i all in
          let end = get_or s (i + 1 + 8) 0 in
          let tenth = ltb-true end 2 (every_last s is_bit 8 (i + 1) tests.1).1 in
          let before = hearing (pushed past b) (span s (i + 1) 8) in
          let heard : hearing past (span s i 10) ≡ pushed before end = hearing_last s 8 (pushed past b) (i + 1) in
          let here = one 8 past p next i (lit< tt) (newest past top small) (omega arith) tests.0 turn in
          let on = some 8 (pushed past b) next (i + 1) (lit< tt) (moved 8 past b (lit< tt) (newest past top small)) (omega arith) eight from_First in_reach in
          let steps = turned_full before (next + 8) len end (omega arith) (λ z. cj (ap (λ (x : ℕ). x / 4) heard ∙ z)) in
          let asked : turned_to (pushed before end) 30 (go place act) ≡ turned_to (pushed before end) 30 (placed (next + 8) before (pushed before end) len end) =
          ap (turned_to (pushed before end) 30) (sym last ∙ ap (λ (x : ℕ). placed (next + 8) before x len end) heard) in
          let at : i + 1 + 8 + 1 ≡ i + 10 = omega arith in
          here ∙ on
          ∙ advanced_asked (full before (next + 8)) len s (i + 1 + 8) (i + 1 + 8) (omega arith) (turned_to (pushed before end) 30 (go place act)) (asked ∙ sym steps) asks
          ∙ ap₂ (λ (x j : ℕ). reached x place act j) (sym heard) at

-- in a sync and in an octet any bit leads on, behind the end of a message a 1
sync_onwards : (len : ℕ) → Onwards is_bit 1 9 len
unfolding placed when
sync_onwards len q b before past from_First in_reach holds = simp (ne_eqb q 0 (λ z. omega (arith, z)), lt-ltb q 9 in_reach)

octet_onwards : (len : ℕ) → Onwards is_bit 11 19 len
unfolding placed when
octet_onwards len q b before past from_First in_reach holds =
    simp (ne_eqb q 0 (λ z. omega (arith, z)), le-ltb q 9 (omega arith), ne_eqb q 9 (λ z. omega (arith, z)), ne_eqb q 10 (λ z. omega (arith, z)), lt-ltb q 19 in_reach)

abbrev is_one : ℕ → Bool
is_one b = eqb b 1

ending_onwards : (len : ℕ) → Onwards is_one 20 28 len
unfolding placed ended when
ending_onwards len q b before past from_First in_reach holds =
    let one = eqb-true b 1 holds in
    simp
    (ne_eqb q 0 (λ z. omega (arith, z)), le-ltb q 9 (omega arith), ne_eqb q 9 (λ z. omega (arith, z)), ne_eqb q 10 (λ z. omega (arith, z)), le-ltb q 19 (omega arith), ne_eqb q 19 (λ z. omega (arith, z)), ne_eqb b 0 (λ z. omega (arith, z, one)), lt-ltb q 28 in_reach)

one_is_bit : (b : ℕ) → is_one b ≡ true → is_bit b ≡ true
one_is_bit b one_there = lt-ltb b 2 (omega (arith, eqb-true b 1 one_there))

-- where ten bits stand behind a 1
module _ (s : List ℕ) (len i past n : ℕ) (stands : TenAt s i n) (top : 2147483647 < past) (small : past < 4294967296) where
  -- the first, eight others, and the tenth, and the number that they make
  record Parts : Type 0 where
    first : get_or s i 0 < 2
    last : get_or s (i + 1 + 8) 0 < 2
    inner : every is_bit (span s (i + 1) 8) ≡ true
    low : value (span s (i + 1) 8) < 256
    number : n ≡ get_or s i 0 + 2 * (value (span s (i + 1) 8) + get_or s (i + 1 + 8) 0 * 256)
    heard : after_ten past n ≡ hearing past (span s i 10)

  parts : Parts
  unfolding span
  parts =
      let tests = every_first s is_bit 9 i stands.bits in
      let ends = every_last s is_bit 8 (i + 1) tests.1 in
      record {
        first = ltb-true _ 2 tests.0;
        last = ltb-true _ 2 ends.1;
        inner = ends.0;
        low = value_small s 8 (i + 1) ends.0;
        number = omega (arith, stands.number, value_last s 8 (i + 1));
        heard = ap (after_ten past) stands.number ∙ sym (hearing_number (span s i 10) past 4194304 refl);
      }

  not_cj : (n ≡ 512 → ⊥) → hearing past (span s i 10) / 4 ≡ value line.cj → ⊥
  not_cj other ends =
      let word : after_ten past n / 4 ≡ 537395712 = ap (λ (x : ℕ). x / 4) parts.heard ∙ ends ∙ cj_number in
      other (omega arith)

  -- an octet in its frame is stored
  pub octet_leap : is_stored n (after_ten past n) len ≡ true → advanced (full past 10) len (drop i s) i ≡ reached (after_ten past n) 10 3 (i + 10)
  unfolding placed bounded stopped when is_stored
  octet_leap stored =
      let split = parts in
      let shape = both_true (eqb (n % 2) 0) _ stored in
      let more = both_true (ltb 512 n) _ shape.1 in
      let most = both_true (ltb len 64) _ more.1 in
      let even = eqb-true (n % 2) 0 shape.0 in
      let high = ltb-true 512 n more.0 in
      let room = ltb-true len 64 most.0 in
      let good = not-true _ most.1 in
      let start : get_or s i 0 ≡ 0 = omega (arith, split.first, split.number) in
      let stop : get_or s (i + 1 + 8) 0 ≡ 1 = omega (arith, split.last, split.low, split.number) in
      let fine : bad (octet_of (hearing past (span s i 10))) ≡ false = ap (λ (x : ℕ). bad (octet_of x)) (sym split.heard) ∙ good in
      ten s len is_bit (λ b e. e) 11 19 (octet_onwards len) i past 10 11 10 3 stands.room stands.bits top small (simp (eq-eqb _ _ start)) (lit≤ tt) (lit≤ tt) split.inner
      (simp (ne_eqb (get_or s (i + 1 + 8) 0) 0 (λ z. omega (arith, z, stop)), fine, ne_eqb len 64 (λ z. omega (arith, z)))) (λ z. omega (arith, z)) (not_cj (λ z. omega (arith, z)))
      ∙ ap (λ (x : ℕ). reached x 10 3 (i + 10)) (sym split.heard)

  -- ten 1s at a boundary end the message
  pub ending_leap : n ≡ 1023 → advanced (full past 10) len (drop i s) i ≡ reached (after_ten past n) 0 4 (i + 10)
  unfolding placed bounded ended when
  ending_leap ones =
      let split = parts in
      let start : get_or s i 0 ≡ 1 = omega (arith, split.first, split.number) in
      let stop : get_or s (i + 1 + 8) 0 ≡ 1 = omega (arith, split.first, split.last, split.low, split.number) in
      let inner = all_ones s 8 (i + 1) split.inner (omega (arith, split.first, split.last, split.number)) in
      ten s len is_one one_is_bit 20 28 (ending_onwards len) i past 10 20 0 4 stands.room stands.bits top small (simp (ne_eqb (get_or s i 0) 0 (λ z. omega (arith, z, start)))) (lit≤ tt) (lit≤ tt) inner
      (simp (ne_eqb (get_or s (i + 1 + 8) 0) 0 (λ z. omega (arith, z, stop)))) (λ z. omega (arith, z)) (not_cj (λ z. omega (arith, z, ones)))
      ∙ ap (λ (x : ℕ). reached x 0 4 (i + 10)) (sym split.heard)

  -- a menu sync behind ten 1s
  pub sync_leap : last_ten past ≡ 1023 → n ≡ 960 → advanced (full past 0) len (drop i s) i ≡ reached (after_ten past n) 10 2 (i + 10)
  unfolding placed hunted synced when both
  sync_leap ones menu =
      let split = parts in
      let start : get_or s i 0 ≡ 0 = omega (arith, split.first, split.number) in
      let word : last_ten (hearing past (span s i 10)) ≡ 960 = ap last_ten (sym split.heard) ∙ omega arith in
      ten s len is_bit (λ b e. e) 1 9 (sync_onwards len) i past 0 1 10 2 stands.room stands.bits top small (simp (eq-eqb _ _ start, eq-eqb _ _ ones)) (lit≤ tt) (lit≤ tt) split.inner
      (simp (ne_eqb (last_ten (hearing past (span s i 10))) 512 (λ z. omega (arith, z, word)), eq-eqb _ _ word)) (λ z. omega (arith, z)) (not_cj (λ z. omega (arith, z, menu)))
      ∙ ap (λ (x : ℕ). reached x 10 2 (i + 10)) (sym split.heard)
