-- What is left to send at ANSam or ANS: 90 bits at most, and less by every bit that is given out.
-- Assumes nothing.
use Prim.Native.Nat.{ℕ, ◌+◌, ◌-◌, ◌%◌, ◌<◌, ◌≤◌}
use native.Mathlib.Nat.{mod-eq_of_lt}
use native.Mathlib.Omega.{arith}
use mathlib.Core.Path.{◌≡◌, refl, ◌∙◌}
use mathlib.Core.Bool.{Bool, true, false}
use borrow.Author.Tests.{ltb-true, ltb-false, lt-ltb, le-ltb}
use lib.Dec.{ltb}
use Rattle.laws.specs.Logic.{when}
use Rattle.laws.proofs.Logic.{either_way}
use Rattle.cadence.specs.declared.Cadence.{Cadence}
use Rattle.cadence.specs.Cadence.{on_bits, period}
use Rattle.cadence.specs.Giving.{cadence_fits, left, moved_on}
use Rattle.cadence.proofs.Ranges.{fits_are, cadence_lasts, place_stands}

pub left_most : (c : Cadence) → left c ≤ 90
unfolding left
left_most c =
    either_way (λ (n : ℕ). n ≤ 90) (ltb c.sent 90) (90 - c.sent) _ (λ _. omega arith)
    (λ _. either_way (λ (n : ℕ). n ≤ 90) (ltb c.place (on_bits c.on)) ((30 - c.place % 30) % 30) 0 (λ _. omega arith) (λ _. omega arith))

-- up to the third sequence, in an on period, and in an off period
module _ (c : Cadence) where
  pub left_of_three : c.sent < 90 → left c ≡ 90 - c.sent
  unfolding left when
  left_of_three few = simp (lt-ltb c.sent 90 few)

  pub left_on : 90 ≤ c.sent → c.place < on_bits c.on → left c ≡ (30 - c.place % 30) % 30
  unfolding left when
  left_on sent on = simp (le-ltb c.sent 90 sent, lt-ltb c.place (on_bits c.on) on)

  pub left_off : 90 ≤ c.sent → on_bits c.on ≤ c.place → left c ≡ 0
  unfolding left when
  left_off sent off = simp (le-ltb c.sent 90 sent, le-ltb c.place (on_bits c.on) off)

module _ (c : Cadence) (n : ℕ) where
  moved_place : c.place + n < period c.on c.off → (moved_on c n).place ≡ c.place + n
  unfolding moved_on
  moved_place h = mod-eq_of_lt h

  sent_few : c.sent + n < 90 → (moved_on c n).sent ≡ c.sent + n
  unfolding moved_on when
  sent_few h = simp (lt-ltb (c.sent + n) 90 h)

  sent_all : 90 ≤ c.sent + n → (moved_on c n).sent ≡ 90
  unfolding moved_on when
  sent_all h = simp (le-ltb (c.sent + n) 90 h)

  moved_on_lem : (moved_on c n).on ≡ c.on
  unfolding moved_on
  moved_on_lem = refl

  -- every bit that is given out of what is left leaves one less
  module _ (inside : cadence_fits c ≡ true) (most : n ≤ left c) where
    abbrev rest : Cadence
    rest = moved_on c n

    -- at the end of a sequence nothing is left
    whole : (t : Bool) → ltb rest.place (on_bits rest.on) ≡ t → 90 ≤ rest.sent → (30 - rest.place % 30) % 30 ≡ 0 → left rest ≡ 0
    whole true is sent ends = left_on rest sent (ltb-true rest.place (on_bits rest.on) is) ∙ ends
    whole false is sent ends = left_off rest sent (ltb-false rest.place (on_bits rest.on) is)

    of_three : (few : Bool) → ltb (c.sent + n) 90 ≡ few → c.sent < 90 → left rest ≡ left c - n
    of_three true few less =
        let sent = sent_few (ltb-true (c.sent + n) 90 few) in
        left_of_three rest (omega (arith, sent, ltb-true (c.sent + n) 90 few)) ∙ (let z : 90 - rest.sent ≡ left c - n = omega (arith, sent, left_of_three c less) in z)
    of_three false all less =
        let f = fits_are c inside in
        let lasts = cadence_lasts c.on c.off f.cadence in
        let begins = (place_stands c.place c.sent (period c.on c.off) f.place).begins less in
        let ninety : c.sent + n ≡ 90 = omega (arith, ltb-false (c.sent + n) 90 all, most, left_of_three c less) in
        let there : rest.place ≡ 90 = omega (arith, moved_place (omega (arith, ninety, begins, lasts.some, lasts.long)), ninety, begins) in
        let none : 0 ≡ left c - n = omega (arith, ninety, left_of_three c less) in
        whole (ltb rest.place (on_bits rest.on)) refl (omega (arith, sent_all (omega (arith, ninety)))) (omega (arith, there)) ∙ none

    in_sequence : (t : Bool) → ltb rest.place (on_bits rest.on) ≡ t → c.place < on_bits c.on → left c ≡ (30 - c.place % 30) % 30 → rest.place ≡ c.place + n → rest.sent ≡ 90 → left rest ≡ left c - n
    in_sequence true on within until place sent =
        left_on rest (omega (arith, sent)) (ltb-true rest.place (on_bits rest.on) on) ∙ (let z : (30 - rest.place % 30) % 30 ≡ left c - n = omega (arith, until, place, most) in z)
    in_sequence false off within until place sent =
        left_off rest (omega (arith, sent)) (ltb-false rest.place (on_bits rest.on) off) ∙ (let z : 0 ≡ left c - n = omega (arith, until, place, most, within, moved_on_lem, ltb-false rest.place (on_bits rest.on) off) in z)

    of_sequence : (t : Bool) → ltb c.place (on_bits c.on) ≡ t → 90 ≤ c.sent → left rest ≡ left c - n
    of_sequence true on sent =
        let f = fits_are c inside in
        let lasts = cadence_lasts c.on c.off f.cadence in
        let within = ltb-true c.place (on_bits c.on) on in
        let until = left_on c sent within in
        let place = moved_place (omega (arith, within, until, most, lasts.long)) in
        let all = sent_all (omega (arith, sent)) in
        in_sequence (ltb rest.place (on_bits rest.on)) refl within until place all
    of_sequence false off sent =
        let none = left_off c sent (ltb-false c.place (on_bits c.on) off) in
        let f = fits_are c inside in
        let stands = (place_stands c.place c.sent (period c.on c.off) f.place).within in
        let stays = moved_place (omega (arith, none, most, stands)) in
        left_off rest (omega (arith, sent_all (omega (arith, sent)))) (omega (arith, stays, moved_on_lem, ltb-false c.place (on_bits c.on) off)) ∙ (let z : 0 ≡ left c - n = omega (arith, none) in z)

    by_sent : (few : Bool) → ltb c.sent 90 ≡ few → left rest ≡ left c - n
    by_sent true few = of_three (ltb (c.sent + n) 90) refl (ltb-true c.sent 90 few)
    by_sent false all = of_sequence (ltb c.place (on_bits c.on)) refl (ltb-false c.sent 90 all)

    pub left_moved : left rest ≡ left c - n
    left_moved = by_sent (ltb c.sent 90) refl
