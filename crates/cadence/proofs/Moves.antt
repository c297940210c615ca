-- A cadence stays in range: at its start, with a tone that is remembered, and however many bits are given out of it.
-- Assumes nothing.
use Prim.Native.Nat.{ℕ, ◌+◌, ◌%◌, ◌<◌, ◌≤◌}
use native.Mathlib.Nat.{mod-lt, mod-eq_of_lt}
use native.Mathlib.Omega.{arith}
use mathlib.Core.Path.{◌≡◌, refl, ap, ◌∙◌}
use mathlib.Core.Bool.{true}
use borrow.Author.Tests.{ltb-true}
use lib.Dec.{ltb, leb}
use Rattle.laws.specs.Logic.{when}
use Rattle.laws.proofs.Logic.{either_way}
use Rattle.cadence.specs.declared.Cadence.{Cadence}
use Rattle.cadence.specs.Cadence.{is_function, is_cadence, period}
use Rattle.cadence.specs.Giving.{cadence_fits, begun, remembering, moved_on}
use Rattle.cadence.proofs.Ranges.{fits_are, are_fits, cadence_lasts, place_stands, stands_place}

-- at its start
pub begun_fits : (function on off : ℕ) → is_function function ≡ true → is_cadence on off ≡ true → cadence_fits (begun function on off) ≡ true
begun_fits function on off named lasting =
    let lasts = cadence_lasts on off lasting in
    are_fits (begun function on off) (record { function = named; cadence = lasting; tone = refl; place = stands_place 0 0 (period on off) (record { within = omega (arith, lasts.long); counted = omega arith; begins = λ _. refl }) })

-- with a tone
pub remembering_fits : (c : Cadence) (tone : ℕ) → cadence_fits c ≡ true → leb tone 2 ≡ true → cadence_fits (remembering c tone) ≡ true
remembering_fits c tone inside is = let f = fits_are c inside in are_fits (remembering c tone) (record { function = f.function; cadence = f.cadence; tone = is; place = f.place })

-- how many bits were sent, counted up to 90
abbrev counted : ℕ → ℕ → ℕ
counted sent n = when (ltb (sent + n) 90) (sent + n) 90

counted_most : (sent n : ℕ) → counted sent n ≤ 90
counted_most sent n = either_way (λ (v : ℕ). v ≤ 90) (ltb (sent + n) 90) (sent + n) 90 (λ t. omega (arith, ltb-true (sent + n) 90 t)) (λ _. omega arith)

place_counted : (place sent n end : ℕ) → (sent < 90 → place ≡ sent) → 90 ≤ end → counted sent n < 90 → (place + n) % end ≡ counted sent n
place_counted place sent n end begins long =
    either_way (λ (v : ℕ). v < 90 → (place + n) % end ≡ v) (ltb (sent + n) 90) (sent + n) 90
    (λ t _.
    let few = ltb-true (sent + n) 90 t in
    let same : place + n ≡ sent + n = ap (λ (p : ℕ). p + n) (begins (omega (arith, few))) in
    mod-eq_of_lt (omega (arith, same, few, long)) ∙ same)
    (λ _ z. absurd (let w : ⊥ = omega (arith, z) in w))

-- and any number of bits further on
pub moved_fits : (c : Cadence) (n : ℕ) → cadence_fits c ≡ true → cadence_fits (moved_on c n) ≡ true
unfolding moved_on
moved_fits c n inside =
    let f = fits_are c inside in
    let lasts = cadence_lasts c.on c.off f.cadence in
    let stands = place_stands c.place c.sent (period c.on c.off) f.place in
    are_fits (moved_on c n) (record {
      function = f.function;
      cadence = f.cadence;
      tone = f.tone;
      place = stands_place ((c.place + n) % period c.on c.off) (counted c.sent n) (period c.on c.off) (record {
        within = mod-lt (c.place + n) (omega (arith, lasts.long));
        counted = counted_most c.sent n;
        begins = place_counted c.place c.sent n (period c.on c.off) stands.begins (omega (arith, lasts.some));
      });
    })
