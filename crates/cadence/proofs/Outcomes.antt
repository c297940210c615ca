-- What is given out of a cadence in range, from what the code finds of it.
-- Assumes nothing.
use Prim.Native.Nat.{ℕ, ◌+◌, ◌%◌}
use mathlib.Core.Path.{◌≡◌, refl, ap, ◌∙◌}
use mathlib.Core.Bool.{true}
use mathlib.Core.List.{List}
use lib.Dec.{ltb}
use lib.ListN.{length}
use Rattle.laws.specs.Logic.{when}
use Rattle.laws.specs.Front.{front}
use Rattle.std.specs.Prelude.{Ok}
use Rattle.cadence.specs.declared.Cadence.{Cadence}
use Rattle.cadence.specs.Cadence.{on_bits}
use Rattle.cadence.specs.Giving.{cadence_fits, due, moved_on, Gives, giving, given}
use Rattle.cadence.specs.Inner.{ci_number, bits_here}
use Rattle.cadence.proofs.Ranges.{fits_are, function_small}
use Rattle.cadence.proofs.Bits.{found_bits}

-- a cadence in range gives what is due
pub given_in : (c : Cadence) (out : List ℕ) → cadence_fits c ≡ true → given c out ≡ giving c (due c (length out)) out
unfolding given when
given_in c out inside = simp inside

pub gives_these : (c : Cadence) (out after : List ℕ) (n place sent on ci : ℕ) → cadence_fits c ≡ true → n ≡ due c (length out) → on ≡ on_bits c.on → ci ≡ ci_number c.function
    → place ≡ (c.place + n) % (on + c.off) → sent ≡ when (ltb (c.sent + n) 90) (c.sent + n) 90 → after ≡ front (bits_here ci on (on + c.off) c.place n) out
    → Gives (given c out) (record { cadence = record { off = c.off; place = place; on = c.on; function = c.function; sent = sent; tone = c.tone }; answer = Ok n }) after
unfolding moved_on
gives_these c out after n place sent on ci inside n-is on-is ci_is place_is sent_is after_is =
    let bits = found_bits c.function c.on c.off c.place n (function_small c.function (fits_are c inside).function) in
    rw (given_in c out inside, ← n-is) (record {
      answer = refl;
      buffer = after_is ∙ rw (ci_is, on-is) (ap (λ (l : List ℕ). front l out) bits);
      cadence = rw (place_is, sent_is, on-is) refl;
    })
