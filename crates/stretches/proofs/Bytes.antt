-- Bytes that are no bits leave a record as it was, so what is heard is what the bits among them are heard as.
-- Assumes nothing.
use Prim.Native.Nat.{ℕ, ◌<◌}
use native.Mathlib.Omega.{arith}
use mathlib.Core.Path.{◌≡◌, refl, ap, ◌∙◌}
use mathlib.Core.Bool.{true}
use mathlib.Core.List.{List, [], ◌∷◌, ◌++◌}
use borrow.Author.Tests.{le-ltb, ltb-true, ltb-false}
use lib.Dec.{ltb}
use Rattle.laws.specs.Logic.{when}
use Rattle.laws.proofs.Logic.{either_way}
use Rattle.listening.specs.declared.Listener.{Listener}
use Rattle.listening.specs.Hearing.{HearOutcome, heard_bit}
use Rattle.listening.specs.Record.{in_range}
use Rattle.listening.proofs.Acts.{heard_not_a_bit}
use Rattle.listening.proofs.Ranges.{heard_range, heard_inside}
use Rattle.stretches.specs.Hearing.{once_heard}
use Rattle.stretches.specs.Heard.{bits_in}
use Rattle.stretches.proofs.Each.{none, more as also, Bits}

pub bits_line : (bytes : List ℕ) (rec : Listener) → in_range rec ≡ true → once_heard rec bytes ≡ once_heard rec (bits_in bytes)
unfolding once_heard bits_in
bits_line [] rec range = refl
bits_line (byte ∷ bytes) rec range =
    either_way (λ (bits : List ℕ). once_heard (heard_bit rec byte).rec bytes ≡ once_heard rec bits) (ltb 1 byte) (bits_in bytes) (byte ∷ bits_in bytes)
    (λ high. ap (λ (o : HearOutcome). once_heard o.rec bytes) (heard_inside rec byte range ∙ heard_not_a_bit rec byte (ltb-true 1 byte high)) ∙ bits_line bytes rec range)
    (λ low. bits_line bytes (heard_bit rec byte).rec (heard_range rec byte range))

pub bits_among : (bytes : List ℕ) → Bits (bits_in bytes)
unfolding bits_in
bits_among [] = none
bits_among (byte ∷ bytes) =
    either_way Bits (ltb 1 byte) (bits_in bytes) (byte ∷ bits_in bytes) (λ _. bits_among bytes) (λ low. also (omega (arith, ltb-false 1 byte low)) (bits_among bytes))

-- with one more bit
pub bits_behind : (bytes : List ℕ) (bit : ℕ) → bit < 2 → bits_in (bytes ++ bit ∷ []) ≡ bits_in bytes ++ bit ∷ []
unfolding bits_in when
bits_behind [] bit low = simp (le-ltb 1 bit (omega arith))
bits_behind (byte ∷ bytes) bit low =
    either_way (λ (bits : List ℕ). when (ltb 1 byte) (bits_in (bytes ++ bit ∷ [])) (byte ∷ bits_in (bytes ++ bit ∷ [])) ≡ bits ++ bit ∷ []) (ltb 1 byte) (bits_in bytes) (byte ∷ bits_in bytes)
    (λ high. simp high (bits_behind bytes bit low))
    (λ not-high. simp not-high (ap (λ (l : List ℕ). byte ∷ l) (bits_behind bytes bit low)))
