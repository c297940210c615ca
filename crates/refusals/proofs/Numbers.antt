-- A refusal is known by its number, and what a test answers by its fault: no two share one, since the refusal of a number is found in a list.
-- Assumes nothing.
use Prim.Native.Nat.{ℕ, ◌-◌}
use native.Mathlib.Omega.{arith}
use mathlib.Core.Path.{◌≡◌, refl, sym, ap, ◌∙◌}
use mathlib.Core.List.{[], ◌∷◌}
use lib.ListN.{get_or}
use Rattle.refusals.specs.declared.Refusal.{Refusal}
use Rattle.refusals.specs.declared.Refusal.TheVariants.{NotABit, StopBitZero, BadOctet, TooManyOctets, NoCallFunction, ShortBuffer, AfterOver, Clock, WrongEvent, BadRecord, NotOffered, WrongCategory, CutShort, BadBlock, BadPacking, BadCadence}
use mathlib.Core.Bool.{Bool, true, false}
use borrow.Author.Tests.{ne_eqb}
use lib.Dec.{eqb}
use Rattle.std.specs.Prelude.{Result, Ok, Err}
use Rattle.std.specs.Result.{is_ok}
use Rattle.refusals.specs.Refusals.{number, fault}

-- the refusal of a number
abbrev pub named : ℕ → Refusal
named n = get_or (NotABit ∷ StopBitZero ∷ BadOctet ∷ TooManyOctets ∷ NoCallFunction ∷ ShortBuffer ∷ AfterOver ∷ Clock ∷ WrongEvent ∷ BadRecord ∷ NotOffered ∷ WrongCategory ∷ CutShort ∷ BadBlock ∷ BadPacking ∷ BadCadence ∷ []) (n - 1) NotABit

pub named_number : (r : Refusal) → named (number r) ≡ r
named_number NotABit = refl
named_number StopBitZero = refl
named_number BadOctet = refl
named_number TooManyOctets = refl
named_number NoCallFunction = refl
named_number ShortBuffer = refl
named_number AfterOver = refl
named_number Clock = refl
named_number WrongEvent = refl
named_number BadRecord = refl
named_number NotOffered = refl
named_number WrongCategory = refl
named_number CutShort = refl
named_number BadBlock = refl
named_number BadPacking = refl
named_number BadCadence = refl

pub number_injective : (r s : Refusal) → number r ≡ number s → r ≡ s
number_injective r s e = sym (named_number r) ∙ ap named e ∙ named_number s

-- 0 is no refusal's number
pub number_some : (r : Refusal) → number r ≡ 0 → ⊥
number_some r e =
    let z : r ≡ NotABit = sym (named_number r) ∙ ap named e in
    omega (arith, ap number z, e)

pub fault_injective : (v w : Result Unit Refusal) → fault v ≡ fault w → v ≡ w
fault_injective (Ok t) (Ok u) e = refl
fault_injective (Ok t) (Err s) e = absurd (number_some s (sym e))
fault_injective (Err r) (Ok u) e = absurd (number_some r e)
fault_injective (Err r) (Err s) e = ap Err (number_injective r s e)

-- what is accepted has fault 0
pub is_ok_fault : (v : Result Unit Refusal) → is_ok v ≡ eqb (fault v) 0
is_ok_fault (Ok t) = refl
is_ok_fault (Err r) = sym (ne_eqb (number r) 0 (number_some r))
