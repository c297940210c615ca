-- What is laid down for a call that writes, by which test refuses it first; and that no two results meet it, since an answer is known by what it
-- says.
-- Assumes nothing.
use Prim.Native.Nat.{ℕ, suc, ◌<◌, ◌≤◌}
use native.Mathlib.Omega.{arith}
use mathlib.Core.Path.{◌≡◌, refl, sym, ap, ◌∙◌}
use mathlib.Core.List.{List}
use borrow.Author.Tests.{lt-ltb, le-ltb, eq-eqb, ne_eqb, eqb-true}
use lib.Dec.{eqb}
use lib.ListN.{length, take, drop}
use lib.Seq.{take_at}
use Rattle.laws.specs.Logic.{when}
use Rattle.laws.specs.Front.{front}
use Rattle.laws.proofs.Logic.{either_way}
use Rattle.refusals.specs.declared.Refusal.{Refusal}
use Rattle.refusals.specs.declared.Refusal.TheVariants.{ShortBuffer}
use Rattle.std.specs.Prelude.{Result, Ok, Err}
use Rattle.refusals.specs.Refusals.{number, before}
use Rattle.refusals.specs.Lent.{Said, count, refusal, says_wrote, WriteOutcome, room_fault, put, Meets}
use Rattle.refusals.proofs.Numbers.{named, named_number, number_some}

module _ (new out : List ℕ) where
  -- by the room
  pub meets_short : length out < length new → Meets (put (room_fault new out) new out) (Err ShortBuffer) out
  unfolding put when
  meets_short h = record { answer = simp (lt-ltb _ _ h); buffer = simp (lt-ltb _ _ h) }

  pub meets_put : (n : ℕ) (after : List ℕ) → length new ≤ length out → n ≡ length new → after ≡ front new out → Meets (put (room_fault new out) new out) (Ok n) after
  unfolding put when
  meets_put n after h e f = record { answer = simp (le-ltb _ _ h) (ap count e); buffer = simp (le-ltb _ _ h) f }

  -- and by a test that comes first
  module _ (f g : ℕ) where
    pub meets_refused : (r : Refusal) → number r ≡ f → Meets (put (before f g) new out) (Err r) out
    unfolding put when
    meets_refused r e =
        let some = ne_eqb f 0 (λ z. number_some r (e ∙ z)) in
        record { answer = simp some (ap refusal e); buffer = simp some }

    pub meets_accepted : (r : Result ℕ Refusal) (after : List ℕ) → f ≡ 0 → Meets (put g new out) r after → Meets (put (before f g) new out) r after
    unfolding when
    meets_accepted r after e m = simp (eq-eqb _ _ e) m

-- where a call says that it wrote, nothing was refused, it counted what it wrote, and that stands at the front
abbrev count_said : Said → ℕ
count_said (count n) = suc n
count_said (refusal n) = 0

pub record Counted (f : ℕ) (new : List ℕ) (size : ℕ) (o : WriteOutcome) : Type 0 where
  pub fine : f ≡ 0
  pub all : size ≡ length new
  pub stands : take size o.buffer ≡ new

pub counted : (f : ℕ) (new out : List ℕ) (size : ℕ) → (put f new out).answer ≡ count size → Counted f new size (put f new out)
unfolding put
counted f new out size =
    either_way (λ (o : WriteOutcome). o.answer ≡ count size → Counted f new size o) (eqb f 0) (record { answer = count (length new); buffer = front new out }) (record { answer = refusal f; buffer = out })
    (λ accepted said.
    let all : size ≡ length new = omega (arith, ap count_said said) in
    record { fine = eqb-true f 0 accepted; all = all; stands = take_at new (drop (length new) out) size (sym all) })
    (λ _ said. absurd (let z : ⊥ = omega (arith, ap count_said said) in z))

-- no two answers say the same
abbrev saying : Said → Result ℕ Refusal
saying (count n) = Ok n
saying (refusal n) = Err (named n)

said : (r : Result ℕ Refusal) → saying (says_wrote r) ≡ r
said (Ok n) = refl
said (Err r) = ap Err (named_number r)

pub says_wrote_injective : (r s : Result ℕ Refusal) → says_wrote r ≡ says_wrote s → r ≡ s
says_wrote_injective r s e = sym (said r) ∙ ap saying e ∙ said s

-- two results that meet what is laid down are equal
pub meets_unique : (laid : WriteOutcome) (r s : Result ℕ Refusal) (after before : List ℕ) → Meets laid r after → Meets laid s before → (r ≡ s) × (after ≡ before)
meets_unique laid r s after before p q = (says_wrote_injective r s (p.answer ∙ sym q.answer), p.buffer ∙ sym q.buffer)
