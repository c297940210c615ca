-- What an act leaves, by what it asks; and that the two parts of a bit are the bit.
-- Assumes nothing.
use Prim.Native.Nat.{ℕ, ◌<◌}
use native.Mathlib.Omega.{arith}
use mathlib.Core.Path.{◌≡◌, refl, ap}
use mathlib.Core.Bool.{Bool, true, false}
use borrow.Author.Tests.{lt-ltb, eq-eqb, ne_eqb}
use Rattle.laws.specs.Logic.{when}
use Rattle.framing.specs.Framing.{octet_of, start_ci, start_menu, store, report, refusal_act, refusal_in, stay, turned_by}
use Rattle.listening.specs.declared.Message.{Message}
use Rattle.listening.specs.declared.Listener.{Listener}
use Rattle.listening.specs.Record.{in_range}
use Rattle.listening.specs.Hearing.{stored, changed, reported, told, told_alone, messages_after, acted, refused_bit, heard_in, heard_bit, ear_turned}

-- only the first three acts touch the message being heard
pub changed_not : (m : Message) (act past : ℕ) → (act ≡ start_ci → ⊥) → (act ≡ start_menu → ⊥) → (act ≡ store → ⊥) → changed m act past ≡ m
unfolding changed when
changed_not m act past not-ci not-menu not-store = simp (ne_eqb _ _ not-ci, ne_eqb _ _ not-menu, ne_eqb _ _ not-store)

-- and the third stores an octet
pub changed_store : (m : Message) (act past : ℕ) → act ≡ store → changed m act past ≡ stored m (octet_of past)
unfolding changed when
changed_store m act past e = ap (λ (a : ℕ). changed m a past) e

-- a report makes the message the one reported last, and the others touch the message alone
module _ (m last : Message) (act past : ℕ) where
  pub messages_report : act ≡ report → record { msg = m; last = m } ≡ messages_after m last act past
  unfolding when
  messages_report e =
      let kept : changed m act past ≡ m = changed_not m act past (λ z. omega (arith, e, z)) (λ z. omega (arith, e, z)) (λ z. omega (arith, e, z)) in
      simp (eq-eqb _ _ e, kept)

  pub messages_other : (act ≡ report → ⊥) → record { msg = changed m act past; last = last } ≡ messages_after m last act past
  unfolding when
  messages_other n = simp (ne_eqb _ _ n)

-- what a report tells, and what the others do
module _ (act : ℕ) (m last : Message) where
  pub told_report : act ≡ report → told act m last ≡ reported m last
  unfolding told when
  told_report e = simp (eq-eqb _ _ e)

  pub told_other : (act ≡ report → ⊥) → told act m last ≡ told_alone act
  unfolding told when
  told_other n = simp (ne_eqb _ _ n)

-- a byte that is no bit is refused, and the record keeps its value
pub heard_not_a_bit : (rec : Listener) (bit : ℕ) → 1 < bit → heard_in rec bit ≡ refused_bit 1 rec
unfolding heard_in acted changed told told_alone when refusal_in
heard_not_a_bit rec bit high = simp (lt-ltb 1 bit high)

-- an ear that is turned in range, and an act upon what that leaves, are the bit
module _ (rec : Listener) (bit : ℕ) where
  by_range : (within : Bool) → in_range rec ≡ within
      → acted rec (when within (turned_by rec.ear rec.msg.len bit) (stay rec.ear (refusal_act 10))) ≡ when within (heard_in rec bit) (refused_bit 10 rec)
  unfolding heard_in acted changed told told_alone when refusal_in
  by_range true e = refl
  by_range false e = refl

  pub parts_heard : acted rec (ear_turned rec.ear rec.msg.kind rec.msg.len rec.last.kind rec.last.len bit) ≡ heard_bit rec bit
  unfolding ear_turned
  parts_heard = by_range (in_range rec) refl
