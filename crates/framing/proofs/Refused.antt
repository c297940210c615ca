-- What a bit asks for is no refusal, or one of five: by the place of the bit in the framing.
-- Assumes nothing.
use Prim.Native.Nat.{ℕ, ◌≤◌}
use mathlib.Core.Path.{◌≡◌, sym, subst}
use lib.Dec.{ltb, eqb, lit≤}
use Rattle.laws.specs.Logic.{when, both}
use Rattle.laws.proofs.Logic.{either_way}
use Rattle.octets.specs.declared.Kind.TheVariants.{Ci, Menu}
use Rattle.sequences.specs.Line.{ten_ones}
use Rattle.framing.specs.declared.Ear.{Ear}
use Rattle.framing.specs.declared.Turned.{Turned}
use Rattle.framing.specs.Framing.{value, last_ten, hunting, in_sync, tell_cj, refusal_act, hunted, turned, stay, turned_by}
use Rattle.framing.proofs.Places.{Places, hunts, inside_sync_lem, accepts, passes_over, opens_octet, opens_end, inside_octet_lem, stop_zero_lem, stores, inside_end, reports, turning, Turns, tells_cj_lem, is_placed, turned_as}
use Rattle.framing.proofs.Places as placing

module _ (ear : Ear) (bit : ℕ) where
  -- the bit is in the past, and the next is at this place
  abbrev pub heard_at : ℕ → ℕ → Turned
  heard_at place n = turning ear bit place (refusal_act n)

  -- hunting, or in a sync that this bit starts
  abbrev pub hunted_again : ℕ
  hunted_again = when (eqb (last_ten ear.past) (value ten_ones)) in_sync hunting

  pub data Refuses : Turned → Type 0 where
    fine : {t : Turned} → t.act ≤ tell_cj → Refuses t
    no_bit_lem : Refuses (stay ear (refusal_act 1))
    stop_bit : Refuses (heard_at hunting 2)
    bad_octet_lem : Refuses (heard_at hunting 3)
    too_many : Refuses (heard_at hunting 4)
    cut_short : Refuses (heard_at hunted_again 13)

  hunted_zero : bit ≡ 0 → hunted ear.past bit ≡ hunted_again
  unfolding hunted both
  hunted_zero zero = simp zero

  by_place : {past len to act : ℕ} → Places ear.place ear.past past len bit to act → Refuses (turning ear bit to act)
  by_place (hunts at) = fine (lit≤ tt)
  by_place (inside_sync_lem some few) = fine (lit≤ tt)
  by_place (accepts Ci at word) = fine (lit≤ tt)
  by_place (accepts Menu at word) = fine (lit≤ tt)
  by_place (passes_over at not-ci not-menu) = fine (lit≤ tt)
  by_place (opens_octet at is_zero) = fine (lit≤ tt)
  by_place (opens_end at one) = fine (lit≤ tt)
  by_place (inside_octet_lem some few) = fine (lit≤ tt)
  by_place (stop_zero_lem at is_zero) = stop_bit
  by_place (placing.bad_octet_lem at one is-bad) = bad_octet_lem
  by_place (placing.too_many at one full) = too_many
  by_place (stores at one fits room) = fine (lit≤ tt)
  by_place (placing.cut_short some is_zero) = subst (λ (next : ℕ). Refuses (heard_at next 13)) (sym (hunted_zero is_zero)) cut_short
  by_place (inside_end some few one) = fine (lit≤ tt)
  by_place (reports late one) = fine (lit≤ tt)

  by_turn : {len to act : ℕ} → Turns ear len bit to act → Refuses (turning ear bit to act)
  by_turn (tells_cj_lem e) = fine (lit≤ tt)
  by_turn (is_placed e p) = by_place p

  -- whatever byte comes
  pub refuses : (len : ℕ) → Refuses (turned_by ear len bit)
  refuses len =
      let turn = turned_as ear len bit in
      either_way Refuses (ltb 1 bit) (stay ear (refusal_act 1)) (turned ear len bit) (λ _. no_bit_lem) (λ _. subst Refuses (sym turn.is) (by_turn turn.by))
