-- An ear that is in range stays there whatever bit is heard: each way that a bit can take ends at a place of the framing.
-- Assumes nothing.
use Prim.Native.Nat.{ℕ, ◌≤◌, ◌+◌}
use native.Mathlib.Omega.{arith}
use mathlib.Core.Path.{◌≡◌}
use mathlib.Core.Bool.{true}
use borrow.Author.Tests.{leb-true, ltb-true}
use lib.Dec.{ltb, eqb, lit≤}
use Rattle.laws.specs.Logic.{both}
use Rattle.laws.proofs.Logic.{either_way, both_true}
use Rattle.octets.specs.declared.Kind.TheVariants.{Ci, Menu}
use Rattle.octets.specs.Octets.{bad}
use Rattle.sequences.specs.Line.{ten_ones, sync}
use Rattle.framing.specs.declared.Ear.{Ear}
use Rattle.framing.specs.declared.Placed.{Placed}
use Rattle.framing.specs.declared.Turned.{Turned}
use Rattle.framing.specs.Ranges.{ear_in_range}
use Rattle.framing.specs.Framing.{value, pushed, more, last_ten, octet_of, is_cj, hunting, in_sync, last_of_sync, boundary, in_octet, stop_position, ending_ones, last_of_ending, nothing, start_ci, start_menu, store, report, tell_cj, refusal_act, go, hunted, synced, bounded, stopped, ended, placed, turned, stay, turned_by}

-- the range of an ear, as facts
pub record EarFits (ear : Ear) : Type 0 where
  pub heard : ear.heard ≤ 30
  pub place : ear.place ≤ last_of_ending

pub ear_fits : (ear : Ear) → ear_in_range ear ≡ true → EarFits ear
ear_fits ear tested = let parts = both_true _ _ tested in record { heard = leb-true _ _ parts.0; place = leb-true _ _ parts.1 }

abbrev Within : Placed → Type 0
Within p = p.place ≤ last_of_ending

hunted_within : (before bit act : ℕ) → Within (go (hunted before bit) act)
unfolding hunted
hunted_within before bit act = either_way (λ (n : ℕ). n ≤ last_of_ending) (both (eqb bit 0) (eqb (last_ten before) (value ten_ones))) in_sync hunting (λ _. lit≤ tt) (λ _. lit≤ tt)

module _ (before past len bit : ℕ) where
  synced_within : Within (synced past)
  unfolding synced
  synced_within =
      either_way Within (eqb (last_ten past) (value (sync Ci))) (go boundary start_ci) _ (λ _. lit≤ tt)
      (λ _. either_way Within (eqb (last_ten past) (value (sync Menu))) (go boundary start_menu) (go hunting nothing) (λ _. lit≤ tt) (λ _. lit≤ tt))

  bounded_within : Within (bounded bit)
  unfolding bounded
  bounded_within = either_way Within (eqb bit 0) (go in_octet nothing) (go ending_ones nothing) (λ _. lit≤ tt) (λ _. lit≤ tt)

  stopped_within : Within (stopped past len bit)
  unfolding stopped
  stopped_within =
      either_way Within (eqb bit 0) (go hunting (refusal_act 2)) _ (λ _. lit≤ tt)
      (λ _. either_way Within (bad (octet_of past)) (go hunting (refusal_act 3)) _ (λ _. lit≤ tt)
      (λ _. either_way Within (eqb len 64) (go hunting (refusal_act 4)) (go boundary store) (λ _. lit≤ tt) (λ _. lit≤ tt)))

  ended_within : (place : ℕ) → place ≤ last_of_ending → Within (ended place before bit)
  unfolding ended
  ended_within place low =
      either_way Within (eqb bit 0) _ _ (λ _. hunted_within before bit (refusal_act 13))
      (λ _. either_way Within (ltb place last_of_ending) (go (place + 1) nothing) (go hunting report) (λ more-ones. omega (arith, ltb-true place last_of_ending more-ones)) (λ _. lit≤ tt))

  placed_within : (place : ℕ) → place ≤ last_of_ending → Within (placed place before past len bit)
  unfolding placed
  placed_within place low =
      either_way Within (eqb place hunting) _ _ (λ _. hunted_within before bit nothing)
      (λ _. either_way Within (ltb place last_of_sync) _ _ (λ in_sync_lem. omega (arith, ltb-true place last_of_sync in_sync_lem))
      (λ _. either_way Within (eqb place last_of_sync) _ _ (λ _. synced_within)
      (λ _. either_way Within (eqb place boundary) _ _ (λ _. bounded_within)
      (λ _. either_way Within (ltb place stop_position) _ _ (λ in_octet_lem. omega (arith, ltb-true place stop_position in_octet_lem))
      (λ _. either_way Within (eqb place stop_position) _ _ (λ _. stopped_within) (λ _. ended_within place low))))))

more_small : (heard : ℕ) → heard ≤ 30 → more heard ≤ 30
unfolding more
more_small heard low = either_way (λ (n : ℕ). n ≤ 30) (ltb heard 30) (heard + 1) heard (λ fewer. omega (arith, ltb-true heard 30 fewer)) (λ _. low)

turned_fits : (ear : Ear) (len bit : ℕ) → EarFits ear → EarFits (turned ear len bit).ear
unfolding turned
turned_fits ear len bit fits =
    let past = pushed ear.past bit in
    let next = placed ear.place ear.past past len bit in
    record {
      heard = more_small ear.heard fits.heard;
      place = either_way Within (is_cj past (more ear.heard)) (go hunting tell_cj) next (λ _. lit≤ tt) (λ _. placed_within ear.past past len bit ear.place fits.place);
    }

-- whatever byte comes
pub turned_by_fits : (ear : Ear) (len bit : ℕ) → EarFits ear → EarFits (turned_by ear len bit).ear
turned_by_fits ear len bit fits = either_way (λ (next : Turned). EarFits next.ear) (ltb 1 bit) (stay ear (refusal_act 1)) (turned ear len bit) (λ _. fits) (λ _. turned_fits ear len bit fits)
