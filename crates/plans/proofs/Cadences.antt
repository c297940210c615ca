-- The numbers of a cadence: what its test says of each.
-- Assumes nothing.
use Rattle.std.proofs.Common.{◌≡◌, ℕ, ◌≤◌, true, leb, le-leb, leb-true}
use Rattle.laws.specs.Logic.{both}
use Rattle.laws.proofs.Logic.{both_true}
use Rattle.cadence.specs.Cadence.{is_cadence}

pub record InRange (on off : ℕ) : Type 0 where
  pub least_on : 3 ≤ on
  pub most_on : on ≤ 20
  pub least_off : 120 ≤ off
  pub most_off : off ≤ 600

pub in_range_lem : (on off : ℕ) → is_cadence on off ≡ true → InRange on off
in_range_lem on off is =
    let first = both_true (leb 3 on) (both (leb on 20) (both (leb 120 off) (leb off 600))) is in
    let second = both_true (leb on 20) (both (leb 120 off) (leb off 600)) first.1 in
    let third = both_true (leb 120 off) (leb off 600) second.1 in
    record { least_on = leb-true 3 on first.0; most_on = leb-true on 20 second.0; least_off = leb-true 120 off third.0; most_off = leb-true off 600 third.1 }

-- the on period of one cadence and the off period of another are a cadence
pub both_periods : (on off on' off' : ℕ) → is_cadence on off' ≡ true → is_cadence on' off ≡ true → is_cadence on off ≡ true
unfolding both
both_periods on off on' off' is-on is-off =
    let first = in_range_lem on off' is-on in
    let second = in_range_lem on' off is-off in
    simp (le-leb 3 on first.least_on, le-leb on 20 first.most_on, le-leb 120 off second.least_off, le-leb off 600 second.most_off)
