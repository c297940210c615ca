-- What an accepted record has: its home function. So no mistake is found in it.
-- Assumes nothing.
use Rattle.std.proofs.Common.{◌≡◌, ℕ, zero, suc, ◌%◌, ◌<◌, Bool, true, false, eqb, None, refl, arith, ne_eqb, eqb-true}
use Rattle.laws.specs.Logic.{when, either}
use Rattle.laws.proofs.Logic.{clash}
use Rattle.records.specs.declared.Record.{Record}
use Rattle.records.specs.Record.{modes_at, in_use, bad_flags, any_bad, bad_record}
use Rattle.plans.specs.declared.Plan.{Plan}
use Rattle.plans.specs.Reading.{home, set_at, record_of, record_mistake}
use Rattle.plans.specs.Good.{GoodEnd}

-- the home function is available
module _ (own : Record) (accepted : bad_record own ≡ false) where
  home_had : (in_use own own.home).available ≡ 1
  unfolding bad_record when
  home_had = go (eqb (in_use own own.home).available 1) refl accepted
    where
      go : (t : Bool) → eqb (in_use own own.home).available 1 ≡ t → when t (either (bad_flags own) (any_bad own.functions)) true ≡ false → (in_use own own.home).available ≡ 1
      go true is-had e = eqb-true (in_use own own.home).available 1 is-had
      go false is-had e = clash e

  -- and so is one
  home_some : 0 < own.home
  unfolding modes_at
  home_some = go own.home home_had
    where
      go : (f : ℕ) → (modes_at own.functions f).available ≡ 1 → 0 < f
      go zero had = absurd (omega (arith, had))
      go (suc f) had = omega arith

  pub no_mistake : record_mistake own ≡ None
  unfolding record_mistake when
  no_mistake = simp (ne_eqb own.home 0 (λ e. omega (arith, e, home_some)), home_had, accepted)

pub has_home : (plan : Plan) (end : ℕ) → GoodEnd plan end → (0 < set_at plan end home) × (set_at plan end home % 8 ≡ set_at plan end home)
unfolding record_of
has_home plan end good =
    let some : 0 < set_at plan end home % 8 = home_some (record_of plan end) good.accepted in
    (omega (arith, some), omega (arith, good.home_function))
