-- What a text is that was read to its end.
-- Assumes nothing.
use Rattle.std.proofs.Common.{◌≡◌, ℕ, Option, Some, None, is_some, Ok, refl, ap, ◌∙◌}
use Rattle.laws.specs.Logic.{when}
use Rattle.plans.specs.declared.Reading.{Reading}
use Rattle.plans.specs.Reading.{finish_line, mistake, unless, missing, with_default, finished}
use Rattle.plans.specs.Inner.{lacking}

-- the end of a text
module _ (r last : Reading) (at : ℕ) (is_last : last ≡ finish_line r) where
  answered : finished r at ≡ unless (lacking last) at (Ok (with_default last.plan))
  unfolding finished lacking when
  answered = simp (← is_last) (go last.what)
    where
      go : (what : Option ℕ) → unless what at (unless (missing last.plan) at (Ok (with_default last.plan))) ≡ unless (when (is_some what) what (missing last.plan)) at (Ok (with_default last.plan))
      go (Some what) = refl
      go None = refl

  pub finish_wrong : (what : ℕ) → lacking last ≡ Some what → finished r at ≡ mistake what at
  finish_wrong what wrong = answered ∙ ap (λ (w : Option ℕ). unless w at (Ok (with_default last.plan))) wrong

  pub finish_right : lacking last ≡ None → finished r at ≡ Ok (with_default last.plan)
  finish_right right = answered ∙ ap (λ (w : Option ℕ). unless w at (Ok (with_default last.plan))) right
