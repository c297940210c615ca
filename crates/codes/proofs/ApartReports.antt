-- No two reports share a number and a span: each is found again from both, where a refusal has a number.
-- Assumes nothing.
use Prim.Native.Nat.{ℕ, zero, suc}
use mathlib.Core.Path.{◌≡◌, refl, sym, ap₂, ◌∙◌}
use mathlib.Core.Bool.{Bool, true, false}
use lib.Dec.{ltb, eqb}
use lib.IntN.{ℤ, pos, negsuc}
use Rattle.laws.specs.Logic.{when}
use Rattle.laws.proofs.Logic.{clash}
use Rattle.listening.specs.Hearing.{Told, silence, ci, menu, cj}
use Rattle.listening.specs.Hearing as hearing
use Rattle.codes.specs.Hearing.{told_code, told_span}

-- a report that is known by its number
abbrev pub known_report : Told → Bool
known_report silence = true
known_report (ci span) = true
known_report (menu agreed span) = true
known_report cj = true
known_report (hearing.refusal n) = ltb 0 n

abbrev report_from : ℤ → ℕ → Told
report_from (pos n) span = when (eqb n 0) silence (when (eqb n 1) (ci span) (when (eqb n 2) (menu false span) (when (eqb n 3) (menu true span) cj)))
report_from (negsuc n) span = hearing.refusal (suc n)

report_back : (t : Told) → known_report t ≡ true → report_from (told_code t) (told_span t) ≡ t
unfolding when
report_back silence known = refl
report_back (ci span) known = refl
report_back (menu false span) known = refl
report_back (menu true span) known = refl
report_back cj known = refl
report_back (hearing.refusal zero) known = clash (sym known)
report_back (hearing.refusal (suc n)) known = refl

pub told_code_injective : (t u : Told) → known_report t ≡ true → known_report u ≡ true → told_code t ≡ told_code u → told_span t ≡ told_span u → t ≡ u
told_code_injective t u p q e alike = sym (report_back t p) ∙ ap₂ report_from e alike ∙ report_back u q
