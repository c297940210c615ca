-- Two results that meet what is laid down for giving bits out are equal.
-- Assumes nothing.
use mathlib.Core.Path.{◌≡◌, sym, ap₂, ◌∙◌}
use mathlib.Core.List.{List}
use Prim.Native.Nat.{ℕ}
use Rattle.std.specs.Prelude.{Result}
use Rattle.refusals.specs.declared.Refusal.{Refusal}
use Rattle.refusals.proofs.Outcomes.{says_wrote_injective}
use Rattle.cadence.specs.declared.Cadence.{Cadence}
use Rattle.cadence.specs.declared.Given.{Given}
use Rattle.cadence.specs.Giving.{GiveOutcome, Gives}

pub gives_unique : (laid : GiveOutcome) (a b : Given) (after before : List ℕ) → Gives laid a after → Gives laid b before → (a ≡ b) × (after ≡ before)
gives_unique laid a b after before p q =
    let answer = says_wrote_injective a.answer b.answer (p.answer ∙ sym q.answer) in
    let cadence = p.cadence ∙ sym q.cadence in
    (ap₂ (λ (c : Cadence) (w : Result ℕ Refusal). record { cadence = c; answer = w }) cadence answer, p.buffer ∙ sym q.buffer)
