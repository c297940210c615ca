-- `records::in_use` meets its contract: 0 and what lies past the sixth are no functions, and of the others the flag decides.
-- Assumes nothing.
use Rattle.std.proofs.Common.{arith, ℕ, ◌≡◌, ◌∙◌, sym, ap}
use borrow.Author.Tests.{eq-eqb, ne_eqb}
use Rattle.laws.specs.Logic.{when}
use Rattle.records.specs.declared.Modes.{Modes}
use Rattle.records.specs.Record.{no_modes, modes_at}
use Rattle.records.proofs.Functions.{modes_at_lem, modes_past}
use Rattle.records.proofs.in_use.Goals.{in_default-get-via-in-Some-get+else-modes-eq1, in_default-get-via-in_default-get}
use Rattle.records.proofs.in_use.Goals as goal

none : (modes : Modes) → (modes.available ≡ 0) × ((modes.pcm ≡ 0) × (modes.items ≡ 0)) → modes ≡ no_modes
none modes zero = go modes.available modes.pcm modes.items zero
  where
    go : (available pcm items : ℕ) → (available ≡ 0) × ((pcm ≡ 0) × (items ≡ 0)) → ◌≡◌ {A = Modes} (record { available = available; pcm = pcm; items = items }) no_modes
    go available pcm items zero = cc

pub returns-in_default : goal.returns-in_default
unfolding modes_at
returns-in_default c =
    let zero : c.args.function ≡ 0 = omega (arith, c.in_default.ensures) in
    none c.default.result c.default.ensures ∙ ap (λ (n : ℕ). modes_at c.args.own.functions n) (sym zero)

pub returns-in-Some-get : goal.returns-in-Some-get
unfolding when
returns-in-Some-get c =
    let place = c.in-Some.ensures in
    simp (modes_at_lem c.args.own.functions c.args.function place.0, ← place.1, ← c.in-Some-get.ensures.lookup.3.1 no_modes, eq-eqb _ 1 c.if-modes-eq1.true)

pub returns-in_default-get : goal.returns-in_default-get
unfolding when
returns-in_default-get c =
    let place = c.in-Some.ensures in
    none c.default-in_default-get.result c.default-in_default-get.ensures ∙ (elim c.in_default-get.branch [
      | in_default-get-via-in-Some-get+else-modes-eq1 w ↦
          simp (modes_at_lem c.args.own.functions c.args.function place.0, ← place.1, ← w.in-Some-get.ensures.lookup.3.1 no_modes, ne_eqb _ 1 w.if-modes-eq1.false)
      | in_default-get-via-in_default-get w ↦ sym (modes_past c.args.own.functions c.args.function (omega (arith, place, w.in_default-get.ensures.lookup)))
    ])
