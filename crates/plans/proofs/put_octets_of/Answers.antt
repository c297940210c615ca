-- `plans::put_octets_of` meets its contract. Invariant: the octets that are written and those of the rest of the text are all of them.
-- Assumes nothing.
use Rattle.std.proofs.Common.{◌≡◌, ℕ, ◌+◌, Option, List, [], ◌++◌, length, drop, sym, ap, ◌∙◌, subst, arith, w64, Fits, rules}
use Rattle.laws.specs.Logic.{when}
use Rattle.plans.specs.declared.Spot.{Spot}
use Rattle.plans.specs.Reading.{between, fresh, one_octet, octets_from, octets_in}
use Rattle.plans.proofs.Walk.{octets_on, octets_end}
use Rattle.plans.proofs.Writing.{fitted, fitted_none, Written, written_none, written_one, written_on, written_all}
use Rattle.plans.proofs.put_octets_of.Goals.{In-loop-i}
use Rattle.plans.proofs.put_octets_of.Goals.{in-Some, in_default}
use Rattle.plans.proofs.put_octets_of.Goals as goal

pub returns-then-is_err : goal.returns-then-is_err
unfolding octets_in when
returns-then-is_err c =
    let args = c.args in
    let none : octets_in args.end args.text.now ≡ [] = simp (← c.read-call.ensures, c.is_err.ensures.negation, c.if-is_err.true) in
    record { count = ap length (sym none); octets = sym (ap (λ (list : List ℕ). fitted list args.out.now) none ∙ fitted_none args.out.now) }

pub loop-i-init : goal.loop-i-init
loop-i-init c =
    let args = c.args in
    let all = octets_from args.end fresh between args.text.now in
    (subst (λ (spot : Spot). Written all (octets_from args.end spot.r spot.scan args.text.now) args.out.now args.out.now 0) (sym c.begin-spot.ensures) (written_none all args.out.now), search rules, search rules)

n_fits : (body : In-loop-i) → Fits w64 (body.loop-i.n + 1)
n_fits body = search rules

pub overflow_add-n : goal.overflow_add-n
overflow_add-n c = n_fits (goal.at.overflow_add-n c).In-loop-i

pub loop-i-preserved : goal.loop-i-preserved
loop-i-preserved c =
    let text = c.args.text.now in
    let i = c.loop-i.i in
    let more = c.loop-i-test.true in
    let rest = octets_from c.args.end c.step.new.spot.r c.step.new.spot.scan (drop (i + 1) text) in
    let on = octets_on text i more c.loop-i.spot.r c.loop-i.spot.scan c.step.new.spot.r c.step.ensures.r c.args.end c.step.new.spot.scan c.octet_at.result c.step.ensures.scan c.octet_at.ensures in
    let same = c.match-octet_at.auto.out ∙ c.loop-i.invariant.2 in
    elim c.match-octet_at.branch [
      | in-Some w ↦ (
        written_one c.loop-i.invariant.0 w.in-Some.b rest _ _ (on ∙ ap (λ (one : Option ℕ). one_octet one ++ rest) w.in-Some.is) (w.out-is ∙ w.write_at.ensures) w.n-is,
        omega (arith, w.n-is, c.loop-i.invariant.1),
        same,
      )
      | in_default w ↦ (
        written_on c.loop-i.invariant.0 rest _ _ (on ∙ ap (λ (one : Option ℕ). one_octet one ++ rest) w.in_default.is) w.out-is w.n-is,
        omega (arith, w.n-is, c.loop-i.invariant.1),
        same,
      )
    ]

pub shape_of-out : goal.shape_of-out
shape_of-out c = c.loop-i.invariant.2

pub returns : goal.returns
unfolding octets_in when
returns c =
    let args = c.args in
    let is-plan : octets_in args.end args.text.now ≡ octets_from args.end fresh between args.text.now = simp (← c.read-call.ensures, c.is_err.ensures.negation, c.if-is_err.false) in
    let written = written_all c.loop-i.invariant.0 (octets_end args.text.now c.loop-i.i c.loop-i-test.false args.end c.loop-i.spot.r c.loop-i.spot.scan) in
    record { count = written.0 ∙ ap length (sym is-plan); octets = written.1 ∙ ap (λ (list : List ℕ). fitted list args.out.now) (sym is-plan) }
