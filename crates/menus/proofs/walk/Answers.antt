-- `menus::walk` meets its contract. Invariant: no octet before the next one ends the walk, so it answers what the octets from there on do.
-- Assumes nothing.
use Rattle.std.proofs.Common.{◌≡◌, ℕ, length, arith, sym, ap, ◌∙◌, false}
use Rattle.menus.specs.Asking.{answer}
use Rattle.menus.proofs.Asking.{walked_end, walked_group, walked_other, walked_bad, walked_on}
use Rattle.menus.proofs.walk.Goals.{then-is_category+else-tag_of-eq-MODULATION, else-is_category+else-is_bad}
use Rattle.menus.proofs.walk.Goals as goal

pub returns-then-tag_of-eq-MODULATION : goal.returns-then-tag_of-eq-MODULATION
returns-then-tag_of-eq-MODULATION c =
    let args = c.args in
    c.decide.ensures
    ∙ sym (c.loop-looked.invariant ∙ walked_group args.place args.octets.now c.loop-looked.looked (omega arith) (sym c.is_category.ensures ∙ c.if-is_category.true) (sym c.tag_of.ensures ∙ c.if-tag_of-eq-MODULATION.true))

pub returns-then-is_bad : goal.returns-then-is_bad
returns-then-is_bad c =
    let args = c.args in
    sym (c.loop-looked.invariant ∙ walked_bad args.place args.octets.now c.loop-looked.looked (omega arith) (sym c.is_category.ensures ∙ c.if-is_category.false) (sym c.is_bad.ensures ∙ c.if-is_bad.true))

pub loop-looked-preserved : goal.loop-looked-preserved
loop-looked-preserved c =
    let args = c.args in
    let at = c.loop-looked.looked in
    c.loop-looked.invariant
    ∙ elim c.if-is_category.branch [
      | then-is_category+else-tag_of-eq-MODULATION w ↦
          walked_other args.place args.octets.now at (omega arith) (sym c.is_category.ensures ∙ w.if-is_category.true) (λ e. w.if-tag_of-eq-MODULATION.false (w.tag_of.ensures ∙ e))
      | else-is_category+else-is_bad w ↦
          walked_on args.place args.octets.now at (omega arith) (sym c.is_category.ensures ∙ w.if-is_category.false) (sym w.is_bad.ensures ∙ w.if-is_bad.false)
    ]

pub returns : goal.returns
returns c =
    let args = c.args in
    let all : c.loop-looked.looked ≡ length args.octets.now = omega arith in
    c.answered.ensures ∙ sym (c.loop-looked.invariant ∙ walked_end args.place args.octets.now c.loop-looked.looked (omega arith) ∙ ap (λ (looked : ℕ). answer false looked) all)
