-- `menus::decide` meets its contract. Invariant: behind the octet looked at last, so many before the one that holds the item, what is decided is
-- what the whole group decides.
-- Assumes nothing.
use Rattle.std.proofs.Common.{◌≡◌, ◌-◌, ◌+◌, ℕ, Bool, arith, sym, ap, ◌∙◌, get_or, drop}
use Rattle.menus.specs.Asking.{answer}
use Rattle.menus.specs.Inner.{decided}
use Rattle.menus.proofs.Asking.{decided_here, decided_end, decided_bad, decided_short, decided_on}
use Rattle.menus.proofs.decide.Goals as goal

pub loop-init : goal.loop-init
loop-init c = let all : c.args.place.octet - 0 ≡ c.args.place.octet = omega arith in simp all

pub returns-then-octets-looked : goal.returns-then-octets-looked
returns-then-octets-looked c =
    let args = c.args in
    c.answered.ensures ∙ sym (c.loop.invariant ∙ decided_end args.place.bit.0 c.loop.b args.octets.now c.loop.looked (args.place.octet - c.loop.counter) (omega arith) (omega arith))

pub returns-then-is_category : goal.returns-then-is_category
returns-then-is_category c =
    let args = c.args in
    c.answered-then-is_category.ensures ∙ sym (c.loop.invariant ∙ decided_short args.place.bit.0 c.loop.b args.octets.now c.loop.looked (args.place.octet - c.loop.counter) (omega arith) (omega arith) (sym c.is_category.ensures ∙ c.if-is_category.true))

pub returns-then-is_bad : goal.returns-then-is_bad
returns-then-is_bad c =
    let args = c.args in
    sym (c.loop.invariant ∙ decided_bad args.place.bit.0 c.loop.b args.octets.now c.loop.looked (args.place.octet - c.loop.counter) (omega arith) (omega arith) (sym c.is_category.ensures ∙ c.if-is_category.false) (sym c.is_bad.ensures ∙ c.if-is_bad.true))

pub loop-preserved : goal.loop-preserved
loop-preserved c =
    let args = c.args in
    let one : args.place.octet - c.loop.counter - 1 ≡ args.place.octet - (c.loop.counter + 1) = omega arith in
    c.loop.invariant
    ∙ decided_on args.place.bit.0 c.loop.b args.octets.now c.loop.looked (args.place.octet - c.loop.counter) (omega arith) (omega arith) (sym c.is_category.ensures ∙ c.if-is_category.false) (sym c.is_bad.ensures ∙ c.if-is_bad.false)
    ∙ ap (λ (ahead : ℕ). decided args.place.bit.0 ahead (c.loop.looked + 1) (get_or args.octets.now c.loop.looked 0) (drop (c.loop.looked + 1) args.octets.now)) one

pub returns : goal.returns
returns c =
    let args = c.args in
    sym (c.loop.invariant ∙ decided_here args.place.bit.0 c.loop.b args.octets.now c.loop.looked (args.place.octet - c.loop.counter) (omega arith) ∙ ap (λ (offered : Bool). answer offered c.loop.looked) (sym c.has_bit.ensures))
