-- `listening::run` meets its contract. Invariant: to hear all bits from the start is to hear those that are left into the record as it stands. A turn
-- hears bits up to the first that asks for something (`advanced_heard`), and does that.
-- Assumes nothing.
use borrow.Author.Rules.{rules}
use native.Mathlib.Omega.{arith}
use Prim.Native.Nat.{◌<◌}
use mathlib.Core.Path.{◌≡◌, refl, sym, ap, ◌∙◌}
use lib.ListN.{drop}
use Rattle.listening.specs.Hearing.{listened, listener_of, acted}
use Rattle.listening.specs.declared.Listener.{Listener}
use Rattle.leaps.proofs.Ranges.{advanced_takes}
use Rattle.listening.proofs.Acts.{changed_store, told_report, told_other}
use Rattle.listening.proofs.Many.{last_turn, behind, listened_end, onward, onward_told, onward_quiet, advanced_heard}
use Rattle.listening.proofs.run.Goals.{After-advance-a, At-loop-i}
use Rattle.listening.proofs.run.Goals as goal

-- the record as it stands at the loop's head
abbrev held : (at-loop : At-loop-i) → Listener
held at-loop = record { ear = at-loop.loop-i.ear; msg = at-loop.loop-i.msg; last = at-loop.args.rec.last }

-- the same, seen from behind `advance`
abbrev still_held : (after : After-advance-a) → Listener
still_held after = record { ear = after.loop-i.ear; msg = after.loop-i.msg; last = after.args.rec.last }

-- bits are heard up to the first that asks for something
goes : (after : After-advance-a) → listened after.args.rec after.args.bits.now 0 ≡ onward (still_held after) after.args.bits.now after.advance-a.result
goes after =
    let bits = after.args.bits.now in
    after.loop-i.invariant ∙ advanced_heard bits (still_held after) after.loop-i.i ∙ ap (onward (still_held after) bits) (sym after.advance-a.ensures)

-- at least one bit was taken
taken : (after : After-advance-a) → after.loop-i.i < after.advance-a.result.at
taken after =
    rw after.advance-a.ensures (advanced_takes after.loop-i.ear after.loop-i.msg.len after.args.bits.now after.loop-i.i after.loop-i-test.true)

-- where the last of them tells nothing, the others are left
quiet : (after : After-advance-a) → after.advance-a.result.act < 4
    → listened after.args.rec after.args.bits.now 0 ≡ listened (behind (still_held after) (last_turn after.advance-a.result)) (drop after.advance-a.result.at after.args.bits.now) after.advance-a.result.at
quiet after low = goes after ∙ onward_quiet (still_held after) after.args.bits.now after.advance-a.result low

pub loop-i-smaller-then-act-eq-STORE : goal.loop-i-smaller-then-act-eq-STORE
loop-i-smaller-then-act-eq-STORE c = let some = taken (goal.at.loop-i-smaller-then-act-eq-STORE c).After-advance-a in search rules

pub loop-i-preserved-then-act-eq-STORE : goal.loop-i-preserved-then-act-eq-STORE
loop-i-preserved-then-act-eq-STORE c =
    let a = c.advance-a.result in
    let stores = c.if-act-eq-STORE.true in
    rw (c.octet_heard.ensures, ← changed_store c.loop-i.msg a.act a.ear.past stores) (quiet (goal.at.loop-i-preserved-then-act-eq-STORE c).After-advance-a (omega (arith, stores)))

pub returns-then-act-eq-REPORT : goal.returns-then-act-eq-REPORT
unfolding acted
returns-then-act-eq-REPORT c =
    let reports = c.if-act-eq-REPORT.true in
    rw (goes (goal.at.returns-then-act-eq-REPORT c).After-advance-a ∙ onward_told (still_held (goal.at.returns-then-act-eq-REPORT c).After-advance-a) c.args.bits.now c.advance-a.result (omega (arith, reports)))
    (record { report = c.report_of.ensures ∙ sym (told_report c.advance-a.result.act c.loop-i.msg (still_held (goal.at.returns-then-act-eq-REPORT c).After-advance-a).last reports); rec = c.listener_of.ensures ∙ ap (listener_of c.advance-a.result.ear) c.act_on.ensures; taken = refl })

pub returns-then-act-gt-REPORT : goal.returns-then-act-gt-REPORT
unfolding acted
returns-then-act-gt-REPORT c =
    let other : c.advance-a.result.act ≡ 4 → ⊥ = λ e. c.if-act-eq-REPORT.false e in
    rw (goes (goal.at.returns-then-act-gt-REPORT c).After-advance-a ∙ onward_told (still_held (goal.at.returns-then-act-gt-REPORT c).After-advance-a) c.args.bits.now c.advance-a.result (omega (arith, c.if-act-gt-REPORT.true)))
    (record { report = c.tell_alone.ensures ∙ sym (told_other c.advance-a.result.act c.loop-i.msg (still_held (goal.at.returns-then-act-gt-REPORT c).After-advance-a).last other); rec = c.listener_of-then-act-gt-REPORT.ensures ∙ ap (listener_of c.advance-a.result.ear) c.act_on-then-act-gt-REPORT.ensures; taken = refl })

pub loop-i-smaller : goal.loop-i-smaller
loop-i-smaller c = let some = taken (goal.at.loop-i-smaller c).After-advance-a in search rules

pub loop-i-preserved : goal.loop-i-preserved
loop-i-preserved c =
    rw c.change-msg.ensures (quiet (goal.at.loop-i-preserved c).After-advance-a (omega (arith, c.if-act-gt-REPORT.false, c.if-act-eq-REPORT.false)))

pub returns : goal.returns
returns c =
    let bits = c.args.bits.now in
    rw (c.loop-i.invariant ∙ listened_end (held (goal.at.returns c).At-loop-i) bits c.loop-i.i c.loop-i.i c.loop-i-test.false) (record { report = refl; rec = refl; taken = refl })
