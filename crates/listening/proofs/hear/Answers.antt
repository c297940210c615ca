-- `listening::hear` meets its contract: its parts are the bit (`parts_heard`).
-- Assumes nothing.
use mathlib.Core.Path.{ap, subst, ◌∙◌}
use Rattle.listening.specs.Hearing.{HearOutcome, Hears, listener_of, acted}
use Rattle.listening.proofs.Acts.{parts_heard}
use Rattle.listening.proofs.hear.Goals as goal

pub returns : goal.returns
unfolding acted
returns c =
    let a = c.args in
    let rec = c.listener_of.ensures ∙ ap (listener_of c.turn_ear-turned.result.ear) c.act_on-after.ensures in
    subst (λ (o : HearOutcome). Hears o (record { rec = c.listener_of.result; report = c.tell.result }))
    (ap (acted a.rec) c.turn_ear-turned.ensures ∙ parts_heard a.rec a.bit) (record { report = c.tell.ensures; rec = rec })
