-- `tailsprig::tailsprig_hear` meets its contract: the ear of a turned record is stored, and where something is asked for, what `act_code` makes of
-- that record; where nothing is, the act changes no message and tells nothing. Both are what the bit makes of the record.
-- Assumes nothing.
use Prim.Native.Nat.{ℕ}
use mathlib.Core.Path.{◌≡◌, refl, sym, ap, ◌∙◌}
use lib.IntN.{pos}
use borrow.Author.Rules.{rules}
use Rattle.framing.specs.declared.Turned.{Turned}
use Rattle.listening.specs.declared.Listener.{Listener}
use Rattle.codes.specs.declared.Acted.{Acted}
use Rattle.laws.specs.Logic.{when}
use Rattle.listening.specs.Hearing.{HearOutcome, changed, told, told_alone, acted, heard_bit, ear_turned}
use Rattle.listening.proofs.Acts.{parts_heard}
use Rattle.codes.specs.Hearing.{told_code, act_coded}
use Rattle.codes.proofs.Codes.{read_answer}
use Rattle.tailsprig.proofs.tailsprig_hear.Goals as goal

-- the record once the ear is stored
abbrev stored : Listener → Turned → Listener
stored held t = record { ear = t.ear; msg = held.msg; last = held.last }

-- an outcome, as C gets it
abbrev coded : HearOutcome → Acted
coded o = record { rec = o.rec; code = told_code o.report }

nothing_asked : (held : Listener) (t : Turned) → t.act ≡ 0 → record { rec = stored held t; code = pos 0 } ≡ coded (acted held t)
unfolding acted changed told told_alone when
nothing_asked held t none = ap (λ (act : ℕ). coded (acted held (record { ear = t.ear; act = act }))) (sym none)

something_asked : (held : Listener) (t : Turned) → act_coded (stored held t) t.act ≡ coded (acted held t)
unfolding acted
something_asked held t = refl

-- the two parts are the bit
heard_by : (held : Listener) (bit : ℕ) (t : Turned) → t ≡ ear_turned held.ear held.msg.kind held.msg.len held.last.kind held.last.len bit
    → coded (acted held t) ≡ coded (heard_bit held bit)
heard_by held bit t is_turned = ap (λ (u : Turned). coded (acted held u)) is_turned ∙ ap coded (parts_heard held bit)

pub returns-then-turned-ne-NOTHING : goal.returns-then-turned-ne-NOTHING
returns-then-turned-ne-NOTHING c =
    let held = c.args.rec.now in
    let is_heard = c.act_code-acted.ensures ∙ something_asked held c.turn_ear-turned.result ∙ heard_by held c.args.bit _ c.turn_ear-turned.ensures in
    record { answer = read_answer c.act_code-acted.result.code (search rules) ∙ ap (λ (a : Acted). a.code) is_heard; rec = ap (λ (a : Acted). a.rec) is_heard }

pub returns : goal.returns
returns c =
    let held = c.args.rec.now in
    let is_heard = nothing_asked held c.turn_ear-turned.result c.if-turned-ne-NOTHING.false ∙ heard_by held c.args.bit _ c.turn_ear-turned.ensures in
    record { answer = ap (λ (a : Acted). a.code) is_heard; rec = ap (λ (a : Acted). a.rec) is_heard }
