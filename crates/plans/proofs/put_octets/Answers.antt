-- `plans::put_octets` meets its contract: each octet leaves one less to type.
-- Assumes nothing.
use Rattle.std.proofs.Common.{◌+◌, drop, sym, ap, ◌∙◌, rules}
use Rattle.printing.specs.Page.{Page, typed}
use Rattle.printing.proofs.Pages.{typed_then}
use Rattle.plans.specs.Plain.{octets_text}
use Rattle.plans.proofs.Typing.{octet_on, octets_end}
use Rattle.plans.proofs.put_octets.Goals as goal

pub loop-count-preserved : goal.loop-count-preserved
loop-count-preserved c =
    let octets = c.args.octets.now in
    let front = c.args.front.now in
    let here = c.loop-count.page in
    let i = c.loop-count.count in
    ap (λ (p : Page). typed p (octets_text front (i + 1) (drop (i + 1) octets))) (typed_then here _ _ c.put_front.ensures c.put_octet.ensures)
    ∙ sym (octet_on here front octets i (search rules)) ∙ c.loop-count.invariant

pub returns : goal.returns
returns c = sym (octets_end c.loop-count.page c.args.front.now c.args.octets.now c.loop-count.count (search rules)) ∙ c.loop-count.invariant
