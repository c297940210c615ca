-- `offers::write_modulation` meets its contract. Invariant: the first k octets of the group stand at the front of what was lent.
-- Assumes nothing.
use Rattle.std.proofs.Common.{arith, ◌<◌, ◌∙◌, sym}
use Rattle.laws.proofs.Pasted.{pasted_more, pasted_all}
use Rattle.offers.specs.Making.{modulation_group}
use Rattle.offers.proofs.Making.{modulation_length, modulation_at}
use Rattle.offers.proofs.write_modulation.Goals as goal

pub loop-k-preserved : goal.loop-k-preserved
loop-k-preserved c =
    let args = c.args in
    let more : c.loop-k.k < args.count = omega arith in
    pasted_more args.out.now (modulation_group args.count args.items) c.loop-k.k _ c.loop-k.invariant _ (c.modulation_octet.ensures ∙ sym (modulation_at args.items args.count c.loop-k.k more)) (omega arith) (omega (arith, modulation_length args.items args.count))

pub returns : goal.returns
returns c =
    let args = c.args in
    let whole = modulation_length args.items args.count in
    record { count = sym whole; buffer = pasted_all args.out.now (modulation_group args.count args.items) c.loop-k.k _ c.loop-k.invariant (omega (arith, whole)) }
