-- `fields::pack` meets its contract. Invariant: k extension octets stand at the front of what was lent; where it is not all of them, fewer than
-- eight bits are held.
-- Assumes nothing.
use Rattle.std.proofs.Common.{◌<◌, arith, sym, ap, ◌∙◌, length}
use Rattle.fields.specs.Packing.{extension_of, extensions_for, packed}
use Rattle.fields.proofs.Packing.{packed_length}
use Rattle.fields.proofs.Packs.{next_five, packed_at}
use Rattle.laws.proofs.Pasted.{pasted_more, pasted_all}
use Rattle.fields.proofs.pack.Goals as goal

pub loop-k-preserved : goal.loop-k-preserved
loop-k-preserved c =
    let octets = c.args.octets.now in
    let k = c.loop-k.k in
    let there : k < extensions_for (length octets) = omega arith in
    let here = c.loop-k.invariant.0 there in
    let octet = (c.type_inv.octets c.loop-k.held.taken).fits in
    let five = rw (← c.hold-more.ensures) at (next_five octets c.loop-k.held k here.1 here.0 octet) in
    let stored = c.extension_of.ensures ∙ ap extension_of five.bits ∙ sym (packed_at octets k there) in
    (five.goes_on, pasted_more c.args.out.now (packed octets) k _ c.loop-k.invariant.1 _ stored (omega arith) (omega (arith, there, packed_length octets)))

pub returns : goal.returns
returns c =
    let octets = c.args.octets.now in
    record {
      count = c.extensions_for-size.ensures ∙ sym (packed_length octets);
      buffer = pasted_all c.args.out.now (packed octets) c.loop-k.k _ c.loop-k.invariant.1 (omega (arith, packed_length octets));
    }
