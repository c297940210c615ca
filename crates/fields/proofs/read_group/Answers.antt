-- `fields::read_group` meets its contract: the packing decides; what is tested and put then are the octets that were unpacked.
-- Assumes nothing.
use Rattle.std.proofs.Common.{rules, true, false}
use native.Mathlib.Omega.{arith}
use Prim.Native.Nat.{ℕ, ◌-◌}
use mathlib.Core.Path.{◌≡◌, sym, ap, subst, ◌∙◌}
use mathlib.Core.List.{List}
use lib.ListN.{length, take, drop}
use lib.Seq.{take_at}
use Rattle.laws.proofs.Rest.{rest_of}
use Rattle.refusals.specs.Refusals.{before}
use Rattle.refusals.specs.Lent.{room_fault, put, Meets}
use Rattle.refusals.proofs.Outcomes.{meets_refused, meets_accepted}
use Rattle.fields.specs.Packing.{left_over, unpacked}
use Rattle.fields.specs.Blocks.{blocks_fault}
use Rattle.fields.specs.Field.{field_octets}
use Rattle.fields.proofs.Packing.{unpacked_length}
use Rattle.fields.proofs.Field.{packed_well, packed_badly}
use Rattle.fields.proofs.read_group.Goals.{After-unpack-unpacked}
use Rattle.fields.proofs.read_group.Goals as goal

-- what is unpacked is all behind the category octet
behind : (unpacked_at : After-unpack-unpacked) →
    let group = unpacked_at.args.group.now in
    take (length group - 1) (drop 1 group) ≡ drop 1 group
behind unpacked_at = rest_of unpacked_at.args.group.now 1

left_is : (unpacked_at : After-unpack-unpacked) → unpacked_at.unpack-unpacked.result.left ≡ left_over (drop 1 unpacked_at.args.group.now)
left_is unpacked_at = unpacked_at.unpack-unpacked.ensures.left ∙ ap left_over (behind unpacked_at)

octets_are : (unpacked_at : After-unpack-unpacked) → take unpacked_at.unpack-unpacked.result.count unpacked_at.unpack-unpacked.new.out ≡ field_octets unpacked_at.args.group.now
octets_are unpacked_at =
    let group = unpacked_at.args.group.now in
    let count = unpacked_at.unpack-unpacked.result.count in
    let extensions = take (length group - 1) (drop 1 group) in
    ap (take count) unpacked_at.unpack-unpacked.ensures.buffer
    ∙ take_at (unpacked extensions) _ count (omega (arith, unpacked_length extensions, unpacked_at.unpack-unpacked.ensures.count))
    ∙ ap unpacked (behind unpacked_at)

pub returns-then-not-is_packed : goal.returns-then-not-is_packed
returns-then-not-is_packed c =
    let group = c.args.group.now in
    let badly : c.is_packed.result ≡ false = search rules in
    meets_refused (field_octets group) c.args.out.now _ _ _ (packed_badly group (sym c.is_packed.ensures ∙ badly))

pub returns : goal.returns
returns c =
    let args = c.args in
    let octets = field_octets args.group.now in
    let well : c.is_packed.result ≡ true = search rules in
    meets_accepted octets args.out.now _ _ _ _ (packed_well args.group.now (sym c.is_packed.ensures ∙ well))
    (subst (λ (l : List ℕ). Meets (put (before (blocks_fault l) (room_fault l args.out.now)) l args.out.now) c.put_blocks.result c.put_blocks.new.out) (octets_are (goal.at.returns c).After-unpack-unpacked) c.put_blocks.ensures)
