-- `fields::unpack` meets its contract. Invariant: so many extension octets were taken in and j octets given out, which stand at the front of what was
-- lent; fewer than eight bits are held.
-- Assumes nothing.
use Rattle.std.proofs.Common.{◌≡◌, ℕ, ◌+◌, ◌*◌, ◌/◌, ◌^◌, ◌<◌, ◌≤◌, arith, rules, sym, ap, ◌∙◌, map, length, get_or}
use lib.ListN.{length-map, get_or-map}
use Rattle.fields.specs.Packing.{five_of, octets_in, option_bits, unpacked}
use Rattle.fields.proofs.Packing.{unpacked_length, unpacked_at}
use Rattle.fields.proofs.Streams.{Streams, pull, emit, emitted, few, last}
use Rattle.laws.proofs.Pasted.{pasted_more, pasted_all}
use Rattle.fields.proofs.unpack.Goals.{After-five_of, At-loop-e, then-weight-ge256, else-weight-ge256}
use Rattle.fields.proofs.unpack.Goals as goal

-- an extension octet is taken in
taken : (c : After-five_of) →
    Streams 5 8 (map five_of c.args.extensions.now) (c.loop-e.held + c.loop-e.weight * c.five_of.result) (c.loop-e.weight * 32) (c.loop-e.e-index + 1) c.loop-e.j
taken c =
    let extensions = c.args.extensions.now in
    let five : get_or (map five_of extensions) c.loop-e.e-index 0 ≡ c.five_of.result = get_or-map five_of extensions c.loop-e.e-index 0 ∙ sym c.five_of.ensures.0 in
    rw five at (pull 5 8 (map five_of extensions) c.loop-e.held c.loop-e.weight c.loop-e.e-index c.loop-e.j c.loop-e.invariant.1 (rw (length-map extensions five_of) (search rules)) (rw five c.five_of.ensures.1))

-- and an octet is given out
given : (c : After-five_of) → 256 ≤ c.loop-e.weight * 32 →
    Streams 5 8 (map five_of c.args.extensions.now) ((c.loop-e.held + c.loop-e.weight * c.five_of.result) / 256) (c.loop-e.weight * 32 / 256) (c.loop-e.e-index + 1) (c.loop-e.j + 1)
given c whole = emit 5 8 _ _ _ _ _ (taken c) whole

-- it is one of those that there are
counts : (c : After-five_of) → 256 ≤ c.loop-e.weight * 32 → c.loop-e.j < octets_in c.args.extensions.now
counts c whole =
    let within : c.loop-e.e-index + 1 ≤ length c.args.extensions.now = search rules in
    omega (arith, (given c whole).order, within)

pub bounds-out-j : goal.bounds-out-j
bounds-out-j c = omega (arith, counts (goal.at.bounds-out-j c).After-five_of c.if-weight-ge256.true)

pub loop-e-preserved : goal.loop-e-preserved
loop-e-preserved c =
    let after = (goal.at.loop-e-preserved c).After-five_of in
    let extensions = c.args.extensions.now in
    let j = c.loop-e.j in
    elim c.if-weight-ge256.branch [
      | then-weight-ge256 w ↦
          let there = counts after w.if-weight-ge256.true in
          let octet = emitted 5 8 _ _ _ _ _ (taken after) w.if-weight-ge256.true ∙ sym (unpacked_at extensions j there) in
          rw (w.out-is, w.held-is, w.weight-is, w.j-is)
          (omega (arith, c.loop-e.invariant.0), given after w.if-weight-ge256.true, pasted_more c.args.out.now (unpacked extensions) j _ c.loop-e.invariant.2 _ octet (omega (arith, there)) (omega (arith, there, unpacked_length extensions)))
      | else-weight-ge256 w ↦
          rw (w.out-is, w.held-is, w.weight-is, w.j-is)
          (omega (arith, few 5 8 _ _ _ _ _ (taken after) w.if-weight-ge256.false), taken after, c.loop-e.invariant.2)
    ]

pub returns : goal.returns
returns c =
    let extensions = c.args.extensions.now in
    let over : length extensions ≤ c.loop-e.e-index = search rules in
    let count : c.loop-e.j ≡ octets_in extensions = omega (arith, over, c.loop-e.invariant.0, c.loop-e.invariant.1.order) in
    record {
      count = count;
      left = last 5 8 _ _ _ _ _ c.loop-e.invariant.1 (rw (length-map extensions five_of) over) ∙ ap (λ (n : ℕ). option_bits extensions / 2 ^ (8 * n)) count;
      buffer = pasted_all c.args.out.now (unpacked extensions) c.loop-e.j _ c.loop-e.invariant.2 (count ∙ sym (unpacked_length extensions));
    }
