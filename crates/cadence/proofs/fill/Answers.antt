-- `cadence::fill` meets its contract. Invariant: so many bits stand at the front of what is lent, and the place is that of the next in its period.
-- Assumes nothing.
use native.Mathlib.Nat.{mod-add-mod}
use native.Mathlib.Omega.{arith}
use Prim.Native.Nat.{ℕ, ◌+◌, ◌%◌, ◌<◌, ◌≤◌}
use mathlib.Core.List.{List, [], ◌++◌}
use mathlib.Core.Path.{◌≡◌, sym, ap, ◌∙◌}
use lib.ListN.{length, take, drop, drop_of_length-le}
use Rattle.std.proofs.lemmas.List.{length-take-le, append-nil}
use Rattle.laws.specs.Front.{front}
use Rattle.laws.proofs.Pasted.{pasted_more, pasted_all}
use Rattle.cadence.specs.Inner.{bit_here, bits_here}
use Rattle.cadence.proofs.Bits.{here_length, here_at}
use Rattle.cadence.proofs.fill.Goals.{At-loop-bit}
use Rattle.cadence.proofs.fill.Goals as goal

-- the part that is lent on, filled whole, and what stands behind it
filled : (bits lent part : List ℕ) (n : ℕ) → length bits ≡ n → n ≤ length lent → part ≡ front bits (take n lent) → part ++ drop n lent ≡ front bits lent
filled bits lent part n long within is =
    let none : drop (length bits) (take n lent) ≡ [] = drop_of_length-le (take n lent) (omega (arith, length-take-le n lent within, long)) in
    ap (λ (l : List ℕ). l ++ drop n lent) (is ∙ ap (bits ++◌) none ∙ append-nil bits) ∙ ap (λ (k : ℕ). bits ++ drop k lent) (sym long)

pub loop-bit-preserved : goal.loop-bit-preserved
loop-bit-preserved c =
    let a = c.args in
    let i = c.loop-bit.bit-index in
    let lent = length-take-le a.n a.out.now c.requires.n_in_bounds in
    let more : i < a.n = omega (arith, c.loop-bit-test.true, lent) in
    let on-by-one : a.from + i + 1 ≡ a.from + (i + 1) = omega arith in
    let bit = c.bit_at.ensures ∙ ap (bit_here a.ci a.on) c.loop-bit.invariant.0 ∙ sym (here_at a.ci a.on a.end a.n a.from i more) in (
      c.next_place-place.ensures ∙ ap (λ (p : ℕ). (p + 1) % a.end) c.loop-bit.invariant.0 ∙ mod-add-mod (a.from + i) a.end 1 ∙ ap (λ (p : ℕ). p % a.end) on-by-one,
      pasted_more _ (bits_here a.ci a.on a.end a.from a.n) i _ c.loop-bit.invariant.1 _ bit c.loop-bit-test.true (omega (arith, more, here_length a.ci a.on a.end a.from a.n)),
    )

pub returns : goal.returns
returns c =
    let a = c.args in
    let lent = length-take-le a.n a.out.now c.requires.n_in_bounds in
    let bits = bits_here a.ci a.on a.end a.from a.n in
    let all : c.loop-bit.bit-index ≡ a.n = omega (arith, lent, c.loop-bit-test.false, c.loop-bit.auto.bit-index-end) in
    let long = here_length a.ci a.on a.end a.from a.n in (
      c.loop-bit.invariant.0 ∙ ap (λ (i : ℕ). (a.from + i) % a.end) all,
      filled bits a.out.now _ a.n long c.requires.n_in_bounds (pasted_all _ bits _ _ c.loop-bit.invariant.1 (all ∙ sym long)),
    )
