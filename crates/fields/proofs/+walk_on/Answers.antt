-- `fields::walk_on` meets its contract: with no octets no block is left, a first block that does not fit refuses all, and otherwise what remains
-- behind it has one block fewer. The octets that remain fall with each call.
-- Assumes nothing.
use native.Mathlib.Omega.{arith}
use mathlib.Core.Path.{sym, ap, ◌∙◌}
use mathlib.Core.List.{List}
use lib.ListN.{drop}
use Rattle.laws.proofs.Rest.{rest_of}
use Rattle.fields.specs.declared.Block.{Block}
use Rattle.fields.specs.Blocks.{walked}
use Rattle.fields.specs.Inner.{counted}
use Rattle.fields.proofs.Reading.{walked_end, walked_refused, walked_on, first_within}
use Prim.Native.Nat.{ℕ, ◌+◌}
use Rattle.fields.proofs.+walk_on.Goals as goal

pub returns-then-octets-eq0 : goal.returns-then-octets-eq0
returns-then-octets-eq0 t c = sym (walked_end c.args.octets.now c.args.before c.if-octets-eq0.true)

pub returns-then-size-eq0 : goal.returns-then-size-eq0
returns-then-size-eq0 t c =
    sym (walked_refused c.args.octets.now c.args.before (omega (arith, c.if-octets-eq0.false)) (sym (ap (λ (b : Block). b.whole.size) c.block_at-first.ensures) ∙ c.if-size-eq0.true))

pub slice_bounds-walk_on-count : goal.slice_bounds-walk_on-count
slice_bounds-walk_on-count t c = first_within c.args.octets.now c.block_at-first.result c.block_at-first.ensures

pub slice_bounds-walk_on-start : goal.slice_bounds-walk_on-start
slice_bounds-walk_on-start t c = first_within c.args.octets.now c.block_at-first.result c.block_at-first.ensures

pub returns : goal.returns
returns t c =
    let args = c.args in
    let size = ap (λ (b : Block). b.whole.size) c.block_at-first.ensures in
    c.walk_on.ensures ∙ ap (λ (l : List ℕ). counted (args.before + 1) (walked l)) (rest_of args.octets.now c.block_at-first.result.whole.size ∙ ap (λ (k : ℕ). drop k args.octets.now) size)
    ∙ sym (walked_on args.octets.now args.before (omega (arith, c.if-octets-eq0.false)) (λ none. c.if-size-eq0.false (size ∙ none)))
