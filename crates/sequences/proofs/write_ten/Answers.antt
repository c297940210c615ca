-- `sequences::write_ten` meets its contract: the ten bytes stored one by one are those of two spreads and two bits, and by `ten_stored`
-- these are the ten bits of v.
-- Assumes nothing.
use native.Mathlib.Omega.{arith}
use Prim.Native.Nat.{ℕ, ◌%◌}
use mathlib.Core.Path.{◌≡◌, ap, ◌∙◌}
use mathlib.Core.List.{List}
use lib.ListN.{get_or, length-set}
use lib.Seq.{sets-eq}
use Rattle.laws.specs.Front.{front}
use Rattle.sequences.specs.Inner.{spreads, ten_bits}
use Rattle.sequences.proofs.Lines.{stored_ten, ten_stored}
use Rattle.sequences.proofs.write_ten.Goals as goal

pub bounds-out-1 : goal.bounds-out-1
bounds-out-1 c = simp length-set (omega arith)

pub bounds-out-2 : goal.bounds-out-2
bounds-out-2 c = simp length-set (omega arith)

pub bounds-out-3 : goal.bounds-out-3
bounds-out-3 c = simp length-set (omega arith)

pub bounds-out-4 : goal.bounds-out-4
bounds-out-4 c = simp length-set (omega arith)

pub bounds-out-5 : goal.bounds-out-5
bounds-out-5 c = simp length-set (omega arith)

pub bounds-out-6 : goal.bounds-out-6
bounds-out-6 c = simp length-set (omega arith)

pub bounds-out-7 : goal.bounds-out-7
bounds-out-7 c = simp length-set (omega arith)

pub bounds-out-8 : goal.bounds-out-8
bounds-out-8 c = simp length-set (omega arith)

pub bounds-out-9 : goal.bounds-out-9
bounds-out-9 c = simp length-set (omega arith)

pub shape_of-out : goal.shape_of-out
shape_of-out c = simp length-set

pub returns : goal.returns
returns c =
    let v = c.args.v in
    let lent = c.args.out.now in
    let stored : stored_ten c.four-low.result c.four-high.result v ≡ ten_bits v =
    ap (λ (w : ℕ). stored_ten w c.four-high.result v) c.four-low.ensures ∙ ap (λ (w : ℕ). stored_ten (get_or spreads (v % 16) 0) w v) c.four-high.ensures ∙ ten_stored v c.requires.v_bound in
    sets-eq (stored_ten c.four-low.result c.four-high.result v) lent 0 c.requires.in_bounds ∙ ap (λ (bits : List ℕ). front bits lent) stored
