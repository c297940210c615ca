-- `sequences::write_sequence` meets its contract: ten 1s, the sync and the octets, each into what lies behind the one before, which
-- `front_then` joins.
-- Assumes nothing.
use native.Mathlib.Omega.{arith}
use Prim.Native.Nat.{ℕ}
use mathlib.Core.Path.{◌≡◌, sym, ap, ◌∙◌}
use mathlib.Core.List.{List, ◌++◌}
use lib.ListN.{length, length-append}
use Rattle.laws.specs.Front.{front}
use Rattle.laws.proofs.Rest.{front_then}
use Rattle.sequences.specs.Line.{framed_all}
use Rattle.sequences.specs.Inner.{ten_bits, ones_ten}
use Rattle.sequences.proofs.Lines.{sync_small, ten_length, preambled}
use borrow.Author.Rules.{rules}
use Rattle.sequences.proofs.write_sequence.Goals as goal

pub write_ten-requires-2 : goal.write_ten-requires-2
write_ten-requires-2 c =
    record { in_bounds = search rules; v_bound = omega (arith, c.sync_ten.ensures, sync_small c.args.kind); spread_value = c.requires.spread_value }

pub write_groups-requires : goal.write_groups-requires
write_groups-requires c = record { octets_len_bound = search rules; octets_in_bounds = search rules; spread_value = search rules }

pub returns : goal.returns
returns c =
    let given = c.args in
    let lent = given.out.now in
    let preamble = ten_bits ones_ten ++ ten_bits c.sync_ten.result in
    let preamble-put = front_then (ten_bits ones_ten) lent c.write_ten.new.out 10 (sym (ten_length ones_ten)) (search rules) c.write_ten.ensures (ten_bits c.sync_ten.result) c.write_ten-2.new.out c.write_ten-2.ensures in
    let preamble-length : 20 ≡ length preamble = omega (arith, length-append (ten_bits ones_ten) (ten_bits c.sync_ten.result), ten_length ones_ten, ten_length c.sync_ten.result) in
    front_then preamble lent _ 20 preamble-length (search rules) preamble-put (framed_all given.octets.now) c.write_groups.new.out c.write_groups.ensures
    ∙ ap (λ (bits : List ℕ). front bits lent) (preambled given.kind given.octets.now c.sync_ten.result c.sync_ten.ensures)
