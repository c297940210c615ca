-- `fields::country_size` meets its contract: the octets of 255 and the one that ends them.
-- Assumes nothing.
use Prim.Native.Nat.{ℕ, ◌+◌}
use mathlib.Core.Path.{sym, ap, ◌∙◌}
use Rattle.fields.proofs.Reading.{full_prefix, country_at}
use Rattle.std.proofs.Common.{◌-◌, arith, drop}
use lib.ListN.{length-take}
use Rattle.fields.proofs.country_size.Goals as goal

pub returns : goal.returns
returns c =
    let args = c.args in
    (ap (λ (n : ℕ). n + 1) (c.full_octets.ensures.0 ∙ sym (full_prefix _)) ∙ country_at args.octets.now args.place args.size c.requires.size_value, omega (arith, c.full_octets.ensures.1, length-take (args.place + 1 + args.size - (args.place + 1)) (drop (args.place + 1) args.octets.now)))
