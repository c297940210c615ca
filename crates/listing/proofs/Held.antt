-- What many bits leave: a record in range; and of the bits one at least is taken.
-- Assumes nothing.
use Rattle.std.proofs.Common.{ℕ, ◌<◌, ◌≤◌, List, length, ap, ◌∙◌, arith}
use Rattle.listening.specs.declared.Listener.{Listener}
use Rattle.listening.specs.declared.BitsHeard.{BitsHeard}
use Rattle.listening.specs.Hearing.{ManyOutcome, HearsMany, heard_bits}
use Rattle.listening.proofs.Many.{listened_takes, listened_fits, bits_in}
use Rattle.listening.proofs.Ranges.{Fits}

pub record Held (bits : List ℕ) (heard : BitsHeard) : Type 0 where
  pub fits : Fits heard.rec
  pub some : 0 < heard.taken
  pub most : heard.taken ≤ length bits

pub held : (rec : Listener) (bits : List ℕ) (heard : BitsHeard) → HearsMany (heard_bits rec bits) heard → Fits rec → 0 < length bits → Held bits heard
held rec bits heard hears in_range there =
    let is_in_range = bits_in rec bits in_range in
    let takes = listened_takes rec bits 0 in
    let taken = hears.taken ∙ ap (λ (outcome : ManyOutcome). outcome.taken) is_in_range in
    record {
      fits = rw (hears.rec ∙ ap (λ (outcome : ManyOutcome). outcome.rec) is_in_range) (listened_fits rec bits 0 in_range);
      some = omega (arith, taken, takes.some there);
      most = omega (arith, taken, takes.most);
    }
