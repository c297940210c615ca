-- What the next bit brings, sentence by sentence. The lemmas stand in crate stretches.
-- Assumes nothing.
use Prim.Native.Nat.{ℕ}
use native.Mathlib.Omega.{arith}
use mathlib.Core.Path.{◌≡◌}
use mathlib.Core.Bool.{true}
use mathlib.Core.List.{List}
use Rattle.stretches.specs.Stretch.{bits_all}
use Rattle.stretches.proofs.Heard.{are_bits}
use Rattle.stretches.proofs.Next.{brings_cj, sync_opens, hunts_on, inside_sync_lem, sync_accepted, sync_passed, octet_starts, sequence_stops, inside_octet_lem, stop_bit_zero, octet_bad, octet_too_many, octet_stored, one_more_one, tenth_one, cut_short, cut_short_by_a_sync}
use Rattle.demands.specs.NextBit.{NextBitIsAsLaidDown}

pub next_bit_is_as_laid_down : (bits : List ℕ) → bits_all bits ≡ true → NextBitIsAsLaidDown bits
next_bit_is_as_laid_down bits tested =
    let lows = are_bits bits tested in
    record {
      tells_cj = brings_cj bits lows;
      sync_starts = sync_opens bits lows;
      hunts = hunts_on bits lows;
      inside_sync = inside_sync_lem bits lows;
      synced = sync_accepted bits lows;
      passed = sync_passed bits lows;
      opens = octet_starts bits lows;
      ends = sequence_stops bits lows;
      inside_octet = inside_octet_lem bits lows;
      stop_zero = stop_bit_zero bits lows;
      bad_octet = λ here not_cj data' frame. octet_bad bits lows here not_cj data' frame.eight frame.last;
      too_many = λ here not_cj data' frame. octet_too_many bits lows here not_cj data' frame.eight frame.last;
      stores = λ here not_cj data' frame. octet_stored bits lows here not_cj data' frame.eight frame.last;
      another1 = one_more_one bits lows;
      tenth = λ here. tenth_one bits lows (omega (arith, here)) here;
      cut_short = cut_short bits lows;
      cut_by_sync = cut_short_by_a_sync bits lows;
    }
