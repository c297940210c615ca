-- Demand 3: what a fresh reader makes of a long stretch is one message and nothing else, so equal stretches are of equal messages; no flag
-- stands in it. And copies are read back. The lemmas on stretches and copies stand in crate stretches.
-- Assumes nothing.
use mathlib.Core.Path.{refl}
use mathlib.Core.List.{[], ◌∷◌}
use Rattle.laws.specs.Logic.{when, both}
use Rattle.laws.specs.Tests.{every}
use Rattle.octets.specs.declared.Kind.{Kind}
use Rattle.octets.specs.declared.Kind.TheVariants.{Ci, Menu}
use Rattle.octets.specs.Lists.{first_fault}
use Rattle.sequences.specs.Line.{sequence}
use Rattle.stretches.specs.Stretch.{AcceptedMessage, stretch}
use Rattle.stretches.proofs.Copies.{copies_read, buffer_read}
use Rattle.stretches.proofs.Reading.{stretch_read, flag_nowhere, read_as_one}
use Rattle.demands.specs.Repeated.{StretchesTellMessagesApart, CopiesAreReadBack}

-- the octet of CI for data
call_alone : (kind : Kind) → AcceptedMessage kind (0xC1 ∷ [])
unfolding when both every first_fault
call_alone Ci = record { octet = refl; taken = refl }
call_alone Menu = record { octet = refl; taken = refl }

pub stretches_tell_messages_apart : StretchesTellMessagesApart
stretches_tell_messages_apart = record {
  some = λ kind. (0xC1 ∷ [], call_alone kind);
  apart = λ kind kind' octets octets' cut cut' n accepted accepted' long long' equal.
      read_as_one kind kind' octets octets' (stretch (sequence kind octets) cut n) (stretch_read kind octets accepted cut n long) (rw equal (stretch_read kind' octets' accepted' cut' n long'));
  heard = λ kind octets cut n accepted long. stretch_read kind octets accepted cut n long;
  flagless = λ kind octets cut n accepted. flag_nowhere kind octets accepted cut n;
}

pub copies_are_read_back : CopiesAreReadBack
copies_are_read_back = record { copied = λ kind octets n accepted. copies_read kind octets accepted n; buffered = buffer_read }
