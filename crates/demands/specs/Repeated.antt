-- Demand 3: messages that are repeated without end; and copies of a message, which are read back. For every message that the writer
-- accepts, and every bit from which it is heard.
use Rattle.std.specs.Prelude.{ℕ, ◌≡◌, true, List, ◌++◌, take}
use Rattle.octets.specs.declared.Kind.{Kind}
use Rattle.sequences.specs.Line.{ten_ones, sequence, copies}
use Rattle.refusals.specs.Lent.{count}
use Rattle.sequences.specs.Writing.{written}
use Rattle.listening.specs.Record.{fresh}
use Rattle.stretches.specs.Stretch.{octets_all, AcceptedMessage, stretch, Long, Nowhere, flag}
use Rattle.stretches.specs.Hearing.{reports, repeated, Reads}

-- "Take two messages that our writer accepts, each repeated without end. Cut a stretch from each, from any bit, as long as twice the longer
-- sequence and ten bits more."
pub record StretchesTellMessagesApart : Type 0 where
  -- "messages that our writer accepts" there are, of each kind
  pub some : (kind : Kind) → (octets : List ℕ) × AcceptedMessage kind octets
  -- "If the stretches are equal, the messages are equal, in kind and in every octet."
  pub apart : (kind kind' : Kind) (octets octets' : List ℕ) (cut cut' n : ℕ) → AcceptedMessage kind octets → AcceptedMessage kind' octets'
      → Long (sequence kind octets) n → Long (sequence kind' octets') n
      → stretch (sequence kind octets) cut n ≡ stretch (sequence kind' octets') cut' n → (kind ≡ kind') × (octets ≡ octets')
  -- "Our reader, fresh at the first bit of such a stretch, reports that message first, within the stretch, and reports no refusal or CJ in it."
  pub heard : (kind : Kind) (octets : List ℕ) (cut n : ℕ) → AcceptedMessage kind octets → Long (sequence kind octets) n
      → Reads kind octets (stretch (sequence kind octets) cut n)
  -- "The T.30 flag 01111110 stands nowhere in it.", nor in any other stretch
  pub flagless : (kind : Kind) (octets : List ℕ) (cut n : ℕ) → AcceptedMessage kind octets → Nowhere flag (stretch (sequence kind octets) cut n)

-- what is written is read
pub record CopiesAreReadBack : Type 0 where
  -- copies, with ten 1s behind them: a fresh reader reports the message, once for each copy, and nothing else; a menu is agreed from the
  -- second copy on
  pub copied : (kind : Kind) (octets : List ℕ) (n : ℕ) → AcceptedMessage kind octets → reports fresh (copies n (sequence kind octets) ++ ten_ones) ≡ repeated kind octets n
  -- and so it does on the bits that the writer says it wrote, in the buffer that it was lent
  pub buffered : (kind : Kind) (octets : List ℕ) (n : ℕ) (out : List ℕ) (size : ℕ) → octets_all octets ≡ true → (written kind octets n out).answer ≡ count size
      → reports fresh (take size (written kind octets n out).buffer ++ ten_ones) ≡ repeated kind octets n
