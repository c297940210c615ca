-- Document 02, Req 05: where a reported message began, said of the bits heard.
use Rattle.std.specs.Prelude.{ℕ, ◌+◌, ◌*◌, ◌-◌, ◌≤◌, ◌≡◌, Bool, true, false, List, [], ◌∷◌, ◌++◌, length, take, drop}
use Rattle.octets.specs.declared.Kind.{Kind}
use Rattle.octets.specs.declared.Kind.TheVariants.{Ci}
use Rattle.sequences.specs.Line.{framed_all, ten_ones, sync, sequence}
use Rattle.sequences.specs.Line.{cj as cjBits}
use Rattle.listening.specs.declared.Listener.{Listener}
use Rattle.listening.specs.Hearing.{heard_bit}
use Rattle.listening.specs.Record.{in_range, fresh}
use Rattle.listening.specs.Spans.{none, refusal, last_span}
use Rattle.stretches.specs.Stretch.{Ends}
use Rattle.stretches.specs.Hearing.{message, cj, noted, reports, last_of}
use Rattle.stretches.specs.Heard.{counted, bits_in}
use Rattle.demands.specs.Heard.{line, tells}

-- behind these bytes this one reports this message
abbrev pub Reports : List ℕ → ℕ → Kind → List ℕ → Bool → ℕ → Type 0
Reports bytes byte kind octets agreed n = noted (tells bytes byte) (heard_bit (line bytes) byte).rec.msg [] ≡ message kind octets agreed n ∷ []

-- the bits of a line, up to the one that reports: the first of the last n is "the first sync bit", bit p - n + 1 where bit p reports, counted from 0
pub record BeganThere (kind : Kind) (octets : List ℕ) (n : ℕ) (bits : List ℕ) : Type 0 where
  pub inside : n ≤ length bits
  -- ten 1s stand before it
  pub behind : Ends ten_ones (take (length bits - n) bits)
  -- and the bits from there on are that sync, those octets and ten 1s
  pub from : drop (length bits - n) bits ≡ sync kind ++ (framed_all octets ++ ten_ones)

-- "Each reported message also carries the number of bits from its sync's first bit to the bit reporting it, both counted."
pub record SpansTellWhereMessagesBegan : Type 0 where
  -- so many are counted
  pub counts : (bytes : List ℕ) (byte : ℕ) (kind : Kind) (octets : List ℕ) (agreed : Bool) (n : ℕ) → Reports bytes byte kind octets agreed n → counted fresh (bytes ++ byte ∷ []) 0 ≡ n
  -- and there the message stands
  pub began : (bytes : List ℕ) (byte : ℕ) (kind : Kind) (octets : List ℕ) (agreed : Bool) (n : ℕ) → Reports bytes byte kind octets agreed n → BeganThere kind octets n (bits_in (bytes ++ byte ∷ []))
  -- which the record's own numbers say
  pub number : (bytes : List ℕ) (byte : ℕ) (kind : Kind) (octets : List ℕ) (agreed : Bool) (n : ℕ) → Reports bytes byte kind octets agreed n → n ≡ 20 + 10 * length octets
  -- "For the example's CI it is 30."
  pub example : reports fresh (sequence Ci (0xC1 ∷ []) ++ ten_ones ++ cjBits) ≡ message Ci (0xC1 ∷ []) false 30 ∷ cj ∷ []
  -- a host that keeps the record alone is told it until the next message is reported
  pub asked : (bytes : List ℕ) → last_span (line bytes) ≡ last_of none (reports fresh bytes)
  -- document 01: "listening record or session with a field outside its range" is refused with 10, and no other is refused
  pub outside : (rec : Listener) → in_range rec ≡ false → last_span rec ≡ refusal 10
  pub within : (rec : Listener) (number : ℕ) → in_range rec ≡ true → last_span rec ≡ refusal number → ⊥
