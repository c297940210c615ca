-- Demand 3: messages "repeated without end", and stretches of them.
use Rattle.std.specs.Prelude.{ℕ, ◌+◌, ◌*◌, ◌%◌, ◌<◌, ◌≤◌, ◌≡◌, Bool, true, List, [], ◌∷◌, ◌++◌, ltb, length, take, drop, get_or}
use Rattle.laws.specs.Tests.{every}
use Rattle.octets.specs.declared.Kind.{Kind}
use Rattle.octets.specs.declared.Purpose.TheVariants.{Writing}
use Rattle.octets.specs.Lists.{list_fault}
use Rattle.sequences.specs.Line.{copies}

-- every entry is an octet
abbrev pub octets_all : List ℕ → Bool
octets_all octets = every (λ (b : ℕ). ltb b 256) octets

-- one of the "messages that our writer accepts"
pub record AcceptedMessage (kind : Kind) (octets : List ℕ) : Type 0 where
  pub octet : octets_all octets ≡ true
  pub taken : list_fault (Writing kind) octets ≡ 0

-- "Cut a stretch", "from any bit": n bits, from the bit `cut` on, of a line that is repeated without end; cut + n copies are enough of it
abbrev pub stretch : List ℕ → ℕ → ℕ → List ℕ
stretch line cut n = take n (drop cut (copies (cut + n) line))

-- the same, bit by bit: behind the line's last bit comes its first again
pub record Endless (line : List ℕ) (cut n : ℕ) : Type 0 where
  pub size : length (stretch line cut n) ≡ n
  pub bit : (i : ℕ) → i < n → get_or (stretch line cut n) i 0 ≡ get_or line ((cut + i) % length line) 0

-- "as long as twice the longer sequence and ten bits more", or longer; said of each of the two
abbrev pub Long : List ℕ → ℕ → Type 0
Long line n = 2 * length line + 10 ≤ n

-- every entry is a bit
abbrev pub bits_all : List ℕ → Bool
bits_all bits = every (λ (b : ℕ). ltb b 2) bits

-- bits whose last ones are this word
abbrev pub Ends : List ℕ → List ℕ → Type 0
Ends word bits = (before : List ℕ) × (before ++ word ≡ bits)

-- "stands nowhere in it": bits that do not hold a word
abbrev pub Nowhere : List ℕ → List ℕ → Type 0
Nowhere word bits = (before after : List ℕ) → before ++ word ++ after ≡ bits → ⊥

-- "The T.30 flag 01111110"
abbrev pub flag : List ℕ
flag = 0 ∷ 1 ∷ 1 ∷ 1 ∷ 1 ∷ 1 ∷ 1 ∷ 0 ∷ []
