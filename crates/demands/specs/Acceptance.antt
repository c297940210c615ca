-- Document 01, 'Bits on the line': which messages the writer accepts, exactly.
use Rattle.std.specs.Prelude.{ℕ, ◌<◌, ◌≤◌, ◌≡◌, true, List, length, drop}
use Rattle.laws.specs.Tests.{every}
use Rattle.octets.specs.declared.Kind.{Kind}
use Rattle.octets.specs.declared.Purpose.TheVariants.{Writing}
use Rattle.octets.specs.Lists.{accepts, opens, list_fault}

-- "The writer accepts a menu whose first octet is a category octet with tag 1 and whose others are extension octets or category octets with a
-- tag other than 0. For CI only the first octet and extension octets are accepted."; "n from 1 to 64"
pub record WriterAccepts (kind : Kind) (octets : List ℕ) : Type 0 where
  pub some : 0 < length octets
  pub few : length octets ≤ 64
  pub first : opens octets ≡ true
  pub others : every (accepts kind) (drop 1 octets) ≡ true

-- exactly these
pub record WriterAcceptsExactly : Type 0 where
  pub accepted : (kind : Kind) (octets : List ℕ) → list_fault (Writing kind) octets ≡ 0 → WriterAccepts kind octets
  pub accepting : (kind : Kind) (octets : List ℕ) → WriterAccepts kind octets → list_fault (Writing kind) octets ≡ 0
