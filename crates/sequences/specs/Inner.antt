-- What the private functions of this crate promise each other. No public promise names it.
use Rattle.std.specs.Prelude.{ℕ, suc, ◌+◌, ◌*◌, ◌%◌, ◌/◌, ◌≤◌, ◌≡◌, List, [], ◌∷◌, length, take, drop}
use Rattle.laws.specs.Front.{front}
use Rattle.octets.specs.declared.Kind.{Kind}
use Rattle.octets.specs.declared.Kind.TheVariants.{Ci, Menu}
use Rattle.octets.specs.Lists.{until_category}
use Rattle.sequences.specs.Line.{framed_all}

-- ten bits as one number, the lowest first: how the writer holds what it stores next
unfoldable pub ten_bits : ℕ → List ℕ
ten_bits v = v % 2 ∷ v / 2 % 2 ∷ v / 4 % 2 ∷ v / 8 % 2 ∷ v / 16 % 2 ∷ v / 32 % 2 ∷ v / 64 % 2 ∷ v / 128 % 2 ∷ v / 256 % 2 ∷ v / 512 % 2 ∷ []

-- four bits, a byte for each, the lowest first
abbrev pub spreads : List ℕ
spreads = 0x0 ∷ 0x1 ∷ 0x100 ∷ 0x101 ∷ 0x10000 ∷ 0x10001 ∷ 0x10100 ∷ 0x10101 ∷ 0x1000000 ∷ 0x1000001 ∷ 0x1000100 ∷ 0x1000101 ∷ 0x1010000 ∷ 0x1010001 ∷ 0x1010100 ∷ 0x1010101 ∷ []

-- "ten 1s"
abbrev pub ones_ten : ℕ
ones_ten = 1023

-- "ten sync bits"
abbrev pub sync_ten : Kind → ℕ
sync_ten Ci = 512
sync_ten Menu = 960

-- "Each octet is 0, then b0 to b7 (b0 first, weight 1), then 1."
abbrev pub octet_ten : ℕ → ℕ
octet_ten b = 512 + 2 * b

-- "A group is a category octet with the extension octets after it": the first r octets, framed at the front of what was lent
pub record Grouped (octets out : List ℕ) (r : ℕ) (after : List ℕ) : Type 0 where
  pub count : r ≡ suc (until_category (drop 1 octets))
  pub some : r ≤ length octets
  pub buffer : after ≡ front (framed_all (take r octets)) out
