-- Document 01, 'Bits on the line': what stands on the line.
use Rattle.std.specs.Prelude.{ℕ, zero, suc, List, [], ◌∷◌, ◌++◌, replicate}
use Rattle.octets.specs.declared.Kind.{Kind}
use Rattle.octets.specs.declared.Kind.TheVariants.{Ci, Menu}
use Rattle.octets.specs.Octets.{b0, b1, b2, b3, b4, b5, b6, b7}

-- "Each octet is 0, then b0 to b7 (b0 first, weight 1), then 1."
unfoldable pub framed : ℕ → List ℕ
framed b = 0 ∷ b0 b ∷ b1 b ∷ b2 b ∷ b3 b ∷ b4 b ∷ b5 b ∷ b6 b ∷ b7 b ∷ 1 ∷ []

-- octets, one behind the other
unfoldable pub framed_all : List ℕ → List ℕ
framed_all [] = []
framed_all (b ∷ bs) = framed b ++ framed_all bs

-- "ten 1s"
abbrev pub ten_ones : List ℕ
ten_ones = replicate 10 1

-- the table of sync bits: CI 0000000001, menu 0000001111
abbrev pub sync : Kind → List ℕ
sync Ci = 0 ∷ 0 ∷ 0 ∷ 0 ∷ 0 ∷ 0 ∷ 0 ∷ 0 ∷ 0 ∷ 1 ∷ []
sync Menu = 0 ∷ 0 ∷ 0 ∷ 0 ∷ 0 ∷ 0 ∷ 1 ∷ 1 ∷ 1 ∷ 1 ∷ []

-- and in it V.92's own, 0101010101, which is no kind of ours
abbrev pub v92_sync : List ℕ
v92_sync = 0 ∷ 1 ∷ 0 ∷ 1 ∷ 0 ∷ 1 ∷ 0 ∷ 1 ∷ 0 ∷ 1 ∷ []

-- "A sequence is ten 1s, ten sync bits, then octets."
unfoldable pub sequence : Kind → List ℕ → List ℕ
sequence kind octets = ten_ones ++ sync kind ++ framed_all octets

-- "a stated number of copies", one behind the other
unfoldable pub copies : ℕ → List ℕ → List ℕ
copies zero bits = []
copies (suc n) bits = bits ++ copies n bits

-- "CJ is the octet 00 three times, each framed, with no preamble"
unfoldable pub cj : List ℕ
cj = framed_all (0 ∷ 0 ∷ 0 ∷ [])
