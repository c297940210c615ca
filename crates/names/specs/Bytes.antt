-- Texts in ASCII as bytes.
use Rattle.std.specs.Prelude.{ℕ, List, [] as no_bytes, ◌∷◌ as ◌then◌}
use Prim.Native.Char.{code}
use Prim.Native.String.{String, [], ◌∷◌}

-- the numbers of its characters
unfoldable pub bytes : String → List ℕ
bytes [] = no_bytes
bytes (c ∷ s) = code c then bytes s
