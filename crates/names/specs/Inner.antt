-- How the code holds the names, and what is written of them.
use Rattle.std.specs.Prelude.{ℕ, Bool, List, map, eqb}
use Rattle.std.specs.Borrow.{Bor}
use Rattle.laws.specs.Logic.{both}
use Rattle.items.specs.Items.{in_set}
use Rattle.names.specs.Names.{Entry}

-- some names as entries, where a text is read as its bytes
module _ {Text : Type 0} (bytes_of : Text → List ℕ) where
  abbrev pub entry_of : Text × ℕ × ℕ → Entry
  entry_of row = record { name = bytes_of row.0; kind = row.1; number = row.2 }

  abbrev pub entries : List (Text × ℕ × ℕ) → List Entry
  entries rows = map entry_of rows

-- the bytes of a text that is lent
abbrev pub lent : Bor (List ℕ) → List ℕ
lent text = text.now

-- whether what is named is of this kind and in the set
abbrev pub shown : ℕ → ℕ → ℕ → ℕ → Bool
shown its_kind number kind set = both (eqb its_kind kind) (in_set set number)
