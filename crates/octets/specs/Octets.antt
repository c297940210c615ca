-- Document 01, 'Bits on the line': the bits of an octet and the kinds of octets.
use Rattle.std.specs.Prelude.{ℕ, ◌+◌, ◌*◌, ◌%◌, ◌/◌, Bool, eqb}
use Rattle.laws.specs.Logic.{both, either}

-- "b0 to b7 (b0 first, weight 1)"
abbrev pub b0 : ℕ → ℕ
b0 b = b % 2

abbrev pub b1 : ℕ → ℕ
b1 b = b / 2 % 2

abbrev pub b2 : ℕ → ℕ
b2 b = b / 4 % 2

abbrev pub b3 : ℕ → ℕ
b3 b = b / 8 % 2

abbrev pub b4 : ℕ → ℕ
b4 b = b / 16 % 2

abbrev pub b5 : ℕ → ℕ
b5 b = b / 32 % 2

abbrev pub b6 : ℕ → ℕ
b6 b = b / 64 % 2

abbrev pub b7 : ℕ → ℕ
b7 b = b / 128 % 2

-- "A category octet has b4 = 0"
abbrev pub category : ℕ → Bool
category b = eqb (b4 b) 0

-- ".. and a tag in b0 to b3"
abbrev pub tag : ℕ → ℕ
tag b = b % 16

-- the table of tags: 1 is the call function's
abbrev pub call_function_tag : ℕ
call_function_tag = 1

-- "b5 to b7 as a number, b5 lowest"
abbrev pub options : ℕ → ℕ
options b = b / 32 % 8

-- the category octet that has this tag and these options
abbrev pub category_octet : ℕ → ℕ → ℕ
category_octet tag options = tag % 16 + 32 * (options % 8)

-- "An extension octet has b4 = 1, b3 = 0, b5 = 0."
abbrev pub extension : ℕ → Bool
extension b = both (eqb (b4 b) 1) (both (eqb (b3 b) 0) (eqb (b5 b) 0))

-- refusal 3, "b4 = 1 with b3 or b5 = 1"
abbrev pub bad : ℕ → Bool
bad b = both (eqb (b4 b) 1) (either (eqb (b3 b) 1) (eqb (b5 b) 1))
